-- Bytes over others: what stands in front, after, and before the change.
use Rattle.std.proofs.Common.{◌≡◌, ℕ, ◌+◌, ◌-◌, ◌≤◌, ◌⊎◌, ⊎_elim, List, [], ◌++◌, refl, ap, sym, ◌∙◌, arith, take, drop, length, length-append, length-take, length-drop, length-take-le}
use Rattle.std.specs.Prelude.{min, max, Option, Some, None}
use Rattle.std.proofs.lemmas.List.{append-nil, take_all, drop_all, take_at, drop_at, take-append-le, take-append-drop, take-take, drop-take, take_min}
use Rattle.std.proofs.Math.Seq.{take-add, take-append-add}
use Rattle.base_disk.specs.Files.{IsTorn, Torn, IsCut, bytes_of}
use Rattle.base_disk.specs.FileView.{overwritten}

pub le_or : (a b : ℕ) → (a ≤ b) ⊎ (b ≤ a)
le_or a b = grind arith

-- the bytes up to the end of the range
both : (at : ℕ) (bytes old : List ℕ) → at ≤ length old → length (take at old ++ bytes) ≡ at + length bytes
both at bytes old le = omega (arith, length-append (take at old) bytes, length-take-le at old le)

pub length-overwritten : (at : ℕ) (bytes old : List ℕ) → at ≤ length old → length (overwritten at bytes old) ≡ max (length old) (at + length bytes)
length-overwritten at bytes old le = omega (arith, length-append (take at old ++ bytes) (drop (at + length bytes) old), both at bytes old le, length-drop (at + length bytes) old)

pub take-overwritten : (at : ℕ) (bytes old : List ℕ) → at ≤ length old → take at (overwritten at bytes old) ≡ take at old
take-overwritten at bytes old le =
    take-append-le at (take at old ++ bytes) (drop (at + length bytes) old) (omega (arith, both at bytes old le)) ∙ take_at (take at old) bytes at (length-take-le at old le)

pub drop-overwritten : (at : ℕ) (bytes old : List ℕ) → at ≤ length old → drop (at + length bytes) (overwritten at bytes old) ≡ drop (at + length bytes) old
drop-overwritten at bytes old le = drop_at (take at old ++ bytes) (drop (at + length bytes) old) (at + length bytes) (both at bytes old le)

-- a write that was done is one that could have been cut short
pub done_is_torn : (at : ℕ) (bytes old : List ℕ) → at ≤ length old → IsTorn at (length bytes) old (overwritten at bytes old)
done_is_torn at bytes old le = record {
  before = take-overwritten at bytes old le;
  after = drop-overwritten at bytes old le;
  no_shorter = omega (arith, length-overwritten at bytes old le);
  no_longer = omega (arith, length-overwritten at bytes old le);
}

pub option_torn : (at : ℕ) (bytes : List ℕ) (old : Option (List ℕ)) → at ≤ length (bytes_of old) → Torn at (length bytes) old (Some (overwritten at bytes (bytes_of old)))
option_torn at bytes None le = done_is_torn at bytes [] le
option_torn at bytes (Some old) le = done_is_torn at bytes old le

-- the first bytes of a buffer, written over, are those of the buffer written over
pub take-overwritten-more : (at : ℕ) (bytes old : List ℕ) (end : ℕ) → at ≤ end → end ≤ length old → take (max end (at + length bytes)) (overwritten at bytes old) ≡ overwritten at bytes (take end old)
take-overwritten-more at bytes old end le fits = ⊎_elim inside past (le_or end (at + length bytes))
  where
    same_front : take at (take end old) ≡ take at old
    same_front = take-take at end old le

    inside : end ≤ at + length bytes → take (max end (at + length bytes)) (overwritten at bytes old) ≡ overwritten at bytes (take end old)
    inside short =
        let m : max end (at + length bytes) ≡ at + length bytes = omega arith in
        let none : drop (at + length bytes) (take end old) ≡ [] = drop_all (at + length bytes) (take end old) (omega (arith, length-take end old)) in
        ap (λ (n : ℕ). take n (overwritten at bytes old)) m ∙ take_at (take at old ++ bytes) (drop (at + length bytes) old) (at + length bytes) (both at bytes old (omega arith))
        ∙ sym (append-nil (take at old ++ bytes)) ∙ ap (λ (l : List ℕ). (take at old ++ bytes) ++ l) (sym none)
        ∙ ap (λ (l : List ℕ). (l ++ bytes) ++ drop (at + length bytes) (take end old)) (sym same_front)

    past : at + length bytes ≤ end → take (max end (at + length bytes)) (overwritten at bytes old) ≡ overwritten at bytes (take end old)
    past long =
        let m : max end (at + length bytes) ≡ length (take at old ++ bytes) + (end - (at + length bytes)) = omega (arith, both at bytes old (omega arith)) in
        let rest : drop (at + length bytes) (take end old) ≡ take (end - (at + length bytes)) (drop (at + length bytes) old) =
        ap (λ (n : ℕ). drop (at + length bytes) (take n old)) (let e : end ≡ (at + length bytes) + (end - (at + length bytes)) = omega arith in e)
        ∙ drop-take (at + length bytes) (end - (at + length bytes)) old in
        ap (λ (n : ℕ). take n (overwritten at bytes old)) m ∙ take-append-add (take at old ++ bytes) (drop (at + length bytes) old) (end - (at + length bytes))
        ∙ ap (λ (l : List ℕ). (take at old ++ bytes) ++ l) (sym rest) ∙ ap (λ (l : List ℕ). (l ++ bytes) ++ drop (at + length bytes) (take end old)) (sym same_front)

-- what was written over, put back, gives the buffer as it was
pub put_back : (at over : ℕ) (bytes before old : List ℕ) → at ≤ length old → over ≡ min (length bytes) (length old - at) → before ≡ take over (drop at old)
    → take (length old) (take at (overwritten at bytes old) ++ before ++ drop (at + length before) (overwritten at bytes old)) ≡ old
put_back at over bytes before old le is same =
    let long : length before ≡ over = ap (λ (l : List ℕ). length l) same ∙ (let e : length (take over (drop at old)) ≡ over = omega (arith, length-take over (drop at old), length-drop at old) in e) in
    let joined : take at (overwritten at bytes old) ++ before ≡ take (at + over) old =
    ap (λ (l : List ℕ). l ++ before) (take-overwritten at bytes old le) ∙ ap (λ (l : List ℕ). take at old ++ l) same ∙ sym (take-add at over old) in
    ap (λ (l : List ℕ). take (length old) (l ++ drop (at + length before) (overwritten at bytes old))) joined
    ∙ ap (λ (n : ℕ). take (length old) (take (at + over) old ++ drop (at + n) (overwritten at bytes old))) long
    ∙ ⊎_elim fits goes_past (le_or (length bytes) (length old - at))
  where
    fits : length bytes ≤ length old - at → take (length old) (take (at + over) old ++ drop (at + over) (overwritten at bytes old)) ≡ old
    fits short =
        let e : over ≡ length bytes = omega arith in
        ap (λ (n : ℕ). take (length old) (take (at + over) old ++ drop (at + n) (overwritten at bytes old))) e
        ∙ ap (λ (l : List ℕ). take (length old) (take (at + over) old ++ l)) (drop-overwritten at bytes old le)
        ∙ ap (λ (n : ℕ). take (length old) (take (at + over) old ++ drop (at + n) old)) (sym e)
        ∙ ap (λ (l : List ℕ). take (length old) l) (take-append-drop (at + over) old) ∙ take_all (length old) old (omega arith)

    goes_past : length old - at ≤ length bytes → take (length old) (take (at + over) old ++ drop (at + over) (overwritten at bytes old)) ≡ old
    goes_past long =
        let e : at + over ≡ length old = omega arith in
        ap (λ (l : List ℕ). take (length old) (l ++ drop (at + over) (overwritten at bytes old))) (take_all (at + over) old (omega arith))
        ∙ take_at old (drop (at + over) (overwritten at bytes old)) (length old) refl

-- a cut
pub done_is_cut : (to : ℕ) (old : List ℕ) → IsCut to old (take to old)
done_is_cut to old =
    let long : length (take to old) ≡ min to (length old) = length-take to old in
    record { no_shorter = omega (arith, long); front = ap (λ (n : ℕ). take n old) long ∙ take_min to old }

-- a new file's first write, cut short
pub all_torn : (bytes : List ℕ) → IsTorn 0 (length bytes) [] bytes
all_torn bytes = record {
  before = refl;
  after = drop_all (0 + length bytes) bytes (omega arith) ∙ sym (drop_all (0 + length bytes) [] (omega arith));
  no_shorter = omega arith;
  no_longer = omega arith;
}
