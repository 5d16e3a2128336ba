-- A piece of the bodies of frames: what stands after the first so many, and at most so many.
use Rattle.std.proofs.Common.{◌≡◌, ℕ, zero, suc, ◌+◌, ◌-◌, ◌^◌, ◌<◌, ◌≤◌, List, [], ◌∷◌, ◌++◌, length, take, drop, None, refl, sym, ap, subst, ◌∙◌, arith, append_assoc}
use Rattle.std.proofs.lemmas.List.{append-nil, drop-drop, drop-append-le, length-append}
use Rattle.journal_core.specs.Views.{BatchView}
use Rattle.disk_frame.specs.declared.frame_cause.FrameCause.{FrameCause}
use Rattle.disk_frame.specs.declared.scanned.Scan.{Scan}
use Rattle.disk_frame.specs.Frames.{frame_bytes, broken_rule, BeginWithFrames, IsTail}
use Rattle.disk_frame.specs.Faults.{Spells, IsBadFrame, HaveBadFrame}
use Rattle.disk_frame.specs.Answers.{IsWholeFrame, IsScan}
use Rattle.disk_frame.proofs.FrameLaws.{goes_on, no_frames}
use Rattle.disk_frame.proofs.RuleLaws.{next_within}
use Rattle.disk_frame.proofs.ReadLaws.{in_room}

module _ {X : Type 0} where
  pub drop_first : (k : ℕ) (x : X) (xs : List X) → 0 < k → drop k (x ∷ xs) ≡ drop (k - 1) xs
  drop_first zero x xs h = absurd (omega arith)
  drop_first (suc k) x xs h = let e : suc k - 1 ≡ k = omega arith in ap (λ (n : ℕ). drop n xs) (sym e)

  pub take_first : (k : ℕ) (x : X) (xs : List X) → 0 < k → take k (x ∷ xs) ≡ x ∷ take (k - 1) xs
  take_first zero x xs h = absurd (omega arith)
  take_first (suc k) x xs h = let e : suc k - 1 ≡ k = omega arith in ap (λ (n : ℕ). x ∷ take n xs) (sym e)

  none_dropped : (k : ℕ) → drop {A = X} k [] ≡ []
  none_dropped zero = refl
  none_dropped (suc k) = refl

  pub drop_both : (k : ℕ) (xs ys : List X) → drop k (xs ++ ys) ≡ drop k xs ++ drop (k - length xs) ys
  drop_both k [] ys = let e : k ≡ k - 0 = omega arith in ap (λ (n : ℕ). drop n ys) e ∙ ap (λ (l : List X). l ++ drop (k - 0) ys) (sym (none_dropped k))
  drop_both zero (x ∷ xs) ys = let e : 0 - suc (length xs) ≡ 0 = omega arith in ap (λ (n : ℕ). x ∷ (xs ++ drop n ys)) (sym e)
  drop_both (suc k) (x ∷ xs) ys = let e : k - length xs ≡ suc k - suc (length xs) = omega arith in drop_both k xs ys ∙ ap (λ (n : ℕ). drop k xs ++ drop n ys) e

  none_taken : (k : ℕ) → take {A = X} k [] ≡ []
  none_taken zero = refl
  none_taken (suc k) = refl

  pub take_both : (k : ℕ) (xs ys : List X) → take k (xs ++ ys) ≡ take k xs ++ take (k - length (take k xs)) ys
  take_both k [] ys =
      let e : k ≡ k - length (take {A = X} k []) = omega (arith, ap (λ (l : List X). length l) (none_taken k)) in
      ap (λ (n : ℕ). take n ys) e ∙ ap (λ (l : List X). l ++ take (k - length (take {A = X} k [])) ys) (sym (none_taken k))
  take_both zero (x ∷ xs) ys = refl
  take_both (suc k) (x ∷ xs) ys = let e : k - length (take k xs) ≡ suc k - suc (length (take k xs)) =
      omega arith in ap (λ (l : List X). x ∷ l) (take_both k xs ys ∙ ap (λ (n : ℕ). take k xs ++ take n ys) e)

  -- a piece of two lists
  pub piece_both : (most skip : ℕ) (xs ys : List X) → take most (drop skip (xs ++ ys)) ≡ take most (drop skip xs) ++ take (most - length (take most (drop skip xs))) (drop (skip - length xs) ys)
  piece_both most skip xs ys = ap (λ (l : List X). take most l) (drop_both skip xs ys) ∙ take_both most (drop skip xs) (drop (skip - length xs) ys)

-- one more body that comes before the piece
pub skipped : (bodies es rest : List (List ℕ)) (b : List ℕ) (before room : ℕ) → 0 < before → es ≡ b ∷ rest → bodies ++ take room (drop (before - 1) rest) ≡ bodies ++ take room (drop before es)
skipped bodies es rest b before room some is =
    ap (λ (l : List (List ℕ)). bodies ++ take room l) (sym (drop_first before b rest some)) ∙ ap (λ (l : List (List ℕ)). bodies ++ take room (drop before l)) (sym is)

-- one more body that was asked for
pub taken : (bodies new es rest : List (List ℕ)) (b : List ℕ) (before room : ℕ) → before ≤ 0 → 0 < room → es ≡ b ∷ rest → new ≡ bodies ++ b ∷ []
    → new ++ take (room - 1) (drop before rest) ≡ bodies ++ take room (drop before es)
taken bodies new es rest b before room none some is more =
    let zero-is : before ≡ 0 = omega arith in
    ap (λ (p : List (List ℕ) × ℕ). p.0 ++ take (room - 1) (drop p.1 rest)) (λ i. (more i, zero-is i)) ∙ (append_assoc bodies (b ∷ []) (take (room - 1) rest) ∙
    (ap (λ (l : List (List ℕ)). bodies ++ l) (sym (take_first room b rest some)) ∙ ap (λ (p : ℕ × List (List ℕ)). bodies ++ take room (drop p.0 p.1)) (λ i. (sym zero-is i, sym is i))))

-- ---- windows

-- what stands in a window stands in the bytes whose part it is
module _ (begin at place : ℕ) (bytes window others : List ℕ) (is : drop begin bytes ≡ window ++ others) (within : at ≤ length window) (placed : place ≡ begin + at) where
  pub in_bytes : drop place bytes ≡ drop at window ++ others
  in_bytes = ap (λ (n : ℕ). drop n bytes) placed ∙ (sym (drop-drop at begin bytes) ∙ (ap (drop at) is ∙ drop-append-le at window others within))

  pub spells_in_bytes : (b : BatchView) → Spells (drop at window) b → Spells (drop place bytes) b
  spells_in_bytes b spells = record {
    fits = spells.fits;
    rest = spells.rest ++ others;
    spelled = in_bytes ∙ (ap (λ (l : List ℕ). l ++ others) spells.spelled ∙ append_assoc (frame_bytes b) spells.rest others);
  }

pub scan_from : (first : ℕ) (bytes : List ℕ) (skip most : ℕ) (s : Scan) → s ≡ record { bodies = []; count = 0; whole_length = 0 } → IsScan first bytes skip most s
scan_from first bytes skip most s is = record {
  all = [];
  frames = subst (λ (n : ℕ). BeginWithFrames first bytes [] n) (sym (ap (λ (x : Scan). x.whole_length) is)) (no_frames first bytes);
  count = ap (λ (x : Scan). x.count) is;
  piece = ap (λ (x : Scan). x.bodies) is ∙ sym (ap (λ (l : List (List ℕ)). take most l) (none_dropped skip) ∙ none_taken most);
}

pub scan_more : (first : ℕ) (bytes : List ℕ) (skip most : ℕ) (s new : Scan) (count size : ℕ) → IsScan first bytes skip most s
    → (w : IsWholeFrame (first + s.count) (drop s.whole_length bytes) count size)
    → new.count ≡ s.count + count → new.whole_length ≡ s.whole_length + size
    → new.bodies ≡ s.bodies ++ take (most - length s.bodies) (drop (skip - s.count) w.batch.bodies) → IsScan first bytes skip most new
scan_more first bytes skip most s new count size so_far w counts ends pieces = record {
  all = so_far.all ++ w.batch.bodies;
  frames = subst (λ (n : ℕ). BeginWithFrames first bytes (so_far.all ++ w.batch.bodies) n) (ap (λ (n : ℕ). s.whole_length + n) (sym w.size_is) ∙ sym ends)
      (goes_on first bytes so_far.all s.whole_length w.batch so_far.frames w.spells (subst (λ (n : ℕ). broken_rule (first + n) w.batch ≡ None) so_far.count w.good));
  count = omega (arith, counts, so_far.count, w.count_is, length-append so_far.all w.batch.bodies);
  piece = pieces ∙ (ap (λ (k : ℕ × List (List ℕ)). k.1 ++ take (most - length k.1) (drop (skip - k.0) w.batch.bodies))
      (λ i. (so_far.count i, so_far.piece i)) ∙ sym (piece_both most skip so_far.all w.batch.bodies));
}

-- a scan goes on in a window, up to a place of it
pub record ScansOn (first skip most : ℕ) (window : List ℕ) (old new : Scan) (at : ℕ) : Type 0 where
  pub place : new.whole_length ≡ old.whole_length + at
  pub within : at ≤ length window
  pub txids : first + new.count < 2 ^ 64
  pub limit : first + old.count ≤ 4611686018427387905 → first + new.count ≤ 4611686018427387905
  pub scans : (bytes others : List ℕ) → drop old.whole_length bytes ≡ window ++ others → IsScan first bytes skip most old → IsScan first bytes skip most new

pub goes_on_in : (first skip most : ℕ) (window : List ℕ) (old s new : Scan) (at count size : ℕ) → ScansOn first skip most window old s at
    → (w : IsWholeFrame (first + s.count) (drop at window) count size)
    → new.count ≡ s.count + count → new.whole_length ≡ s.whole_length + size
    → new.bodies ≡ s.bodies ++ take (most - length s.bodies) (drop (skip - s.count) w.batch.bodies)
    → ScansOn first skip most window old new (at + size)
goes_on_in first skip most window old s new at count size so_far w counts ends pieces =
    let room = in_room window at (first + s.count) count size w in
    record {
      place = omega (arith, ends, so_far.place);
      within = room.there;
      txids = omega (arith, room.txids, counts);
      limit = λ le. omega (arith, next_within (first + s.count) w.batch w.good, w.count_is, counts);
      scans = λ bytes others is begun.
          scan_more first bytes skip most s new count size (so_far.scans bytes others is begun)
          (record {
            batch = w.batch;
            spells = spells_in_bytes old.whole_length at s.whole_length bytes window others is so_far.within so_far.place
                w.batch w.spells;
            good = w.good;
            count_is = w.count_is;
            size_is = w.size_is;
          })
          counts ends pieces;
    }

-- a scan whose window is all of the bytes
module _ (first : ℕ) (bytes : List ℕ) (skip most : ℕ) (old new : Scan) (begins : old ≡ record { bodies = []; count = 0; whole_length = 0 })
    (scans : (all others : List ℕ) → drop old.whole_length all ≡ bytes ++ others → IsScan first all skip most old → IsScan first all skip most new) where
  none_before : old.whole_length ≡ 0
  none_before = ap (λ (x : Scan). x.whole_length) begins

  pub scan_of_all : IsScan first bytes skip most new
  scan_of_all = scans bytes [] (ap (λ (n : ℕ). drop n bytes) none_before ∙ sym (append-nil bytes)) (scan_from first bytes skip most old begins)

  all_before : new.whole_length - old.whole_length ≡ new.whole_length
  all_before = omega (arith, none_before)

  pub tail_of_all : IsTail (drop (new.whole_length - old.whole_length) bytes) → IsTail (drop new.whole_length bytes)
  tail_of_all = subst (λ (n : ℕ). IsTail (drop n bytes)) all_before

  pub bad_of_all : (cause : FrameCause) → IsBadFrame (first + new.count) (drop (new.whole_length - old.whole_length) bytes) cause → HaveBadFrame first bytes new.whole_length cause
  bad_of_all cause bad = record {
    bodies = scan_of_all.all;
    frames = scan_of_all.frames;
    bad = subst (λ (p : ℕ × ℕ). IsBadFrame (first + p.0) (drop p.1 bytes) cause) (λ i. (scan_of_all.count i, all_before i)) bad;
  }
