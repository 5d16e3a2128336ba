-- A field that is read is the field that was written, and what was written is read again.
use Rattle.std.proofs.Common.{◌≡◌, ℕ, ◌^◌, ◌<◌, ◌≤◌, Bool, true, false, List, [], ◌∷◌, ◌++◌, length, take, drop, Result, Ok, Err, refl, sym}
use Rattle.std.proofs.Common.{ap, subst, ◌∙◌, append_assoc, arith, ◌&&◌, ◌==◌}
use Rattle.std.specs.Prelude.{nat_le, ◌||◌}
use Rattle.std.specs.Int.{Width, w16, byte_len, from_be_bytes, to_be_bytes}
use Rattle.std.proofs.lemmas.Bool.{leb-true, le-leb, and_parts}
use Rattle.std.proofs.lemmas.List.{take_at, drop_at, length-append, length-take}
use Rattle.base_words.specs.Fields.{IsBytes}
use Rattle.base_words.proofs.FieldLaws.{Begins, Begins-then, begins_cut, front_begins, IsField, field16}
use Rattle.ns_tree.specs.Path.{is_path, is_owner, is_letter, all_owner_bytes}
use Rattle.ns_image.specs.declared.image_cause.ImageCause.{ImageCause}
use Rattle.ns_image.specs.declared.image_cause.ImageCause.TheVariants.{Short, Field}
use Rattle.ns_image.specs.declared.image_fault.ImageFault.{ImageFault}
use Rattle.ns_image.specs.Layouts.{text_bytes}
use Rattle.ns_image.specs.Reading.{◌>>=◌, wanted, byte_at, whole_at, number_at, text_at, is_short_path, path_at, owner_at}

-- ## Steps
-- both steps of a reading went well
pub bind_ok : {A B : Type 0} {r : Result A ImageFault} {f : A → Result B ImageFault} {y : B} → (r >>= f) ≡ Ok y → (x : A) × (r ≡ Ok x) × (f x ≡ Ok y)
bind_ok {r = Ok x} {f = f} {y = y} e = (x, refl, e)
bind_ok {r = Err d} {f = f} {y = y} e = absurd cc

-- what was wanted was so
pub wanted_ok : {A : Type 0} (good : Bool) (cause : ImageCause) (bytes : List ℕ) (x y : A) → wanted good cause bytes x ≡ Ok y → (good ≡ true) × (x ≡ y)
wanted_ok true cause bytes x y e = (refl, cc)
wanted_ok false cause bytes x y e = absurd cc

-- a value was read and was as wanted
tested : {A : Type 0} (read : Result (A × List ℕ) ImageFault) (test : A → Bool) (cause : ImageCause) (bytes : List ℕ) (x : A × List ℕ)
    → (read >>= λ y. wanted (test y.0) cause bytes y) ≡ Ok x → (read ≡ Ok x) × (test x.0 ≡ true)
tested (Ok y) test cause bytes x e = let w = wanted_ok (test y.0) cause bytes y x e in (ap (λ z. Ok z) w.1, ap (λ z. test z.0) (sym w.1) ∙ w.0)
tested (Err fault) test cause bytes x e = absurd cc

-- ## Numbers
module _ {w : Width} {limit : ℕ} (field : IsField w (byte_len w) limit) where
  pub whole_takes : {bytes : List ℕ} {x : ℕ × List ℕ} → IsBytes bytes → whole_at w bytes ≡ Ok x → Begins bytes (to_be_bytes w x.0) x.1 × (x.0 < limit)
  unfolding whole_at
  whole_takes {bytes = bytes} {x = x} fits e =
      let size = byte_len w in
      let g = wanted_ok (nat_le size (length bytes)) Short bytes (from_be_bytes w (take size bytes), drop size bytes) x e in
      let f = field.found bytes fits (leb-true _ _ g.0) in
      subst (λ (y : ℕ × List ℕ). Begins bytes (to_be_bytes w y.0) y.1 × (y.0 < limit)) g.1 (front_begins f fits, f.small)

  pub whole_again : (n : ℕ) (rest : List ℕ) → n < limit → whole_at w (to_be_bytes w n ++ rest) ≡ Ok (n, rest)
  unfolding whole_at
  whole_again n rest lt =
      let f = field.put n rest lt in
      let enough : nat_le (byte_len w) (length (to_be_bytes w n ++ rest)) ≡ true = le-leb _ _ f.enough in
      let number : from_be_bytes w (take (byte_len w) (to_be_bytes w n ++ rest)) ≡ n = f.number in
      let after : drop (byte_len w) (to_be_bytes w n ++ rest) ≡ rest = f.after in
      rw (enough, number, after) refl

  pub number_takes : {low high : ℕ} (cause : ImageCause) {bytes : List ℕ} {x : ℕ × List ℕ} → IsBytes bytes → number_at w low high cause bytes ≡ Ok x
      → Begins bytes (to_be_bytes w x.0) x.1 × (low ≤ x.0) × (x.0 ≤ high)
  unfolding number_at
  number_takes {low = low} {high = high} cause {bytes = bytes} {x = x} fits e =
      let n = tested (whole_at w bytes) (λ n. nat_le low n && nat_le n high) cause bytes x e in
      let t = whole_takes fits n.0 in
      let within = and_parts (nat_le low x.0) (nat_le x.0 high) n.1 in
      (t.0, leb-true _ _ within.0, leb-true _ _ within.1)

  pub number_again : (low high : ℕ) (cause : ImageCause) (n : ℕ) (rest : List ℕ) → n < limit → low ≤ n → n ≤ high → number_at w low high cause (to_be_bytes w n ++ rest) ≡ Ok (n, rest)
  unfolding number_at
  number_again low high cause n rest lt above below =
      let least : nat_le low n ≡ true = le-leb _ _ above in
      let most : nat_le n high ≡ true = le-leb _ _ below in
      rw (whole_again n rest lt, least, most) refl

-- ## Bytes
pub byte_takes : {high : ℕ} {bytes : List ℕ} {x : ℕ × List ℕ} → IsBytes bytes → byte_at high bytes ≡ Ok x → Begins bytes (x.0 ∷ []) x.1 × (x.0 ≤ high)
unfolding byte_at
byte_takes {high = high} {bytes = []} {x = x} fits e = absurd cc
byte_takes {high = high} {bytes = byte ∷ bytes} {x = x} fits e =
    let g = wanted_ok (nat_le byte high) Field (byte ∷ bytes) (byte, bytes) x e in
    subst (λ (y : ℕ × List ℕ). Begins (byte ∷ bytes) (y.0 ∷ []) y.1 × (y.0 ≤ high)) g.1 (begins_cut 1 (byte ∷ bytes) fits, leb-true _ _ g.0)

pub byte_again : (high byte : ℕ) (rest : List ℕ) → byte ≤ high → byte_at high (byte ∷ rest) ≡ Ok (byte, rest)
unfolding byte_at
byte_again high byte rest le = let most : nat_le byte high ≡ true = le-leb _ _ le in rw most refl

-- ## Texts
text_takes : {bytes : List ℕ} {x : List ℕ × List ℕ} → IsBytes bytes → text_at bytes ≡ Ok x → Begins bytes (text_bytes x.0) x.1
unfolding text_at
text_takes {bytes = bytes} {x = x} fits e =
    let b = bind_ok e in
    let t = whole_takes field16 fits b.1 in
    let g = wanted_ok (nat_le b.0.0 (length b.0.1)) Short bytes (take b.0.0 b.0.1, drop b.0.0 b.0.1) x b.2 in
    let there : b.0.0 ≤ length b.0.1 = leb-true _ _ g.0 in
    let told : b.0.0 ≡ length (take b.0.0 b.0.1) = omega (arith, there, length-take b.0.0 b.0.1) in
    let whole : Begins bytes (text_bytes (take b.0.0 b.0.1)) (drop b.0.0 b.0.1) =
    subst (λ (k : ℕ). Begins bytes (to_be_bytes w16 k ++ take b.0.0 b.0.1) (drop b.0.0 b.0.1)) told (Begins-then t.0 (begins_cut b.0.0 b.0.1 t.0.left)) in
    subst (λ (y : List ℕ × List ℕ). Begins bytes (text_bytes y.0) y.1) g.1 whole

text_again : (text rest : List ℕ) → length text < 2 ^ 16 → text_at (text_bytes text ++ rest) ≡ Ok (text, rest)
unfolding text_at
text_again text rest short =
    let there : nat_le (length text) (length (text ++ rest)) ≡ true = le-leb _ _ (omega (arith, length-append text rest)) in
    ap text_at (append_assoc (to_be_bytes w16 (length text)) text rest)
    ∙ rw (whole_again field16 (length text) (text ++ rest) short, there, take_at text rest (length text) refl, drop_at text rest (length text) refl) refl

pub path_takes : {bytes : List ℕ} {x : List ℕ × List ℕ} → IsBytes bytes → path_at bytes ≡ Ok x → Begins bytes (text_bytes x.0) x.1 × (is_path x.0 ≡ true) × (length x.0 ≤ 1000)
unfolding path_at
path_takes {bytes = bytes} {x = x} fits e =
    let t = tested (text_at bytes) is_short_path Field bytes x e in
    let both = and_parts (is_path x.0) (nat_le (length x.0) 1000) t.1 in
    (text_takes fits t.0, both.0, leb-true _ _ both.1)

pub path_again : (path rest : List ℕ) → is_path path ≡ true → length path ≤ 1000 → path_at (text_bytes path ++ rest) ≡ Ok (path, rest)
unfolding path_at
path_again path rest good short =
    let most : nat_le (length path) 1000 ≡ true = le-leb _ _ short in
    rw (text_again path rest (omega (arith, short)), good, most) refl

pub owner_takes : {bytes : List ℕ} {x : List ℕ × List ℕ} → IsBytes bytes → owner_at bytes ≡ Ok x → Begins bytes (text_bytes x.0) x.1 × (is_owner x.0 ≡ true)
unfolding owner_at
owner_takes {bytes = bytes} {x = x} fits e = let t = tested (text_at bytes) is_owner Field bytes x e in (text_takes fits t.0, t.1)

-- a user or a group has at most 32 bytes
pub owner_short : (owner : List ℕ) → is_owner owner ≡ true → length owner ≤ 32
owner_short [] e = absurd cc
owner_short (b ∷ bs) e =
    let front = and_parts ((is_letter b || (b == 95)) && nat_le (length (b ∷ bs)) 32) (all_owner_bytes bs) e in
    leb-true _ _ (and_parts (is_letter b || (b == 95)) (nat_le (length (b ∷ bs)) 32) front.0).1

pub owner_again : (owner rest : List ℕ) → is_owner owner ≡ true → owner_at (text_bytes owner ++ rest) ≡ Ok (owner, rest)
unfolding owner_at
owner_again owner rest good = rw (text_again owner rest (omega (arith, owner_short owner good)), good) refl
