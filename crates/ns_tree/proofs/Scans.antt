-- The scan of a path, component by component.
use Rattle.std.proofs.Common.{◌≡◌, ℕ, zero, suc, ◌<◌, ◌≤◌, ◌+◌, ◌-◌, List, [], ◌∷◌, length, take, drop, refl, ◌∙◌, ap, arith, true, false, get_or, ◌==◌, add-one, drop-cons}
use Rattle.std.proofs.Math.Seq.{take-suc}
use Rattle.std.proofs.lemmas.List.{get_or-drop, length-drop}
use Rattle.std.proofs.lemmas.Bool.Decides.{nat_tests}
use Rattle.ns_tree.specs.Path.{are_components, is_component, has_slash, before_last_slash}

next_byte : (p : List ℕ) (i : ℕ) → i < length p → drop i p ≡ get_or p i 0 ∷ drop (i + 1) p
next_byte p i h = rw add-one (drop-cons p i 0 h)

-- a `/` ends a good component
pub ended : (p : List ℕ) (start i : ℕ) → i < length p → get_or p i 0 ≡ 47 → is_component (take (i - start) (drop start p)) ≡ true
    → are_components (take (i - start) (drop start p)) (drop i p) ≡ are_components (take (i + 1 - (i + 1)) (drop (i + 1) p)) (drop (i + 1) p)
ended p start i h slash good =
    let none : i + 1 - (i + 1) ≡ 0 = omega arith in
    rw (next_byte p i h, slash, good, none) refl

-- another byte goes to the component
pub grown : (p : List ℕ) (start i : ℕ) → start ≤ i → i < length p → (get_or p i 0 == 47) ≡ false
    → are_components (take (i - start) (drop start p)) (drop i p) ≡ are_components (take (i + 1 - start) (drop start p)) (drop (i + 1) p)
grown p start i le h other =
    let more : i + 1 - start ≡ suc (i - start) = omega arith in
    let long : i - start < length (drop start p) = omega (arith, length-drop start p) in
    let at : start + (i - start) ≡ i = omega arith in
    let byte : get_or (drop start p) (i - start) 0 ≡ get_or p i 0 = get_or-drop start p (i - start) 0 ∙ ap (λ k. get_or p k 0) at in
    let front = take-suc (drop start p) (i - start) 0 long in
    rw (next_byte p i h, other, more, front, byte) refl

pub slash_at : (p : List ℕ) (i : ℕ) → i < length p → get_or p i 0 ≡ 47 → has_slash p ≡ true
slash_at [] i h e = absurd (omega arith)
slash_at (b ∷ bs) zero h e = grind (arith, nat_tests)
slash_at (b ∷ bs) (suc i) h e = let rest = slash_at bs i (omega arith) e in grind (arith, nat_tests)

-- the last `/` of a path
pub last_slash : (p : List ℕ) (i : ℕ) → i < length p → get_or p i 0 ≡ 47 → has_slash (drop (i + 1) p) ≡ false → before_last_slash p ≡ take i p
last_slash p i h slash none = by p i h slash (rw add-one at none)
  where
    by : (p : List ℕ) (i : ℕ) → i < length p → get_or p i 0 ≡ 47 → has_slash (drop (suc i) p) ≡ false → before_last_slash p ≡ take i p
    by [] i h e none = absurd (omega arith)
    by (b ∷ bs) zero h e none = rw none refl
    by (b ∷ bs) (suc i) h e none = rw (slash_at bs i (omega arith) e) (ap (λ ys. b ∷ ys) (by bs i (omega arith) e none))

pub no_slash : (p : List ℕ) → has_slash p ≡ false → before_last_slash p ≡ []
no_slash [] e = refl
no_slash (b ∷ bs) e = let none : has_slash bs ≡ false = grind (arith, nat_tests) in rw none refl
