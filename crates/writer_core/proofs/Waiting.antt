-- The first place of a list at which a test passes.
use Rattle.std.proofs.Common.{ℕ, ◌≡◌, ◌<◌, ◌≤◌, ◌+◌, List, [], ◌∷◌, length, is_some, Bool, true, false, cond, not, refl, arith, suc, zero, position, set, get_or}
use Rattle.std.specs.List.{list_any, position_or_len}
use Rattle.std.proofs.lemmas.Bool.Decides.{nat_tests}

passes_later : (b : Bool) (n i : ℕ) → suc i ≤ cond (not b) (1 + n) 0 → (b ≡ false) × (i ≤ n)
passes_later true n i h = absurd (omega arith)
passes_later false n i h = (refl, omega arith)

pub next_at : {X : Type 0} (p : X → Bool) (xs : List X) (i : ℕ) (d : X) → i ≤ position_or_len p xs → i < length xs → p (get_or xs i d) ≡ true → position_or_len p xs ≡ i
next_at p [] i d h l e = absurd (omega arith)
next_at p (x ∷ xs) zero d h l e = rw e refl
next_at p (x ∷ xs) (suc i) d h l e =
    let s = passes_later (p x) (position_or_len p xs) i h in rw s.0 (omega (arith, next_at p xs i d s.1 (omega arith) e))

pub next_past : {X : Type 0} (p : X → Bool) (xs : List X) (i : ℕ) (d : X) → i ≤ position_or_len p xs → i < length xs → p (get_or xs i d) ≡ false → i + 1 ≤ position_or_len p xs
next_past p [] i d h l e = absurd (omega arith)
next_past p (x ∷ xs) zero d h l e = rw e (omega arith)
next_past p (x ∷ xs) (suc i) d h l e =
    let s = passes_later (p x) (position_or_len p xs) i h in rw s.0 (omega (arith, next_past p xs i d s.1 (omega arith) e))

at_most : (b : Bool) (n m : ℕ) → n ≤ m → cond (not b) (1 + n) 0 ≤ m + 1
at_most true n m h = omega arith
at_most false n m h = omega arith

pub within : {X : Type 0} (p : X → Bool) (xs : List X) → position_or_len p xs ≤ length xs
within p [] = omega arith
within p (x ∷ xs) =
    let h : cond (not (p x)) (1 + position_or_len p xs) 0 ≤ length xs + 1 = at_most (p x) (position_or_len p xs) (length xs) (within p xs) in
    omega (arith, h)

-- a place before the first one is written by what fails, or that one itself
pub past_set : {X : Type 0} (p : X → Bool) (xs : List X) (i : ℕ) (y : X) → position_or_len p xs ≡ i → i < length xs → p y ≡ false → i + 1 ≤ position_or_len p (set xs i y)
past_set p [] i y e l f = absurd (omega arith)
past_set p (x ∷ xs) zero y e l f = rw f (omega arith)
past_set p (x ∷ xs) (suc i) y e l f =
    let s = passes_later (p x) (position_or_len p xs) i (omega (arith, e)) in
    let n : cond (not (p x)) (1 + position_or_len p xs) 0 ≡ 1 + position_or_len p xs = rw s.0 refl in
    rw s.0 (omega (arith, past_set p xs i y (omega (arith, n, e)) (omega arith) f))

pub any_place : {X : Type 0} (p : X → Bool) (xs : List X) → list_any p xs ≡ is_some (position p xs)
any_place p [] = refl
any_place p (x ∷ xs) = grind (arith, nat_tests, any_place p xs)
