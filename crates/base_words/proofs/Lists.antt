-- Lists that hold something, and the turns that a loop has left.
use Rattle.std.proofs.Common.{◌≡◌, ◌≢◌, ◌<◌, ◌≤◌, ◌+◌, ◌-◌, ℕ, suc, List, [], ◌∷◌, length, eqb, false, refl, arith}

pub some_there : {A : Type 0} (xs : List A) → eqb (length xs) 0 ≡ false → 0 < length xs
some_there [] e = absurd cc
some_there (x ∷ xs) e = omega arith

pub some_length : {A : Type 0} (xs : List A) → xs ≢ [] → 0 < length xs
some_length [] some = absurd (some refl)
some_length (x ∷ xs) some = omega arith

pub one_left : {count i : ℕ} → i < count → count - i ≡ suc (count - (i + 1))
one_left lt = omega (arith, lt)

pub none_left : {count i : ℕ} → count ≤ i → count - i ≡ 0
none_left le = omega (arith, le)
