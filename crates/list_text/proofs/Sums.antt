-- Sums of numbers of 64 bits.
use Rattle.std.proofs.Common.{◌≡◌, ℕ, zero, suc, ◌+◌, ◌*◌, ◌<◌, ◌≤◌, List, [], ◌∷◌, length, get_or, take, sum, ap, ◌∙◌, arith}
use Rattle.std.proofs.lemmas.List.Sums.{sum_by-cons, sum_by_more}

-- the sum of the first numbers, each of at most m
pub sum_first : (m : ℕ) (xs : List ℕ) (i : ℕ) → ((k : ℕ) → get_or xs k 0 ≤ m) → i ≤ length xs → sum (take i xs) ≤ i * m
sum_first m xs zero each le = omega arith
sum_first m xs (suc i) each le =
    let before : sum (take i xs) ≤ i * m = sum_first m xs i each (omega (arith, le)) in
    let next : suc i ≡ i + 1 = omega arith in
    let more : sum (take (suc i) xs) ≡ sum (take i xs) + get_or xs i 0 = ap (λ (n : ℕ). sum (take n xs)) next ∙ sum_by_more (λ (x : ℕ). x) xs i 0 (omega (arith, le)) in
    let product : suc i * m ≡ m + i * m = omega arith in
    omega (arith, before, more, product, each i)

-- one number more has room in 128 bits
pub room : (xs : List ℕ) (i size n : ℕ) → size ≡ sum (take i xs) → ((k : ℕ) → get_or xs k 0 ≤ 18446744073709551615) → i < length xs → length xs ≤ 18446744073709551615
    → n ≤ 18446744073709551615 → size + n < 340282366920938463463374607431768211456
room xs i size n is each lt few small = omega (arith, is, sum_first 18446744073709551615 xs i each (omega (arith, lt)), lt, few, small)
