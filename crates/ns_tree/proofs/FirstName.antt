-- The first component of a path.
use Rattle.std.proofs.Common.{◌≡◌, ◌==◌, ℕ, zero, suc, ◌<◌, ◌+◌, List, [], ◌∷◌, ◌++◌, length, take, drop, get_or, refl, sym, subst, arith, false, add-one, drop-cons}
use Rattle.std.proofs.lemmas.Bool.{or_parts}
use Rattle.std.proofs.lemmas.List.{take-append-drop, drop_all}
use Rattle.ns_tree.specs.Path.{has_slash}
use Rattle.ns_tree.specs.Branches.{IsLed}

pub plain_more : (xs : List ℕ) (i : ℕ) → i < length xs → has_slash (take i xs) ≡ false → (get_or xs i 0 == 47) ≡ false → has_slash (take (i + 1) xs) ≡ false
plain_more xs i h e ne = rw add-one (by xs i h e ne)
  where
    by : (xs : List ℕ) (i : ℕ) → i < length xs → has_slash (take i xs) ≡ false → (get_or xs i 0 == 47) ≡ false → has_slash (take (suc i) xs) ≡ false
    by [] i h e ne = absurd (omega arith)
    by (b ∷ bs) zero h e ne = rw ne refl
    by (b ∷ bs) (suc i) h e ne = let p = or_parts (b == 47) (has_slash (take i bs)) e in rw p.0 (by bs i (omega arith) p.1 ne)

pub led_at : (xs : List ℕ) (i : ℕ) → i < length xs → get_or xs i 0 ≡ 47 → IsLed (drop i xs)
led_at xs i h e = subst IsLed (sym (drop-cons xs i 0 h)) e

pub led_end : (xs : List ℕ) → IsLed (drop (length xs) xs)
led_end xs = subst IsLed (sym (drop_all (length xs) xs (omega arith))) tt

pub parted : (p : List ℕ) (k : ℕ) → 0 < length p → IsLed p → p ≡ 47 ∷ take k (drop 1 p) ++ drop k (drop 1 p)
parted [] k h l = absurd (omega arith)
parted (b ∷ bs) k h l = let whole = take-append-drop k bs in cc
