-- What comes after the last `/` of a path.
use Rattle.std.proofs.Common.{◌≡◌, ℕ, zero, suc, ◌<◌, ◌+◌, List, [], ◌∷◌, length, drop, refl, arith, false, get_or, add-one}
use Rattle.ns_tree.specs.Path.{has_slash}
use Rattle.ns_tree.proofs.Scans.{slash_at}
use Rattle.ns_edits.specs.Admit.{last_component}

pub whole_component : (p : List ℕ) → has_slash p ≡ false → last_component p ≡ p
whole_component [] e = refl
whole_component (b ∷ bs) e = rw e refl

pub after_slash : (p : List ℕ) (i : ℕ) → i < length p → get_or p i 0 ≡ 47 → has_slash (drop (i + 1) p) ≡ false → last_component p ≡ drop (i + 1) p
after_slash p i h slash none = rw add-one (by p i h slash (rw add-one at none))
  where
    by : (p : List ℕ) (i : ℕ) → i < length p → get_or p i 0 ≡ 47 → has_slash (drop (suc i) p) ≡ false → last_component p ≡ drop (suc i) p
    by [] i h e none = absurd (omega arith)
    by (b ∷ bs) zero h e none = rw (slash_at (b ∷ bs) zero h e) (whole_component bs none)
    by (b ∷ bs) (suc i) h e none = rw (slash_at (b ∷ bs) (suc i) h e) (by bs i (omega arith) e none)
