-- Good fields, one by one.
use Rattle.std.proofs.Common.{ℕ, zero, suc, ◌<◌, List, [], ◌∷◌, length, get_or, map, arith}
use Rattle.std.specs.List.{AllByRecursion}
use Rattle.edit_ops.specs.Fields.{Field, IsGood}

-- what holds of each field holds of the one at a place
pub good_at : {X : Type 0} (f : X → Field) (xs : List X) (i : ℕ) (d : X) → AllByRecursion IsGood (map f xs) → i < length xs → IsGood (f (get_or xs i d))
good_at f [] i d all lt = absurd (omega arith)
good_at f (x ∷ xs) zero d all lt = all.0
good_at f (x ∷ xs) (suc i) d all lt = good_at f xs i d all.1 (omega arith)
