-- Calls of a longer record.
use Rattle.std.proofs.Common.{◌≡◌, ℕ, ◌==◌, List, [], ◌∷◌, ◌++◌, Bool, true, false, cond, refl, ap}
use Rattle.journal_core.specs.declared.request.Request.{Request}
use Rattle.journal_history.specs.declared.record.Record.{Record}
use Rattle.journal_history.specs.declared.record.Record.TheVariants.{Call, Late, Operator, Outcome}
use Rattle.mesh.specs.Marks.{calls_to}

pub calls_append : (k : ℕ) (xs ys : List Record) → calls_to k (xs ++ ys) ≡ calls_to k xs ++ calls_to k ys
unfolding calls_to
calls_append k [] ys = refl
calls_append k (Call i q t ∷ xs) ys = by (i == k) (calls_append k xs ys)
  where
    by : (b : Bool) → calls_to k (xs ++ ys) ≡ calls_to k xs ++ calls_to k ys → cond b (q ∷ calls_to k (xs ++ ys)) (calls_to k (xs ++ ys)) ≡ cond b (q ∷ calls_to k xs) (calls_to k xs) ++ calls_to k ys
    by true h = ap (λ (l : List Request). q ∷ l) h
    by false h = h
calls_append k (Late i q ∷ xs) ys = calls_append k xs ys
calls_append k (Operator i a d ∷ xs) ys = calls_append k xs ys
calls_append k (Outcome x ∷ xs) ys = calls_append k xs ys
