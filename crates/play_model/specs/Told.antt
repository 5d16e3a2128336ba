-- What the calls of a record were told, and its result lines.
use Rattle.std.specs.Prelude.{ℕ, List, [], ◌∷◌}
use Rattle.journal_history.specs.declared.record.Record.{Record}
use Rattle.journal_history.specs.declared.record.Record.TheVariants.{Call, Late, Operator, Outcome}
use Rattle.journal_history.specs.declared.record.Told.{Told}

unfoldable pub told_in : List Record → List Told
told_in [] = []
told_in (Call node r t ∷ rs) = t ∷ told_in rs
told_in (Late node r ∷ rs) = told_in rs
told_in (Operator node ask done ∷ rs) = told_in rs
told_in (Outcome text ∷ rs) = told_in rs

unfoldable pub results_in : List Record → List (List ℕ)
results_in [] = []
results_in (Call node r t ∷ rs) = results_in rs
results_in (Late node r ∷ rs) = results_in rs
results_in (Operator node ask done ∷ rs) = results_in rs
results_in (Outcome text ∷ rs) = text ∷ results_in rs
