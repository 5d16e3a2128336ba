use Rattle.std.proofs.Common.{ℕ, ◌<◌}
use Rattle.journal_history.specs.Cell.{fresh_cell, IsLocalRun}
use Rattle.mesh.specs.Agree.{history_at}
use Rattle.report_judge.proofs.fronts.foreign_line.Given as goal

-- each history before is what one node answers
abbrev pub invariant-loop-index : goal.invariant-loop-index
invariant-loop-index l = (i : ℕ) → i < l.index → IsLocalRun fresh_cell (history_at l.mesh i)
