use Rattle.std.proofs.Common.{ℕ, ◌<◌}
use Rattle.journal_history.specs.Cell.{fresh_cell, IsLocalRun}
use Rattle.mesh.specs.Agree.{history_at}
use Rattle.mesh_judge.proofs.agreement.are_local.Given as goal

abbrev pub invariant-loop-history : goal.invariant-loop-history
invariant-loop-history l = (i : ℕ) → i < l.history-index → IsLocalRun fresh_cell (history_at l.mesh i)
