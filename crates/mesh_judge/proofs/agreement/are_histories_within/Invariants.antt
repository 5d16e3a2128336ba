use Rattle.std.proofs.Common.{ℕ, ◌<◌}
use Rattle.mesh.specs.Agree.{operator_of, history_at}
use Rattle.mesh.specs.Matches.{CallersWithin}
use Rattle.mesh_judge.proofs.agreement.are_histories_within.Given as goal

abbrev pub invariant-loop-history : goal.invariant-loop-history
invariant-loop-history l = (i : ℕ) → i < l.history-index → CallersWithin (operator_of l.mesh) (history_at l.mesh i)
