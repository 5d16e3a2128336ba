use Rattle.std.proofs.Common.{ℕ, ◌<◌}
use Rattle.mesh_judge.specs.Matching.{AreSameAt}
use Rattle.mesh_judge.proofs.matching.unlike_line.Given as goal

abbrev pub invariant-loop-index : goal.invariant-loop-index
invariant-loop-index l = (i : ℕ) → i < l.index → AreSameAt l.mesh i
