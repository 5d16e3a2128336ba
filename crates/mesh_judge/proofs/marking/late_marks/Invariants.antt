use Rattle.std.proofs.Common.{take}
use Rattle.mesh_judge.specs.Marking.{KnowsLate}
use Rattle.mesh_judge.proofs.marking.late_marks.Given as goal

abbrev pub invariant-loop-mark : goal.invariant-loop-mark
invariant-loop-mark l = KnowsLate (take l.mark-index l.plan) l.late
