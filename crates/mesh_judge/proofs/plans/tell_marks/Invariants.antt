use Rattle.std.proofs.Common.{take}
use Rattle.mesh_judge.specs.Plans.{TellsMarks}
use Rattle.mesh_judge.proofs.plans.tell_marks.Given as goal

abbrev pub invariant-loop-line : goal.invariant-loop-line
invariant-loop-line l = TellsMarks l.nodes l.lines (take l.line-index l.lines) l.plan l.calls
