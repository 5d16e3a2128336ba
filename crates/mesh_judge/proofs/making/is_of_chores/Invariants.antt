use Rattle.mesh_judge.specs.Leading.{stands_of}
use Rattle.mesh_judge.proofs.Following.{Led}
use Rattle.mesh_judge.proofs.making.is_of_chores.Given as goal

abbrev pub invariant-loop-line : goal.invariant-loop-line
invariant-loop-line l = Led l.nodes l.lines l.line-index (stands_of l.candidates.items)
