use Rattle.mesh_judge.specs.Leading.{stands_of, MakeAlike}
use Rattle.mesh_judge.proofs.making.distinct.Given as goal

abbrev pub invariant-loop-candidate : goal.invariant-loop-candidate
invariant-loop-candidate l = MakeAlike (stands_of l.yielded) (stands_of l.kept.items)
