use Rattle.std.proofs.Common.{◌≡◌}
use Rattle.mesh_judge.specs.Leading.{stands_of, all_go_on}
use Rattle.mesh_judge.proofs.making.all_after.Given as goal

abbrev pub invariant-loop-candidate : goal.invariant-loop-candidate
invariant-loop-candidate l = stands_of l.after.items ≡ all_go_on (stands_of l.yielded) l.node l.request l.told
