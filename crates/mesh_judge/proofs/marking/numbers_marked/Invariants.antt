use Rattle.std.proofs.Common.{take}
use Rattle.mesh_judge.specs.Marking.{KnowsMarks}
use Rattle.mesh_judge.proofs.marking.numbers_marked.Given as goal

abbrev pub invariant-loop-mark : goal.invariant-loop-mark
invariant-loop-mark l = KnowsMarks l.nodes (take l.mark-index l.plan) l.kind l.lists.items
