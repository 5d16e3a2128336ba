use Rattle.std.proofs.Common.{take}
use Rattle.mesh_judge.proofs.ReachLaws.{Split}
use Rattle.mesh_judge.proofs.reached.reached_by_node.Given as goal

abbrev pub invariant-loop-index : goal.invariant-loop-index
invariant-loop-index l = Split l.nodes (take l.index l.lines) l.lists.items
