use Rattle.disk_node.proofs.CuttingLaws.{IsCountedTo}
use Rattle.disk_node.proofs.cutting.count_standing.Given as goal

abbrev pub invariant-loop-effect : goal.invariant-loop-effect
invariant-loop-effect l = IsCountedTo l.cut l.effects l.calls l.effect-index l.budget
