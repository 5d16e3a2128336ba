use Rattle.std.proofs.Common.{◌≤◌}
use Rattle.play_pipes.specs.Desks.{AreNodes}
use Rattle.play_pipes.proofs.desk_wire.rising_of.Given as goal

abbrev pub invariant-loop-node : goal.invariant-loop-node
invariant-loop-node l = AreNodes l.last l.nodes.items × (l.last ≤ l.fn.count)
