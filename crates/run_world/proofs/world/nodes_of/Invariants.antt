use Rattle.std.proofs.Common.{◌≡◌, map, Some}
use Rattle.run_world.proofs.world.nodes_of.Given as goal

abbrev pub invariant-loop-cell : goal.invariant-loop-cell
invariant-loop-cell g l = map (λ n. g.N.Node.state n) l.nodes.items ≡ map (λ c. Some c.cell.state) l.yielded
