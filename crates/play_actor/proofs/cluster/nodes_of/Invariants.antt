use Rattle.std.proofs.Common.{◌≡◌, map, Some}
use Rattle.std.specs.List.{All}
use Rattle.play_actor.proofs.cluster.nodes_of.Given as goal

abbrev pub invariant-loop-cell : goal.invariant-loop-cell
invariant-loop-cell g l =
    (map (λ n. g.N.Node.state n) l.nodes.items ≡ map (λ v. Some v.cell.state) l.yielded) × All (λ n. g.N.Node.steady n) l.nodes.items × (l.histories.items ≡ map (λ v. v.history) l.yielded)
