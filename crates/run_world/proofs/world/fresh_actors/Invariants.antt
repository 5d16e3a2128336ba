use Rattle.std.proofs.Common.{◌≡◌, replicate}
use Rattle.run_safety.specs.Actings.{fresh_acting}
use Rattle.run_world.proofs.world.fresh_actors.Given as goal

abbrev pub invariant-loop : goal.invariant-loop
invariant-loop l = l.actors.items ≡ replicate l.counter (fresh_acting l.nodes)
