use Rattle.std.proofs.Common.{◌≡◌, replicate}
use Rattle.journal_core.specs.Step.{fresh_state}
use Rattle.node_states.proofs.telling.fresh_nodes.Given as goal

abbrev pub invariant-loop : goal.invariant-loop
invariant-loop l = l.nodes.items ≡ replicate l.counter fresh_state
