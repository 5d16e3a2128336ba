use Rattle.std.proofs.Common.{◌≡◌, replicate}
use Rattle.journal_core.specs.Step.{fresh_state}
use Rattle.writer_calls.proofs.plain_peers.PlainPeers.new.Given as goal

abbrev pub invariant-loop : goal.invariant-loop
invariant-loop l = l.fresh.items ≡ replicate l.counter fresh_state
