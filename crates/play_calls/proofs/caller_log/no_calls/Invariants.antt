use Rattle.play_calls.proofs.IndexLaws.{AreNone}
use Rattle.play_calls.proofs.caller_log.no_calls.Given as goal

abbrev pub invariant-loop : goal.invariant-loop
invariant-loop l = AreNone l.calls.items l.counter
