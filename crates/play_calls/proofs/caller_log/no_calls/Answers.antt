use Rattle.play_calls.proofs.IndexLaws.{more_none}
use Rattle.play_calls.proofs.caller_log.no_calls.Goals as goal

pub loop-preserved : goal.loop-preserved
loop-preserved c = rw c.in_ok-push.ensures.items (more_none c.loop.calls.items c.loop.counter c.new.result c.loop.invariant c.new.ensures)
