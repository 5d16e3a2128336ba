use Rattle.play_calls.proofs.LogLaws.{new_kept}
use Rattle.play_calls.proofs.caller_log.CallerLog.new.Goals as goal

pub invariant_of-result : goal.invariant_of-result
invariant_of-result c e = new_kept c.args.nodes c.new.result c.new-2.result c.in_ok-no_calls.field-0.items c.new.ensures c.new-2.ensures c.in_ok-no_calls.ensures.count c.in_ok-no_calls.ensures.each
