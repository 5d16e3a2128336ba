use Rattle.play_calls.proofs.LogLaws.{say_kept}
use Rattle.play_calls.proofs.caller_log.CallerLog.say.Goals as goal

pub invariant_of-self-2 : goal.invariant_of-self-2
invariant_of-self-2 c e = say_kept c.self.inside.past c.push.new.self c.self.inside.marks c.self.inside.calls.items c.args.text (c.self.invariant e) c.in_ok-push.ensures.ok
