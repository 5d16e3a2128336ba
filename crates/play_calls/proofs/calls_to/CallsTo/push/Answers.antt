use Rattle.std.proofs.Common.{refl}
use Rattle.play_calls.proofs.IndexLaws.{push_index}
use Rattle.play_calls.proofs.calls_to.CallsTo.push.Goals as goal

pub returns : goal.returns
returns c node past marks request told is h =
    push_index node c.args.place past marks told request c.args.self.now (record { places = c.push.new.self; dropped = c.args.self.now.dropped; muted = c.args.self.now.muted })
    c.in_ok-push.ensures.items refl refl is h
