use Rattle.std.proofs.Common.{◌+◌, ◌-◌}
use Rattle.play_calls.proofs.IndexLaws.{mute_index}
use Rattle.play_calls.proofs.calls_to.CallsTo.mute_next.Goals as goal

pub returns-clause-index : goal.returns-clause-index
returns-clause-index c node past marks h =
    mute_index node (c.next_number.result + (c.args.call - 1)) past marks c.args.self.now c.insert.new.self c.in_ok-insert.ensures.updates h
