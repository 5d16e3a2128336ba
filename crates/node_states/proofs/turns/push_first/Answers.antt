use Rattle.node_states.proofs.TurnLaws.{first_more, first_last}
use Rattle.node_states.proofs.turns.push_first.Goals as goal

pub loop-caller-preserved : goal.loop-caller-preserved
loop-caller-preserved c =
    first_more c.loop-caller.caller c.args.records.now c.index-records-caller.result c.as_slice.result.now c.loop-caller.turns.items c.push_unreached.new.turns.items _
    c.loop-caller.invariant c.loop-caller-test.true c.index-records-caller.is c.as_slice.ensures c.in_ok-push_unreached.ensures

pub returns : goal.returns
returns c = first_last c.loop-caller.caller c.args.records.now c.loop-caller.turns.items _ c.loop-caller.invariant c.loop-caller-test.false
