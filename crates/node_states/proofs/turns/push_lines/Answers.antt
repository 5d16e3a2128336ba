use Rattle.node_states.proofs.TurnLaws.{turn_more, turn_last, behind_is}
use Rattle.node_states.proofs.turns.push_lines.Goals as goal

pub loop-line-preserved : goal.loop-line-preserved
loop-line-preserved c =
    turn_more c.args.records.now c.args.lines.now c.loop-line.line-index _ c.loop-line.turns.items c.push.new.self.items c.push_unreached.new.turns.items _ c.loop-line.invariant
    c.loop-line-test.true c.in_ok-push.ensures.items
    (behind_is c.args.records.now _ c.record_at-record.result.now c.push.new.self.items c.push_unreached.new.turns.items c.record_at-record.ensures c.in_ok-push_unreached.ensures)

pub returns : goal.returns
returns c = turn_last c.args.records.now c.args.lines.now c.loop-line.line-index c.loop-line.turns.items _ c.loop-line.invariant c.loop-line-test.false
