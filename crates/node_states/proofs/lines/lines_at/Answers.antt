use Rattle.node_states.proofs.LineLaws.{line_first, line_more, line_last}
use Rattle.node_states.proofs.lines.lines_at.Goals as goal

pub loop-line-init : goal.loop-line-init
loop-line-init c = line_first c.args.records.now c.in_ok-taken.taken.items c.args.index c.args.history.now c.new-lines.result c.new-lines.ensures c.in_ok-taken.ensures

pub loop-line-preserved : goal.loop-line-preserved
loop-line-preserved c =
    line_more c.args.records.now c.record_at-record.result.now c.loop-line.taken.items c.deref.result.now c.put_number_at.new.numbers.items c.args.index c.loop-line.line
    c.caller-caller.result c.number_at.result c.args.history.now c.index-history-line.result c.next_reach-reach.result c.is_moving.result c.loop-line.lines c.push.new.self _
    c.loop-line.invariant c.loop-line-test.true c.index-history-line.is c.caller-caller.ensures c.record_at-record.ensures c.deref.ensures.value c.number_at.ensures
    c.next_reach-reach.ensures c.is_moving.ensures c.put_number_at.ensures c.in_ok-push.ensures

pub returns : goal.returns
returns c = line_last c.args.records.now c.loop-line.taken.items c.args.index c.loop-line.line c.args.history.now c.loop-line.lines _ c.loop-line.invariant c.loop-line-test.false
