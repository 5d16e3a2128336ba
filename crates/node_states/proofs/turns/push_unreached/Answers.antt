use Rattle.node_states.proofs.TurnLaws.{unreached_more, unreached_stops, unreached_ends, reached_is}
use Rattle.node_states.proofs.turns.push_unreached.Goals as goal

pub loop-line-preserved : goal.loop-line-preserved
loop-line-preserved c =
    unreached_more c.args.caller c.loop-line.line c.args.lines.now c.index-lines-line.result c.loop-line.turns.items c.push.new.self.items _ c.loop-line.invariant c.loop-line-test.true
    (reached_is c.args.lines.now c.loop-line.line c.index-lines-line.result c.node_reached.result _ c.index-lines-line.is c.node_reached.ensures c.if-is_none.ensures)
    c.in_ok-push.ensures.items

pub returns-else-is_none : goal.returns-else-is_none
returns-else-is_none c =
    unreached_stops c.args.caller c.loop-line.line c.args.lines.now c.index-lines-line.result c.loop-line.turns.items _ c.loop-line.invariant c.loop-line-test.true
    (reached_is c.args.lines.now c.loop-line.line c.index-lines-line.result c.node_reached.result _ c.index-lines-line.is c.node_reached.ensures c.if-is_none.ensures)

pub returns-after-loop-line : goal.returns-after-loop-line
returns-after-loop-line c = unreached_ends c.args.caller c.loop-line.line c.args.lines.now c.loop-line.turns.items _ c.loop-line.invariant c.loop-line-test.false
