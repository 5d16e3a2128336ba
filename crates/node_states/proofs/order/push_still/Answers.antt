use Rattle.node_states.proofs.OrderLaws.{still_more, count_more, still_stops, still_ends}
use Rattle.node_states.proofs.order.push_still.Goals as goal

pub loop-place-preserved : goal.loop-place-preserved
loop-place-preserved c =
    record {
      lines = still_more c.args.lines.now c.loop-place.place _ c.loop-place.order.items c.push.new.self.items _ c.loop-place.invariant.lines c.loop-place-test.true c.if-not-lines-place.true c.in_ok-push.ensures.items;
      count = count_more c.args.lines.now c.loop-place.place _ _ c.loop-place.invariant.count c.loop-place-test.true c.if-not-lines-place.true;
    }

pub returns-else-not-lines-place-clause-lines : goal.returns-else-not-lines-place-clause-lines
returns-else-not-lines-place-clause-lines c =
    still_stops c.args.lines.now c.loop-place.place _ c.loop-place.order.items _ c.loop-place.invariant.lines c.loop-place-test.true c.if-not-lines-place.false

pub returns-after-loop-place-clause-lines : goal.returns-after-loop-place-clause-lines
returns-after-loop-place-clause-lines c = still_ends c.args.lines.now c.loop-place.place c.loop-place.order.items _ c.loop-place.invariant.lines c.loop-place-test.false
