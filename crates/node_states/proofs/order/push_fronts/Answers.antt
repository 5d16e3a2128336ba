use Rattle.node_states.proofs.OrderLaws.{front_more, front_counted, front_last}
use Rattle.node_states.proofs.order.push_fronts.Goals as goal

pub loop-lines-preserved : goal.loop-lines-preserved
loop-lines-preserved c =
    record {
      lines = front_more c.args.all.now c.loop-lines.lines-index c.lines-item.result c.as_slice.result.now c.loop-lines.order.items c.push_still.new.order.items _
          c.loop-lines.invariant.lines c.loop-lines-test.true c.lines-item.is c.as_slice.ensures c.in_ok-push_still.ensures.lines;
      counts = front_counted c.args.all.now c.loop-lines.lines-index c.lines-item.result c.as_slice.result.now c.in_ok-push_still.field-0 c.loop-lines.told.items c.push.new.self.items
          c.loop-lines.invariant.counts c.loop-lines-test.true c.lines-item.is c.as_slice.ensures c.in_ok-push_still.ensures.place c.in_ok-push.ensures.items;
    }

pub returns-clause-lines : goal.returns-clause-lines
returns-clause-lines c = front_last c.args.all.now c.loop-lines.lines-index c.loop-lines.order.items _ c.loop-lines.invariant.lines c.loop-lines-test.false
