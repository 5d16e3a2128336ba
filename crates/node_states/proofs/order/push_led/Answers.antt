use Rattle.node_states.proofs.OrderLaws.{led_more, led_last}
use Rattle.node_states.proofs.order.push_led.Goals as goal

pub loop-event-preserved : goal.loop-event-preserved
loop-event-preserved c =
    led_more c.args.all.now c.loop-event.told.items c.push_brought.new.told.items c.args.events.now c.loop-event.event-index c.index_of.result c.event-item.result
    c.loop-event.order.items c.push_brought.new.order.items _ c.loop-event.invariant c.loop-event-test.true c.event-item.is c.index_of.ensures
    c.in_ok-push_brought.ensures.lines c.in_ok-push_brought.ensures.told

pub returns : goal.returns
returns c = led_last c.args.all.now c.loop-event.told.items c.args.events.now c.loop-event.event-index c.loop-event.order.items _ c.loop-event.invariant c.loop-event-test.false
