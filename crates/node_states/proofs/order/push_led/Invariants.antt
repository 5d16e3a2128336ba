use Rattle.std.proofs.Common.{◌≡◌, ◌++◌, drop}
use Rattle.node_states.specs.Order.{led}
use Rattle.node_states.proofs.order.push_led.Given as goal

-- what the events so far brought, and what the others will
abbrev pub invariant-loop-event : goal.invariant-loop-event
invariant-loop-event l = l.order.items ++ led l.all l.told.items (drop l.event-index l.events) ≡ l.fn.order.items ++ led l.all l.fn.told.items l.events
