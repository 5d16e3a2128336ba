use Rattle.std.proofs.Common.{◌≡◌, ◌++◌, ◌+◌, ◌-◌, drop, length}
use Rattle.node_states.specs.Order.{still_front}
use Rattle.node_states.proofs.order.push_still.Given as goal

-- the lines so far, and those to come
abbrev pub invariant-loop-place : goal.invariant-loop-place
invariant-loop-place l = record {
  lines : l.order.items ++ still_front (drop l.place l.lines) ≡ l.fn.order.items ++ still_front (drop l.from l.lines);
  count : l.place + length (still_front (drop l.place l.lines)) ≡ l.from + length (still_front (drop l.from l.lines));
}

abbrev pub decreases-loop-place : goal.decreases-loop-place
decreases-loop-place l = length l.lines - l.place
