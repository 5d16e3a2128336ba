use Rattle.std.proofs.Common.{◌≡◌, ◌++◌, drop, take}
use Rattle.node_states.specs.Order.{fronts, front_counts}
use Rattle.node_states.proofs.order.push_fronts.Given as goal

-- the fronts so far, and those to come
abbrev pub invariant-loop-lines : goal.invariant-loop-lines
invariant-loop-lines l = record {
  lines : l.order.items ++ fronts (drop l.lines-index l.all) ≡ l.fn.order.items ++ fronts l.all;
  counts : l.told.items ≡ front_counts (take l.lines-index l.all);
}
