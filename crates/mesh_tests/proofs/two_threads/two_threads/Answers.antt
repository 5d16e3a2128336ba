use Rattle.std.proofs.Common.{◌∙◌, sym, ap, arith, rules, refl, length, List, ◌<◌, ℕ, subst, take, drop, ◌++◌}
use Rattle.atomic_table.proofs.Lists.{at_index}
use Rattle.mesh_tests.proofs.two_threads.two_threads.Goals as goal

pub join-one-requires-after_bounds : goal.join-one-requires-after_bounds
join-one-requires-after_bounds g c κs within =
    let each = c.in_ok-gate.ensures.each in
    let n = c.in_ok-gate.ensures.count.1 in
    let r = c.remove-right.ensures in
    let l = c.remove-left.ensures in
    let right = each 1 c.remove-right.result (at_index c.in_ok-gate.seats.items 1 _ (omega (arith, n)) r.value) in
    let left = each 0 c.remove-left.result (at_index c.in_ok-gate.seats.items 0 _ (omega (arith, n)) (l.value ∙ r.by_index.0 0 c.remove-left.result (omega arith))) in
    ((left.0, left.1), (right.0, right.1))
