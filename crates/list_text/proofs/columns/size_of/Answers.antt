use Rattle.std.proofs.Common.{ℕ, rules, arith}
use Rattle.list_text.proofs.Sums.{room}
use Rattle.list_text.proofs.columns.size_of.Goals as goal

pub overflow_add-size : goal.overflow_add-size
overflow_add-size c =
    let sum = room c.args.lengths.now c.loop-length.length-index c.loop-length.size c.from-size.result c.loop-length.invariant.so_far (λ k. omega (arith, c.type_inv.lengths k)) c.loop-length-test.true
    c.loop-length.invariant.few (search rules) in
    omega (arith, sum)
