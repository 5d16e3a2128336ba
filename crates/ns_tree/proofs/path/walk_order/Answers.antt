use Rattle.std.proofs.Common.{sym, ◌∙◌, arith}
use Rattle.ns_tree.proofs.Order.{tail_less, tail_greater}
use Rattle.ns_tree.proofs.path.walk_order.Goals as goal

pub returns-then-a-b : goal.returns-then-a-b
returns-then-a-b c = sym (c.loop-i.invariant ∙ tail_less c.loop-i.i c.args.a.now c.args.b.now (omega arith) (omega arith))

pub returns-then-b-a : goal.returns-then-b-a
returns-then-b-a c = sym (c.loop-i.invariant ∙ tail_greater c.loop-i.i c.args.a.now c.args.b.now (omega arith) (omega arith))
