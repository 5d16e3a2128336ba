use Rattle.std.proofs.lemmas.Result.{on_ok_weaker}
use Rattle.node_states.proofs.OrderLaws.{next_is}
use Rattle.node_states.proofs.order.push_next.Goals as goal

pub returns-clause-lines : goal.returns-clause-lines
returns-clause-lines c =
    on_ok_weaker c.push_still.result
    (λ e. next_is c.args.lines.now c.args.from _ c.args.order.now.items c.push.new.self.items c.push_still.new.order.items c.if-from-lines.false c.in_ok-push.ensures.items e)
    c.push_still.ensures.lines
