use Rattle.journal_history.proofs.CellCode.{answers_up}
use Rattle.journal_history.proofs.node_cell.reply_of.Goals as goal

pub returns-clause-up : goal.returns-clause-up
returns-clause-up g c =
    answers_up (g.N.Node.state c.args.node.now) (g.N.Node.state c.act-reply.new.self) c.args.request.now c.act-reply.result c.act-reply.ensures.step c.requires.told
    (λ e. let is = c.is_out_of_memory.ensures.1 e in absurd (cc (is, c.if-is_out_of_memory.false))) (c.act-reply.ensures.steady c.requires.steady).1
