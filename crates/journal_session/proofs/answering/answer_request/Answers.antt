use Rattle.journal_session.proofs.AnswerLaws.{answered_line, tells_still}
use Rattle.journal_session.proofs.AskLaws.{asked_for}
use Rattle.journal_session.proofs.answering.answer_request.Goals as goal

pub returns-clause-answer : goal.returns-clause-answer
returns-clause-answer g c = λ line reads.
    answered_line c.answer_with.result line c.args.request.now c.ask-reply.result (g.N.SessionNode.state c.args.node.now) (g.N.SessionNode.state c.ask-reply.new.self)
    c.answer_with.new.out.items reads c.ask-reply.ensures.step c.answer_with.ensures

pub returns-clause-told : goal.returns-clause-told
returns-clause-told g c = tells_still (g.N.SessionNode.state c.args.node.now) (g.N.SessionNode.state c.ask-reply.new.self) c.args.request.now c.ask-reply.result c.ask-reply.ensures.step

pub returns-clause-asked : goal.returns-clause-asked
returns-clause-asked g c = λ line reads.
    asked_for g.N.SessionNode.asked c.answer_with.result line c.args.request.now c.ask-reply.result c.args.node.now c.ask-reply.new.self c.answer_with.new.out.items
    reads c.answer_with.ensures c.ask-reply.ensures.asked
