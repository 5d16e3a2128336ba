use Rattle.journal_core.proofs.StepLaws.{row_answer, own_not_memory}
use Rattle.journal_step.proofs.answering.step.Goals as goal

pub returns-in-Ok-clause-memory : goal.returns-in-Ok-clause-memory
returns-in-Ok-clause-memory c =
    λ e. absurd (own_not_memory c.in-Ok.reply (row_answer c.pass_front.new.self c.answer.new.state c.args.request.now c.in-Ok.reply (c.in-Ok.ensures.ok)) e)

pub returns-in-Ok-clause-refused : goal.returns-in-Ok-clause-refused
returns-in-Ok-clause-refused c =
    λ h e. own_not_memory c.in-Ok.reply (row_answer c.pass_front.new.self c.answer.new.state c.args.request.now c.in-Ok.reply (c.in-Ok.ensures.ok)) e
