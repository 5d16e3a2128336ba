use Rattle.std.proofs.Common.{sym, ap, ◌∙◌}
use Rattle.std.proofs.lemmas.Result.{err_from_is_err_and}
use Rattle.journal_core.specs.Views.{BatchView}
use Rattle.journal_core.specs.declared.reply.Reply.{Reply}
use Rattle.journal_core.specs.declared.reply.Reply.TheVariants.{Edits}
use Rattle.journal_core.proofs.ServingLaws.{edits_served, served_is_given}
use Rattle.journal_step.proofs.serving.read.Goals as goal

pub returns-clause-reply : goal.returns-clause-reply
returns-clause-reply c =
    edits_served c.args.state.now c.args.from c.in-Some.segment.now c.in-Some.count c.in-Some.ensures
    ∙ sym (ap (λ (b : BatchView). let r : Reply = Edits b in r) (rw (c.in_ok-batch.ensures, c.new.ensures, c.in_ok-bodies.ensures, c.min-most.ensures)))

pub returns-in_err-bodies-clause-refused : goal.returns-in_err-bodies-clause-refused
returns-in_err-bodies-clause-refused c =
    let p = err_from_is_err_and c.from_residual.result c.from_residual.ensures.1 in
    rw p.1 (served_is_given c.args.state.now c.args.from c.in-Some.segment.now c.in-Some.count c.in-Some.ensures)
