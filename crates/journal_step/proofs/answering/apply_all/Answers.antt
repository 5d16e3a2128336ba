use Rattle.std.proofs.Common.{subst}
use Rattle.std.proofs.lemmas.Bool.{false≢true}
use Rattle.journal_step.specs.declared.decision.Decision.{Decision}
use Rattle.journal_step.specs.Decisions.{IsDecision}
use Rattle.journal_step.proofs.ApplyLaws.{each_fits}
use Rattle.journal_step.proofs.AnswerLaws.{free_effects, purge_applied}
use Rattle.journal_step.proofs.answering.apply_all.Goals as goal

pub apply_two-requires-clause-fits : goal.apply_two-requires-clause-fits
apply_two-requires-clause-fits c =
    let has = subst (λ (d : Decision). IsDecision c.args.state.now c.requires.found c.args.request.now d) c.in-Effects.is c.requires.decided in
    each_fits c.args.state.now c.requires.found c.args.request.now _ has.sees

pub returns-in_err-_count-in-Effects-clause-free : goal.returns-in_err-_count-in-Effects-clause-free
returns-in_err-_count-in-Effects-clause-free c =
    let has = subst (λ (d : Decision). IsDecision c.args.state.now c.requires.found c.args.request.now d) c.in-Effects.is c.requires.decided in
    λ f. absurd (false≢true (c.in_err-_count-in-Effects.ensures.free (free_effects c.args.state.now c.requires.found c.args.request.now _ has f)))

pub returns-in-Purge-clause-ok : goal.returns-in-Purge-clause-ok
returns-in-Purge-clause-ok c =
    let has = subst (λ (d : Decision). IsDecision c.args.state.now c.requires.found c.args.request.now d) c.in-Purge.is c.requires.decided in
    purge_applied c.args.state.now c.args.request.now c.in-Purge.committed c.in-Purge.min c.remove_old.new.self has c.remove_old.ensures
