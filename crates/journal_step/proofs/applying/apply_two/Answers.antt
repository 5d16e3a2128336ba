use Rattle.std.proofs.Common.{sym, subst}
use Rattle.std.proofs.lemmas.Bool.{false≢true}
use Rattle.journal_core.specs.declared.node_state.NodeState.{NodeState}
use Rattle.journal_step.specs.Applying.{KeepsSegments}
use Rattle.journal_step.proofs.ApplyLaws.{second_fits, second_failed, first_both}
use Rattle.journal_step.proofs.AnswerLaws.{on_err}
use Rattle.journal_step.proofs.applying.apply_two.Goals as goal

pub apply_one-requires-2 : goal.apply_one-requires-2
apply_one-requires-2 c =
    second_fits c.args.state.now c.apply_one.new.state c.args.request.now c.args.first c.args.second c.args.keep c.in_ok-done.done c.in_ok-done.ensures.ok c.requires.fits

pub returns-in_err-more-clause-err : goal.returns-in_err-more-clause-err
returns-in_err-more-clause-err c =
    let keeps = second_failed c.args.state.now c.apply_one.new.state c.args.request.now c.args.first c.args.second c.args.keep c.in_ok-done.done c.in_ok-done.ensures.ok c.requires.memory
    (λ h. false≢true (c.in_err-more.ensures.free h)) in
    on_err c.from_residual-in_err-more.result (subst (λ (t : NodeState). KeepsSegments c.args.state.now t) (sym c.in_err-more.ensures.err) keeps)

pub returns-clause-ok : goal.returns-clause-ok
returns-clause-ok c =
    first_both c.args.state.now c.apply_one.new.state c.apply_one-2.new.state c.args.request.now _ _ c.args.keep c.in_ok-done.done c.in_ok-more.more c.in_ok-done.ensures.ok c.in_ok-more.ensures.ok
