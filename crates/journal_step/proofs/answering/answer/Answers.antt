use Rattle.std.proofs.Common.{◌≡◌, ◌∙◌, None, refl, ap, option_map}
use Rattle.std.proofs.lemmas.Result.{err_from_is_err_and}
use Rattle.journal_core.specs.declared.node_state.NodeState.{NodeState}
use Rattle.journal_core.specs.Segments.{find_segment}
use Rattle.journal_core.specs.Step.{row_refused, row_then}
use Rattle.journal_core.specs.Answers.{is_refusal}
use Rattle.journal_step.specs.Index.{entry_of}
use Rattle.journal_step.proofs.DecisionLaws.{decided_passes}
use Rattle.journal_step.proofs.AnswerLaws.{list_told, row_given, row_is}
use Rattle.journal_step.proofs.answering.answer.Goals as goal

pub reply-requires : goal.reply-requires
reply-requires c =
    let gs = c.args.state.now.segments in
    decided_passes c.args.state.now _ c.args.request.now c.decide-decision.result (c.decide-decision.ensures gs (list_told gs)) c.in_default.not-Refused

pub returns-in_err-reply : goal.returns-in_err-reply
returns-in_err-reply c =
    let s = c.args.state.now in
    let passes : row_refused s c.args.request.now ≡ None =
    decided_passes s _ c.args.request.now c.decide-decision.result (c.decide-decision.ensures s.segments (list_told s.segments)) c.in_default.not-Refused in
    let p = err_from_is_err_and c.from_residual.result c.from_residual.ensures.1 in
    rw p.1
    (record {
      ok = tt;
      fits = tt;
      err = record { segments = refl; up = refl };
      free = c.in_err-reply.ensures.free;
      refused = row_given s c.args.request.now passes c.in_err-reply.ensures.refused;
    })

pub apply_all-requires : goal.apply_all-requires
apply_all-requires c =
    let s = c.args.state.now in
    let decided = c.decide-decision.ensures s.segments (list_told s.segments) in
    record {
      passes = decided_passes s _ c.args.request.now c.decide-decision.result decided c.in_default.not-Refused;
      found = λ start. option_map entry_of (find_segment start s.segments);
      decided = decided;
    }

pub returns-in_err-apply_all : goal.returns-in_err-apply_all
returns-in_err-apply_all c =
    let s = c.args.state.now in
    let passes : row_refused s c.args.request.now ≡ None =
    decided_passes s _ c.args.request.now c.decide-decision.result (c.decide-decision.ensures s.segments (list_told s.segments)) c.in_default.not-Refused in
    let p = err_from_is_err_and c.from_residual-in_err-apply_all.result c.from_residual-in_err-apply_all.ensures.1 in
    rw p.1
    (record {
      ok = tt;
      fits = tt;
      err = c.in_err-apply_all.ensures.err;
      free = c.in_err-apply_all.ensures.free;
      refused = row_given s c.args.request.now passes (ap is_refusal c.in_err-apply_all.ensures.done);
    })

pub returns-clause-ok : goal.returns-clause-ok
returns-clause-ok c =
    let s = c.args.state.now in
    let passes : row_refused s c.args.request.now ≡ None =
    decided_passes s _ c.args.request.now c.decide-decision.result (c.decide-decision.ensures s.segments (list_told s.segments)) c.in_default.not-Refused in
    row_is s c.follow.new.numbers c.args.request.now c.in_ok-reply.reply passes
    (c.follow.ensures ∙ ap (λ (t : NodeState). row_then t c.args.request.now) c.in_ok-apply_all.ensures.ok) c.in_ok-reply.ensures.reply
