use Rattle.std.proofs.lemmas.Result.{IfOk-weaker}
use Rattle.journal_step.proofs.ApplyLaws.{each_fits}
use Rattle.journal_step.proofs.AnswerLaws.{list_told, row_stopped, refused_stopped, purge_stopped}
use Rattle.journal_step.proofs.stopping.apply_first.Goals as goal

pub apply_two-requires-clause-fits : goal.apply_two-requires-clause-fits
apply_two-requires-clause-fits c =
    let gs = c.args.state.now.segments in
    each_fits c.args.state.now _ c.args.request.now _ (c.in-Effects.ensures gs (list_told gs)).sees

pub apply_two-requires-clause-memory : goal.apply_two-requires-clause-memory
apply_two-requires-clause-memory c =
    let gs = c.args.state.now.segments in
    (c.in-Effects.ensures gs (list_told gs)).memory

pub returns-in-Refused-clause-ok : goal.returns-in-Refused-clause-ok
returns-in-Refused-clause-ok c =
    let gs = c.args.state.now.segments in
    refused_stopped c.args.state.now c.args.request.now c.in-Refused.field-0 c.args.keep (c.in-Refused.ensures gs (list_told gs))

pub returns-in-Effects-clause-ok : goal.returns-in-Effects-clause-ok
returns-in-Effects-clause-ok c =
    let gs = c.args.state.now.segments in
    let has = c.in-Effects.ensures gs (list_told gs) in
    IfOk-weaker c.apply_two.result _ _ (λ done h. row_stopped c.args.state.now c.apply_two.new.state _ c.args.request.now _ c.args.keep done has h) c.apply_two.ensures.ok

pub returns-in-Purge-clause-ok : goal.returns-in-Purge-clause-ok
returns-in-Purge-clause-ok c =
    let gs = c.args.state.now.segments in
    purge_stopped c.args.state.now c.args.request.now c.in-Purge.committed c.in-Purge.min c.args.keep c.remove_first_old.result c.remove_first_old.new.self (c.in-Purge.ensures gs (list_told gs))
    c.remove_first_old.ensures.count c.remove_first_old.ensures.rest
