use Rattle.journal_step.proofs.AnswerLaws.{list_told}
use Rattle.journal_step.proofs.CutLaws.{refused_spends, effects_spend, purge_spends}
use Rattle.journal_step.proofs.cutting.row_budget.Goals as goal

pub returns-in-Refused : goal.returns-in-Refused
returns-in-Refused c =
    let gs = c.args.state.now.segments in
    refused_spends c.args.cut c.args.state.now c.args.request.now c.in-Refused.field-0 c.args.budget (c.in-Refused.ensures gs (list_told gs))

pub returns-in-Effects : goal.returns-in-Effects
returns-in-Effects c =
    let gs = c.args.state.now.segments in
    effects_spend c.args.cut c.args.state.now _ c.args.request.now _ _ c.args.budget c.spend_one.result c.spend_one-in-Effects.result (c.in-Effects.ensures gs (list_told gs))
    c.spend_one.ensures c.spend_one-in-Effects.ensures

pub returns-in-Purge : goal.returns-in-Purge
returns-in-Purge c =
    let gs = c.args.state.now.segments in
    purge_spends c.args.cut c.args.state.now c.args.request.now c.in-Purge.committed c.in-Purge.min c.args.budget c.purge_budget.result (c.in-Purge.ensures gs (list_told gs)) c.purge_budget.ensures
