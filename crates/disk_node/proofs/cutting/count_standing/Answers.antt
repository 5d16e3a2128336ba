use Rattle.std.proofs.Common.{[], ◌∷◌, subst, ◌∙◌}
use Rattle.journal_core.specs.Cuts.{Cost}
use Rattle.journal_step.specs.Budgets.{SpendsTo}
use Rattle.disk_node.proofs.CuttingLaws.{count_goes, count_ends}
use Rattle.disk_node.proofs.cutting.count_standing.Goals as goal

pub loop-effect-preserved : goal.loop-effect-preserved
loop-effect-preserved c =
    count_goes c.args.cut c.args.effects.now c.args.calls c.loop-effect.effect-index _ c.loop-effect.budget c.spend-budget.result c.loop-effect-test.true c.loop-effect.invariant
    (subst (λ (k : Cost). SpendsTo c.loop-effect.budget (k ∷ []) c.spend-budget.result) c.effect_cost.ensures c.spend-budget.ensures)

pub returns : goal.returns
returns c = c.standing.ensures ∙ count_ends c.args.cut c.args.effects.now c.args.calls c.loop-effect.effect-index c.loop-effect.budget c.loop-effect-test.false c.loop-effect.invariant
