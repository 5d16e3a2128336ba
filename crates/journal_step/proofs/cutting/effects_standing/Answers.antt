use Rattle.std.proofs.Common.{◌≡◌, ◌∙◌, sym, None, map}
use Rattle.journal_core.specs.Step.{refused_at_once, fronted}
use Rattle.journal_core.specs.Stops.{effects_of_row}
use Rattle.journal_core.specs.Cuts.{cost_of}
use Rattle.journal_step.specs.Budgets.{SpendsTo}
use Rattle.journal_core.proofs.CutLaws.{cut_refused}
use Rattle.journal_step.proofs.CutLaws.{cut_after}
use Rattle.journal_step.proofs.cutting.effects_standing.Goals as goal

pub returns-in-Some-clause-count : goal.returns-in-Some-clause-count
returns-in-Some-clause-count c = cut_refused c.args.cut c.args.state.now c.args.request.now c.args.calls c.in-Some.field-0 (sym c.in-Some.ensures.refusal)

pub returns-clause-count : goal.returns-clause-count
returns-clause-count c =
    let s = c.args.state.now in
    let r = c.args.request.now in
    let none : refused_at_once s r ≡ None = sym c.in_default.ensures.refusal in
    let row : SpendsTo c.front_budget-budget.result (map (cost_of c.args.cut s.segments) (effects_of_row (fronted s r) r)) c.row_budget-left.result =
    rw c.pass_front.ensures at c.row_budget-left.ensures in
    c.standing.ensures ∙ sym (cut_after c.args.cut s r c.args.calls c.front_budget-budget.result c.row_budget-left.result none c.front_budget-budget.ensures row)
