use Rattle.std.proofs.Common.{◌+◌, ◌∷◌, ◌++◌, [], cond, sym, ap, ◌∙◌, subst}
use Rattle.journal_history.specs.Listed.{shown_ask, shown_record}
use Rattle.mesh_judge.specs.Keys.{is_ask, ask_key, count_of}
use Rattle.mesh_judge.specs.Plans.{KnowsCopies}
use Rattle.mesh_judge.proofs.PlanLaws.{copy_counted, call_passed, operator_passed, outcome_passed}
use Rattle.mesh_judge.proofs.plans.count_copy.Goals as goal

pub returns-in-Late : goal.returns-in-Late
returns-in-Late c before h =
    subst (λ line. KnowsCopies (before ++ line ∷ []) c.add_due.new.due) (sym (sym c.lend.ensures ∙ ap shown_record c.in-Late.is))
    (copy_counted before c.in-Late.node c.in-Late.request.now c.args.copies.now c.add_due.new.due
    (λ k r. c.in_ok-add_due-in-Late.ensures k r ∙ ap (λ q. count_of c.args.copies.now (ask_key k r) + cond (is_ask k r c.in-Late.node q) 1 0) c.get.ensures) h)

pub returns-in-Call : goal.returns-in-Call
returns-in-Call c before h =
    subst (λ line. KnowsCopies (before ++ line ∷ []) c.args.copies.now) (sym (sym c.lend.ensures ∙ ap shown_record c.in-Call.is))
    (call_passed before c.in-Call.node c.in-Call.request.now c.in-Call.told.now c.args.copies.now h)

pub returns-in-Operator : goal.returns-in-Operator
returns-in-Operator c before h =
    subst (λ line. KnowsCopies (before ++ line ∷ []) c.args.copies.now) (sym (sym c.lend.ensures ∙ ap shown_record c.in-Operator.is))
    (operator_passed before c.in-Operator.node (shown_ask c.in-Operator.ask) c.in-Operator.done c.args.copies.now h)

pub returns : goal.returns
returns c before h =
    subst (λ line. KnowsCopies (before ++ line ∷ []) c.args.copies.now) (sym (sym c.lend.ensures ∙ ap shown_record c.in-Outcome.is))
    (outcome_passed before c.in-Outcome.text.now c.args.copies.now h)
