use Rattle.std.proofs.Common.{◌∷◌, ◌++◌, [], sym, ap, ◌∙◌, subst}
use Rattle.journal_history.specs.Listed.{shown_ask, shown_record}
use Rattle.mesh_judge.specs.Keys.{ask_key}
use Rattle.mesh_judge.specs.Plans.{KnowsAsked}
use Rattle.mesh_judge.proofs.UncalledLaws.{call_noted, late_noted, operator_noted, outcome_noted}
use Rattle.mesh_judge.proofs.uncalled.note_call.Goals as goal

pub returns-in-Call : goal.returns-in-Call
returns-in-Call c before h =
    subst (λ line. KnowsAsked (before ++ line ∷ []) c.set.new.self) (sym (sym c.lend.ensures ∙ ap shown_record c.in-Call.is))
    (call_noted before c.in-Call.node c.in-Call.request.now c.in-Call.told.now c.args.asked.now c.set.new.self c.in_ok-key-in-Call.key.items
    (c.in_ok-key-in-Call.ensures ∙ ap (ask_key c.in-Call.node) c.get.ensures) c.in_ok-set-in-Call.ensures h)

pub returns-in-Late : goal.returns-in-Late
returns-in-Late c before h =
    subst (λ line. KnowsAsked (before ++ line ∷ []) c.args.asked.now) (sym (sym c.lend.ensures ∙ ap shown_record c.in-Late.is))
    (late_noted before c.in-Late.node c.in-Late.request.now c.args.asked.now h)

pub returns-in-Operator : goal.returns-in-Operator
returns-in-Operator c before h =
    subst (λ line. KnowsAsked (before ++ line ∷ []) c.args.asked.now) (sym (sym c.lend.ensures ∙ ap shown_record c.in-Operator.is))
    (operator_noted before c.in-Operator.node (shown_ask c.in-Operator.ask) c.in-Operator.done c.args.asked.now h)

pub returns : goal.returns
returns c before h =
    subst (λ line. KnowsAsked (before ++ line ∷ []) c.args.asked.now) (sym (sym c.lend.ensures ∙ ap shown_record c.in-Outcome.is))
    (outcome_noted before c.in-Outcome.text.now c.args.asked.now h)
