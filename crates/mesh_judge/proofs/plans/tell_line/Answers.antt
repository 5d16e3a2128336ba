use Rattle.std.proofs.Common.{◌+◌, ◌-◌, ◌∷◌, ◌++◌, [], cond, length, refl, sym, ap, ◌∙◌, subst, append_assoc, replicate}
use Rattle.std.specs.Vec.{with_item}
use Rattle.journal_history.specs.Listed.{shown_ask, shown_record}
use Rattle.journal_history.specs.declared.mark.MarkKind.TheVariants as kind
use Rattle.mesh.specs.Marks.{mark}
use Rattle.mesh.specs.Matches.{IsWithin}
use Rattle.mesh_judge.specs.declared.plans.ToldCalls.{ToldCalls}
use Rattle.mesh_judge.specs.Keys.{is_ask, ask_key, count_of}
use Rattle.mesh_judge.specs.Plans.{TellsMarks, loss_marks}
use Rattle.mesh_judge.proofs.PlanLaws.{call_tells, late_tells, operator_tells, outcome_tells}
use Rattle.mesh_judge.proofs.plans.tell_line.Goals as goal

pub returns-in-Call : goal.returns-in-Call
returns-in-Call c all before rest whole h =
    let low = subst (IsWithin (length c.args.calls.now.next.items)) (sym c.lend.ensures ∙ ap shown_record c.in-Call.is) c.requires.within in
    let new : ToldCalls = record { next = with_item c.args.calls.now.next (c.in-Call.node - 1) (c.index-number.result.now + 1); unmarked = c.take_copies.new.unmarked } in
    let lates = replicate c.in_ok-copies-in-Call.copies (mark c.in-Call.node c.index-number.result.now kind.Late) in
    subst (λ line. TellsMarks (length c.args.calls.now.next.items) all (before ++ line ∷ []) c.push_copies.new.plan new) (sym (sym c.lend.ensures ∙ ap shown_record c.in-Call.is))
    (call_tells (length c.args.calls.now.next.items) c.in-Call.node c.index-number.result.now c.in_ok-copies-in-Call.copies all before c.in-Call.request.now c.in-Call.told.now
    c.args.plan.now c.push_copies.new.plan c.args.calls.now new low c.index-number.ensures refl
    (c.in_ok-copies-in-Call.ensures.count ∙ ap (λ q. count_of c.args.calls.now.unmarked (ask_key c.in-Call.node q)) c.get.ensures)
    (λ k r. c.in_ok-copies-in-Call.ensures.rest k r ∙ ap (λ q. cond (is_ask k r c.in-Call.node q) 0 (count_of c.args.calls.now.unmarked (ask_key k r))) c.get.ensures)
    (c.in_ok-push_copies-in-Call.ensures ∙ ap (λ p. p ++ lates) c.in_ok-push_loss-in-Call.ensures
    ∙ append_assoc c.args.plan.now (loss_marks c.in-Call.node c.index-number.result.now c.in-Call.told.now) lates) h)

pub returns-in-Late : goal.returns-in-Late
returns-in-Late c all before rest whole h =
    let is = sym c.lend.ensures ∙ ap shown_record c.in-Late.is in
    subst (λ line. TellsMarks (length c.args.calls.now.next.items) all (before ++ line ∷ []) c.args.plan.now c.args.calls.now) (sym is)
    (late_tells (length c.args.calls.now.next.items) all before rest c.in-Late.node c.in-Late.request.now c.args.plan.now c.args.calls.now (whole ∙ ap (λ line. before ++ line ∷ rest) is) h)

pub returns-in-Operator : goal.returns-in-Operator
returns-in-Operator c all before rest whole h =
    subst (λ line. TellsMarks (length c.args.calls.now.next.items) all (before ++ line ∷ []) c.args.plan.now c.args.calls.now) (sym (sym c.lend.ensures ∙ ap shown_record c.in-Operator.is))
    (operator_tells (length c.args.calls.now.next.items) all before c.in-Operator.node (shown_ask c.in-Operator.ask) c.in-Operator.done c.args.plan.now c.args.calls.now h)

pub returns : goal.returns
returns c all before rest whole h =
    subst (λ line. TellsMarks (length c.args.calls.now.next.items) all (before ++ line ∷ []) c.args.plan.now c.args.calls.now) (sym (sym c.lend.ensures ∙ ap shown_record c.in-Outcome.is))
    (outcome_tells (length c.args.calls.now.next.items) all before c.in-Outcome.text.now c.args.plan.now c.args.calls.now h)
