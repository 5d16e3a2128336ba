use Rattle.std.proofs.Common.{◌+◌, ◌-◌, ◌∷◌, ◌++◌, [], cond, length, refl, sym, ap, ◌∙◌, subst}
use Rattle.std.specs.Vec.{with_item}
use Rattle.journal_history.specs.Listed.{shown_ask, shown_record}
use Rattle.mesh.specs.Matches.{IsWithin}
use Rattle.mesh_judge.specs.declared.marking.CallTable.{CallTable}
use Rattle.mesh_judge.specs.Keys.{is_ask, ask_key, count_of}
use Rattle.mesh_judge.specs.Marking.{KnowsCalls}
use Rattle.mesh_judge.proofs.MarkLaws.{calls_add, copy_taken, operator_stays, outcome_stays}
use Rattle.mesh_judge.proofs.marking.push_line.Goals as goal

pub returns-in-Call : goal.returns-in-Call
returns-in-Call c plan before marked known =
    let low = subst (IsWithin (length c.args.calls.now.next.items)) (sym c.lend.ensures ∙ ap shown_record c.in-Call.is) c.requires.within in
    let new : CallTable = record { next = with_item c.args.calls.now.next (c.in-Call.node - 1) (c.index-number.result.now + 1); due = c.add_due.new.due } in
    subst (λ line. KnowsCalls (length c.args.calls.now.next.items) plan (before ++ line ∷ []) new) (sym (sym c.lend.ensures ∙ ap shown_record c.in-Call.is))
    (calls_add (length c.args.calls.now.next.items) c.in-Call.node c.index-number.result.now c.get-marked.result plan before c.in-Call.request.now c.in-Call.told.now c.args.calls.now new
    c.args.marks.now low c.index-number.ensures c.get-marked.ensures refl
    (λ k r. c.in_ok-add_due-in-Call.ensures k r ∙ ap (λ q. count_of c.args.calls.now.due (ask_key k r) + cond (is_ask k r c.in-Call.node q) c.get-marked.result 0) c.get.ensures) marked known)

pub returns-in-Late : goal.returns-in-Late
returns-in-Late c plan before marked known =
    let new : CallTable = record { next = c.args.calls.now.next; due = c.take_due.new.due } in
    subst (λ line. KnowsCalls (length c.args.calls.now.next.items) plan (before ++ line ∷ []) new) (sym (sym c.lend.ensures ∙ ap shown_record c.in-Late.is))
    (copy_taken (length c.args.calls.now.next.items) plan before c.in-Late.node c.in-Late.request.now c.args.calls.now new refl
    (λ k r. ap (λ q. count_of c.take_due.new.due (ask_key k r) + cond (is_ask k r c.in-Late.node q) 1 0) (sym c.get-in-Late.ensures) ∙ c.in_ok-take_due-in-Late.ensures k r) known)

pub returns-in-Operator : goal.returns-in-Operator
returns-in-Operator c plan before marked known =
    subst (λ line. KnowsCalls (length c.args.calls.now.next.items) plan (before ++ line ∷ []) c.args.calls.now) (sym (sym c.lend.ensures ∙ ap shown_record c.in-Operator.is))
    (operator_stays (length c.args.calls.now.next.items) plan before c.in-Operator.node (shown_ask c.in-Operator.ask) c.in-Operator.done c.args.calls.now known)

pub returns : goal.returns
returns c plan before marked known =
    subst (λ line. KnowsCalls (length c.args.calls.now.next.items) plan (before ++ line ∷ []) c.args.calls.now) (sym (sym c.lend.ensures ∙ ap shown_record c.in-Outcome.is))
    (outcome_stays (length c.args.calls.now.next.items) plan before c.in-Outcome.text.now c.args.calls.now known)
