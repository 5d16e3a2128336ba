use Rattle.std.proofs.Common.{◌≡◌, length, sym, ap, ◌∙◌, subst, Decides, nat_lt}
use Rattle.std.specs.BTreeSet.{contains}
use Rattle.std.specs.Ordering.{nat_cmp}
use Rattle.journal_history.specs.Listed.{shown_record}
use Rattle.mesh.specs.Matches.{IsWithin}
use Rattle.mesh_judge.specs.Keys.{ask_key, count_of}
use Rattle.mesh_judge.specs.Marking.{as_marked, LineIsMarked}
use Rattle.mesh_judge.proofs.MarkLaws.{call_marked, due_decided}
use Rattle.mesh_judge.proofs.marking.is_line_marked.Goals as goal

pub returns-in-Call : goal.returns-in-Call
returns-in-Call c plan before marked known =
    let low = subst (IsWithin (length c.args.calls.now.next.items)) (sym c.lend.ensures ∙ ap shown_record c.in-Call.is) c.requires.within in
    let told : c.as_marked.result ≡ as_marked c.in-Call.told.now (contains nat_cmp c.index-in-Call.result.now.set c.index.result.now)
    (contains nat_cmp c.index-in-Call-2.result.now.set c.index.result.now) = cc in
    subst (λ line. Decides c.as_marked.result (LineIsMarked plan before line)) (sym (sym c.lend.ensures ∙ ap shown_record c.in-Call.is))
    (call_marked (length c.args.calls.now.next.items) c.in-Call.node c.index.result.now plan before c.args.calls.now c.args.marks.now
    c.in-Call.request.now c.in-Call.told.now c.index-in-Call.result.now c.index-in-Call-2.result.now
    c.as_marked.result low c.index-in-Call.ensures c.index-in-Call-2.ensures c.index.ensures told marked known)

pub returns-in-Late : goal.returns-in-Late
returns-in-Late c plan before marked known =
    let count : c.get-in-Late.result ≡ count_of c.args.calls.now.due (ask_key c.in-Late.node c.in-Late.request.now) =
    c.get-in-Late.ensures ∙ ap (count_of c.args.calls.now.due) (c.as_slice.ensures.value ∙ (c.in_ok-key-in-Late.ensures ∙ ap (ask_key c.in-Late.node) c.get.ensures)) in
    subst (λ line. Decides (nat_lt 0 c.get-in-Late.result) (LineIsMarked plan before line)) (sym (sym c.lend.ensures ∙ ap shown_record c.in-Late.is))
    (due_decided (length c.args.calls.now.next.items) plan before c.args.calls.now c.in-Late.node c.in-Late.request.now (nat_lt 0 c.get-in-Late.result) (ap (nat_lt 0) count) known)
