use Rattle.std.proofs.Common.{◌≡◌, ◌==◌, sym, ap, ◌∙◌, subst, Decides}
use Rattle.journal_history.specs.Listed.{shown_record}
use Rattle.mesh_judge.specs.Keys.{ask_key, count_of}
use Rattle.mesh_judge.specs.Marking.{LineIsCopied}
use Rattle.mesh_judge.proofs.MarkLaws.{none_due}
use Rattle.mesh_judge.proofs.marking.is_line_copied.Goals as goal

pub returns-in-Call : goal.returns-in-Call
returns-in-Call c nodes plan lines known =
    let count : c.get-in-Call.result ≡ count_of c.args.calls.now.due (ask_key c.in-Call.node c.in-Call.request.now) =
    c.get-in-Call.ensures ∙ ap (count_of c.args.calls.now.due) (c.as_slice.ensures.value ∙ (c.in_ok-key-in-Call.ensures ∙ ap (ask_key c.in-Call.node) c.get.ensures)) in
    subst (λ line. Decides (c.get-in-Call.result == 0) (LineIsCopied plan lines line)) (sym (sym c.lend.ensures ∙ ap shown_record c.in-Call.is))
    (none_due nodes plan lines c.args.calls.now c.in-Call.node c.in-Call.request.now c.in-Call.told.now (c.get-in-Call.result == 0) (ap (λ n. n == 0) count) known)
