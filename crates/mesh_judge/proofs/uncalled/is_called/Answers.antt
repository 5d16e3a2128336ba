use Rattle.std.proofs.Common.{◌≡◌, sym, ap, ◌∙◌, subst, Decides, nat_lt}
use Rattle.journal_history.specs.Listed.{shown_record}
use Rattle.mesh_judge.specs.Keys.{ask_key, count_of}
use Rattle.mesh_judge.specs.Plans.{IsCalled}
use Rattle.mesh_judge.proofs.UncalledLaws.{late_decided}
use Rattle.mesh_judge.proofs.uncalled.is_called.Goals as goal

pub returns-in-Late : goal.returns-in-Late
returns-in-Late c before h =
    let count : c.get-in-Late.result ≡ count_of c.args.asked.now (ask_key c.in-Late.node c.in-Late.request.now) =
    c.get-in-Late.ensures ∙ ap (count_of c.args.asked.now) (c.as_slice.ensures.value ∙ (c.in_ok-key-in-Late.ensures ∙ ap (ask_key c.in-Late.node) c.get.ensures)) in
    subst (λ line. Decides (nat_lt 0 c.get-in-Late.result) (IsCalled before line)) (sym (sym c.lend.ensures ∙ ap shown_record c.in-Late.is))
    (late_decided before c.args.asked.now c.in-Late.node c.in-Late.request.now (nat_lt 0 c.get-in-Late.result) (ap (nat_lt 0) count) h)
