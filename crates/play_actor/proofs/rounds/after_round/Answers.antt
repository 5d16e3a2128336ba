use Rattle.std.proofs.Common.{◌≡◌, Bool, true, sym, ap, ◌∙◌}
use Rattle.std.proofs.lemmas.Result.{IfOk-weaker}
use Rattle.writer_core.specs.Views.{WriterView}
use Rattle.writer_core.specs.Writer.{is_writing}
use Rattle.play_standby.specs.Standbys.{empty_standby}
use Rattle.play_standby.specs.Actives.{is_open}
use Rattle.play_actor.specs.Nodes.{NameView, held_after}
use Rattle.play_actor.proofs.NodeLaws.{reloaded_any}
use Rattle.play_actor.proofs.rounds.after_round.Goals as goal

pub serving-requires : goal.serving-requires
serving-requires c =
    let opened : is_open c.args.active ≡ true = sym c.is_open.ensures.open ∙ c.if-is_open.true in
    record { opened = opened; none = c.requires; whole = c.is_open.ensures.whole opened }

pub returns-then-is_open-clause-holding : goal.returns-then-is_open-clause-holding
returns-then-is_open-clause-holding c =
    ap (λ (x : NameView). x.holding) c.serving.ensures ∙ ap (λ (b : Bool). held_after b c.args.images c.args.active) (sym c.if-is_open.true ∙ c.is_open.ensures.open)

pub begin_again-requires : goal.begin_again-requires
begin_again-requires c =
    ap (λ (w : WriterView). is_writing w.phase) c.in_ok-standby.ensures.left.1 ∙ sym c.is_open.ensures.open ∙ c.if-is_open.false

pub returns-clause-holding : goal.returns-clause-holding
returns-clause-holding c =
    IfOk-weaker c.begin_again.result _ _
    (λ node h. h ∙ reloaded_any c.args.images c.in_ok-standby.standby empty_standby ∙ ap (λ (b : Bool). held_after b c.args.images c.args.active) (sym c.if-is_open.false ∙ c.is_open.ensures.open))
    c.begin_again.ensures.holding
