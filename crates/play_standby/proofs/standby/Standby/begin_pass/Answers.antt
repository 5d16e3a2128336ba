use Rattle.std.proofs.Common.{◌≡◌, sym, ap, ◌∙◌}
use Rattle.play_names.specs.Holding.{with_work}
use Rattle.play_names.specs.Tails.{is_until}
use Rattle.play_standby.specs.Standbys.{held}
use Rattle.play_standby.proofs.PassLaws.{pass_ends, pass_goes}
use Rattle.play_standby.proofs.standby.Standby.begin_pass.Goals as goal

pub returns-then-is_end-clause-step : goal.returns-then-is_end-clause-step
returns-then-is_end-clause-step c =
    let here : c.self.inside.position ≡ c.args.self.now.position = ap (λ s. s.position) c.self.view_is in
    λ images work. (
      pass_ends c.args.until (with_work work (held images c.args.self.now)) (ap (is_until c.args.until) (sym here) ∙ (sym c.is_end.ensures ∙ c.if-is_end.true)),
      here,
    )

pub returns-clause-step : goal.returns-clause-step
returns-clause-step c =
    let here : c.self.inside.position ≡ c.args.self.now.position = ap (λ s. s.position) c.self.view_is in
    λ images work. pass_goes c.args.until (with_work work (held images c.args.self.now)) (ap (is_until c.args.until) (sym here) ∙ (sym c.is_end.ensures ∙ c.if-is_end.false))
