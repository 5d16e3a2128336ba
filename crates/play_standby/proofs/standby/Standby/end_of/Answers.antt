use Rattle.std.proofs.Common.{sym, ap, ◌∙◌}
use Rattle.play_names.specs.Tails.{TailEnd, Ends}
use Rattle.play_standby.specs.Standbys.{held}
use Rattle.play_standby.proofs.PassLaws.{ends_caught, ends_purged, ends_behind}
use Rattle.play_standby.proofs.standby.Standby.end_of.Goals as goal

pub returns-then-is_caught-clause-end : goal.returns-then-is_caught-clause-end
returns-then-is_caught-clause-end c =
    λ images. (
      ap (λ (e : TailEnd). Ends e (held images c.args.self.now)) (ends_caught c.args.until c.args.told.now (sym c.is_caught.ensures ∙ c.if-is_caught.true)),
      ap (λ s. s.position) c.self.view_is,
    )

pub returns-in-Some-clause-end : goal.returns-in-Some-clause-end
returns-in-Some-clause-end c =
    λ images. ap (λ (e : TailEnd). Ends e (held images c.args.self.now))
    (ends_purged c.args.until c.args.told.now c.in-Some.first (sym c.is_caught.ensures ∙ c.if-is_caught.false) (sym c.least_purged.ensures ∙ c.in-Some.is))

pub returns-in_ok-causes-in-None-clause-end : goal.returns-in_ok-causes-in-None-clause-end
returns-in_ok-causes-in-None-clause-end c =
    λ images. (
      ap (λ (e : TailEnd). Ends e (held images c.args.self.now))
          (ends_behind c.args.until c.args.told.now c.in_ok-causes-in-None.causes (sym c.is_caught.ensures ∙ c.if-is_caught.false) (sym c.least_purged.ensures ∙ c.in-None.is)
          c.in_ok-causes-in-None.ensures),
      ap (λ s. s.position) c.self.view_is,
    )
