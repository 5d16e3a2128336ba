use Rattle.std.proofs.Common.{refl}
use Rattle.journal_core.specs.Effects.{empty_segment}
use Rattle.disk_segment.proofs.FileBytes.{in_range}
use Rattle.disk_segment.proofs.EffectLaws.{cut_before}
use Rattle.disk_segment.proofs.Counts.{counted_put}
use Rattle.disk_segment.proofs.PlacedLaws.{quiet, placed_becomes, placed_touches, placed_appends, empty_edits}
use Rattle.disk_segment.proofs.creating.create.Goals as goal

pub returns-clause-effect : goal.returns-clause-effect
returns-clause-effect g c = λ t gs ready can.
    placed_becomes c.args.start c.requires.start.0 c.requires.start.1 _ (g.met.D.Disk.sound _ t) gs ready _ (empty_segment c.args.start c.args.epoch) 24 refl refl can.not_final
    (empty_edits c.args.start c.args.epoch (in_range _ _ c.requires.start c.requires.epoch)) can.other_epoch _ _ (c.place_empty.ensures.place t)

pub returns-clause-touches : goal.returns-clause-touches
returns-clause-touches g c = λ t. placed_touches c.args.start _ _ _ _ (g.met.D.Disk.sound _ (c.place_empty.ensures.call.tells.0 t)) (c.place_empty.ensures.place t)

pub returns-clause-appends : goal.returns-clause-appends
returns-clause-appends g c = λ t. placed_appends c.args.start c.args.epoch (in_range _ _ c.requires.start c.requires.epoch) _ _ _ (c.place_empty.ensures.place t) (c.place_empty.ensures.stable t)

pub returns-clause-counts : goal.returns-clause-counts
returns-clause-counts g c = counted_put _ _ _ _ _ _ _ c.place_empty.ensures.cut

pub returns-clause-cut : goal.returns-clause-cut
returns-clause-cut g c = λ t gs ready can.
    cut_before 3 gs _ _ _ _ _ _ _ _ _ (λ cut. refl) t c.place_empty.ensures.cut (quiet c.args.start c.requires.start.0 c.requires.start.1 _ (g.met.D.Disk.sound _ t) gs ready)
