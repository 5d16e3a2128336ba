use Rattle.std.proofs.Common.{refl}
use Rattle.disk_segment.proofs.FileBytes.{in_range}
use Rattle.disk_segment.proofs.EffectLaws.{cut_before}
use Rattle.disk_segment.proofs.Counts.{counted_put}
use Rattle.disk_segment.proofs.PlacedLaws.{quiet}
use Rattle.disk_segment.proofs.PlacedAgain.{again_becomes, again_touches}
use Rattle.disk_segment.proofs.repeating.replace_again.Goals as goal

pub returns-clause-effect : goal.returns-clause-effect
returns-clause-effect g c = λ t gs s ready can.
    again_becomes c.args.epoch c.args.batch.now (in_range _ _ c.requires.start c.requires.epoch) _ (g.met.D.Disk.sound _ t) gs ready s can _ _ (c.place_frame.ensures.place t)

pub returns-clause-touches : goal.returns-clause-touches
returns-clause-touches g c = λ t. again_touches c.args.epoch c.args.batch.now _ _ _ (g.met.D.Disk.sound _ (c.place_frame.ensures.call.tells.0 t)) (c.place_frame.ensures.place t)

pub returns-clause-counts : goal.returns-clause-counts
returns-clause-counts g c = counted_put _ _ _ _ _ _ _ c.place_frame.ensures.cut

pub returns-clause-cut : goal.returns-clause-cut
returns-clause-cut g c = λ t gs s ready can.
    cut_before 3 gs _ _ _ _ _ _ _ _ _ (λ cut. refl) t c.place_frame.ensures.cut (quiet c.args.batch.now.first c.requires.start.0 c.requires.start.1 _ (g.met.D.Disk.sound _ t) gs ready)
