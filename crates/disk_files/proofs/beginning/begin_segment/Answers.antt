use Rattle.disk_files.proofs.BeginLaws.{begin_kept, can_create}
use Rattle.disk_files.proofs.OneCall.{keeps_others, does_by, cut_by}
use Rattle.disk_files.proofs.beginning.begin_segment.Goals as goal

pub returns-clause-effect : goal.returns-clause-effect
returns-clause-effect g c = λ t s holds can.
    does_by c.args.start _ _ _ (g.met.D.Disk.sound _ (c.create.ensures.call.tells.0 t)) (c.create.ensures.touches t) s holds _ _
    (c.create.ensures.effect t s.segments holds.segments (can_create c.args.start c.requires.start.0 c.requires.start.1 _ (g.met.D.Disk.sound _ t) s holds c.args.epoch can))
    (begin_kept c.args.start c.args.epoch c.requires.start.0 c.requires.start.1 _ _ s holds can (c.create.ensures.touches t) _)

pub returns-clause-others : goal.returns-clause-others
returns-clause-others g c = λ t. keeps_others c.args.start _ _ _ (g.met.D.Disk.sound _ (c.create.ensures.call.tells.0 t)) (c.create.ensures.touches t) c.requires.start.1

pub returns-clause-cut : goal.returns-clause-cut
returns-clause-cut g c = λ t s holds can.
    cut_by c.args.start _ _ _ (g.met.D.Disk.sound _ (c.create.ensures.call.tells.0 t)) (c.create.ensures.touches t) s holds _ _ _ _
    (c.create.ensures.cut t s.segments holds.segments (can_create c.args.start c.requires.start.0 c.requires.start.1 _ (g.met.D.Disk.sound _ t) s holds c.args.epoch can))
