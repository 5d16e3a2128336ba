use Rattle.disk_files.proofs.AppendLaws.{append_kept}
use Rattle.disk_files.proofs.OneCall.{keeps_others, does_by, cut_by}
use Rattle.disk_files.proofs.appending.append_edits.Goals as goal

pub returns-clause-effect : goal.returns-clause-effect
returns-clause-effect g c = λ t s h holds can.
    does_by c.args.start _ _ _ (g.met.D.Disk.sound _ (c.append.ensures.call.tells.0 t)) (c.append.ensures.touches t) s holds _ _
    (c.append.ensures.effect t s.segments h holds.segments can)
    (append_kept c.args.start c.args.at c.args.batch.now c.requires.start.0 c.requires.start.1 _ _ s h holds can (c.append.ensures.touches t) _)

pub returns-clause-others : goal.returns-clause-others
returns-clause-others g c = λ t. keeps_others c.args.start _ _ _ (g.met.D.Disk.sound _ (c.append.ensures.call.tells.0 t)) (c.append.ensures.touches t) c.requires.start.1

pub returns-clause-cut : goal.returns-clause-cut
returns-clause-cut g c = λ t s h holds can.
    cut_by c.args.start _ _ _ (g.met.D.Disk.sound _ (c.append.ensures.call.tells.0 t)) (c.append.ensures.touches t) s holds _ _ _ _
    (c.append.ensures.cut t s.segments h holds.segments can)
