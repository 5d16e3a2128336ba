use Rattle.disk_segment.proofs.RenamedLaws.{discard_becomes, discard_touches, cut_one}
use Rattle.disk_segment.proofs.Counts.{counted_one}
use Rattle.disk_segment.proofs.discarding.discard.Goals as goal

pub returns-clause-effect : goal.returns-clause-effect
returns-clause-effect g c = λ t gs s ready can.
    discard_becomes c.args.segment.now.start c.requires.start.0 c.requires.start.1 _ (g.met.D.Disk.sound _ t) gs ready c.args.segment.now.end
    c.args.segment.now.is_final s can _ _ (c.remove_file.ensures.removes t)

pub returns-clause-touches : goal.returns-clause-touches
returns-clause-touches g c = λ t. discard_touches c.args.segment.now.start _ _ _ _ (g.met.D.Disk.sound _ t)
    (g.met.D.Disk.sound _ (c.remove_file.ensures.call.tells.0 t)) (c.remove_file.ensures.removes t)

pub returns-clause-counts : goal.returns-clause-counts
returns-clause-counts g c = counted_one _ _ _ _ _ _ c.remove_file.ensures.cut

pub returns-clause-cut : goal.returns-clause-cut
returns-clause-cut g c = λ t gs s ready can. cut_one gs _ _ _ _ _ _ _ t c.remove_file.ensures.cut ready.stands
