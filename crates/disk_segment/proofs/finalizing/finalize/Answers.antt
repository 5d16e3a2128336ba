use Rattle.disk_segment.proofs.RenamedLaws.{finalize_becomes, finalize_touches, cut_one}
use Rattle.disk_segment.proofs.Counts.{counted_one}
use Rattle.disk_segment.proofs.finalizing.finalize.Goals as goal

pub returns-clause-effect : goal.returns-clause-effect
returns-clause-effect g c = λ t gs s ready can. finalize_becomes c.args.start c.requires.start.0 c.requires.start.1 _ (g.met.D.Disk.sound _ t) gs
    ready c.args.end s can _ _ (c.rename_to_final.ensures.moves t)

pub returns-clause-touches : goal.returns-clause-touches
returns-clause-touches g c = λ t. finalize_touches c.args.start c.args.end _ _ _ (g.met.D.Disk.sound _ t)
    (g.met.D.Disk.sound _ (c.rename_to_final.ensures.call.tells.0 t)) (c.rename_to_final.ensures.moves t)

pub returns-clause-counts : goal.returns-clause-counts
returns-clause-counts g c = counted_one _ _ _ _ _ _ c.rename_to_final.ensures.cut

pub returns-clause-cut : goal.returns-clause-cut
returns-clause-cut g c = λ t gs s ready can. cut_one gs _ _ _ _ _ _ _ t c.rename_to_final.ensures.cut ready.stands
