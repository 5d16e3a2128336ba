use Rattle.disk_segment.proofs.AppendLaws.{append_becomes, append_touches, append_hands, append_cut, seal_counted}
use Rattle.disk_segment.proofs.appending.append.Goals as goal

pub returns-clause-effect : goal.returns-clause-effect
returns-clause-effect g c = λ t gs s ready can.
    append_becomes c.args.start c.requires.start.0 c.requires.start.1 _ (g.met.D.Disk.sound _ t) gs ready c.args.at c.args.batch.now s can _ _ (c.append_frame.ensures.effect t)

pub returns-clause-touches : goal.returns-clause-touches
returns-clause-touches g c = λ t. append_touches c.args.start c.args.at c.args.batch.now _ _ _ (g.met.D.Disk.sound _ (c.append_frame.ensures.call.tells.0 t)) (c.append_frame.ensures.effect t)

pub returns-clause-appends : goal.returns-clause-appends
returns-clause-appends g c = λ t s start_is was good. append_hands c.args.start c.args.at c.args.batch.now _ _ _ s start_is was good (c.append_frame.ensures.effect t) (c.append_frame.ensures.stable t)

pub returns-clause-counts : goal.returns-clause-counts
returns-clause-counts g c = seal_counted _ _ _ c.append_frame.ensures.counts

pub returns-clause-cut : goal.returns-clause-cut
returns-clause-cut g c = λ t gs s ready can.
    append_cut c.args.start c.requires.start.0 c.requires.start.1 _ (g.met.D.Disk.sound _ t) gs ready c.args.at c.args.batch.now s can _ _
    (g.met.D.Disk.sound _ (c.append_frame.ensures.call.tells.0 t)) (c.append_frame.ensures.effect t) _ c.append_frame.ensures.good
    (c.append_frame.ensures.cut t)
