use Rattle.play_names.specs.declared.tailed.Tailed.TheVariants as tailed
use Rattle.play_standby.proofs.EntryLaws.{tail_entered}
use Rattle.play_standby.proofs.taking.tail_in.Goals as goal

pub returns-in-Behind-clause-tailed : goal.returns-in-Behind-clause-tailed
returns-in-Behind-clause-tailed g c =
    λ images.
    tail_entered (g.P.Peers.nodes c.args.peers.now) c.args.first c.saturating_sub-last.result images c.args.standby.now c.enter.new.self
    c.tail.new.self (g.P.Peers.calls c.args.peers.now) (g.P.Peers.calls c.tail.new.peers)
    (tailed.Behind c.in-Behind.txid c.in-Behind.causes) c.saturating_sub-last.ensures (c.in-Ok.ensures.ok images) (c.in-Behind.ensures.tailed images)

pub returns-in-BadEntry-clause-tailed : goal.returns-in-BadEntry-clause-tailed
returns-in-BadEntry-clause-tailed g c =
    λ images.
    tail_entered (g.P.Peers.nodes c.args.peers.now) c.args.first c.saturating_sub-last.result images c.args.standby.now c.enter.new.self
    c.tail.new.self (g.P.Peers.calls c.args.peers.now) (g.P.Peers.calls c.tail.new.peers)
    (tailed.BadEntry c.in-BadEntry.txid) c.saturating_sub-last.ensures (c.in-Ok.ensures.ok images) (c.in-BadEntry.ensures.tailed images)
