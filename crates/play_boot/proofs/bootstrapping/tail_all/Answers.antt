use Rattle.std.proofs.Common.{refl, sym}
use Rattle.play_boot.proofs.TailLaws.{caught_here, behind_here}
use Rattle.play_boot.proofs.bootstrapping.tail_all.Goals as goal

pub returns-in-Caught-clause-tailed : goal.returns-in-Caught-clause-tailed
returns-in-Caught-clause-tailed g c =
    caught_here (g.P.Peers.nodes c.args.peers.now) c.args.standby.now (g.P.Peers.calls c.args.peers.now) (g.P.Peers.calls c.tail.new.peers) c.tail.new.self c.in-Caught.txid
    c.in-Caught.ensures.tailed

pub returns-in-Caught-clause-called : goal.returns-in-Caught-clause-called
returns-in-Caught-clause-called g c = λ ok. c.in-Caught.ensures.called (λ e. absurd (cc e))

pub unreachable-requires : goal.unreachable-requires
unreachable-requires g c = absurd (cc (c.in-Reached.ensures.exact))

pub returns-in-Behind-clause-tailed : goal.returns-in-Behind-clause-tailed
returns-in-Behind-clause-tailed g c = (
  c.in-Behind.ensures.tailed,
  behind_here (g.P.Peers.nodes c.args.peers.now) c.args.standby.now (g.P.Peers.calls c.args.peers.now) (g.P.Peers.calls c.tail.new.peers) c.tail.new.self c.in-Behind.txid
      c.in-Behind.causes c.in-Behind.ensures.tailed,
)

pub returns-in-Behind-clause-called : goal.returns-in-Behind-clause-called
returns-in-Behind-clause-called g c = λ ok. c.in-Behind.ensures.called (λ e. absurd (cc e))

pub returns-in-Purged-clause-tailed : goal.returns-in-Purged-clause-tailed
returns-in-Purged-clause-tailed g c = (c.in-Purged.ensures.tailed, sym c.position.ensures.position)

pub returns-in-Purged-clause-called : goal.returns-in-Purged-clause-called
returns-in-Purged-clause-called g c = λ ok. c.in-Purged.ensures.called (λ e. absurd (cc e))

pub returns-in-BadEntry-clause-tailed : goal.returns-in-BadEntry-clause-tailed
returns-in-BadEntry-clause-tailed g c = c.in-BadEntry.ensures.tailed

pub returns-in-BadEntry-clause-called : goal.returns-in-BadEntry-clause-called
returns-in-BadEntry-clause-called g c = λ ok. c.in-BadEntry.ensures.called (λ e. absurd (cc e))

pub returns-in-OutOfMemory-clause-called : goal.returns-in-OutOfMemory-clause-called
returns-in-OutOfMemory-clause-called g c = λ other. absurd (other refl)
