use Rattle.std.proofs.Common.{◌≡◌}
use Rattle.play_names.specs.Tails.{pass_begun}
use Rattle.play_standby.specs.Standbys.{held}
use Rattle.play_standby.specs.Tailing.{tail_left}
use Rattle.play_standby.proofs.StepLaws.{Passes}
use Rattle.play_standby.proofs.standby.Standby.pass_on.Given as goal

abbrev pub invariant-loop-alloc : goal.invariant-loop-alloc
invariant-loop-alloc g l =
    Passes (g.P.Peers.nodes l.fn.peers) l.until (λ images. pass_begun l.until (held images l.fn.self)) (g.P.Peers.calls l.fn.peers) (g.P.Peers.calls l.peers) l.told.items l.self l.step
    × (g.P.Peers.nodes l.peers ≡ g.P.Peers.nodes l.fn.peers)
    × g.P.Peers.called l.fn.peers l.peers

abbrev pub decreases-loop-alloc : goal.decreases-loop-alloc
decreases-loop-alloc g l = tail_left (g.P.Peers.nodes l.peers) l.told.items l.self.position l.step
