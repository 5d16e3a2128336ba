use Rattle.std.proofs.Common.{◌≡◌}
use Rattle.writer_core.specs.Left.{calls_left}
use Rattle.writer_calls.proofs.Going.{Goes}
use Rattle.writer_calls.proofs.quorum.QuorumWriter.finish.Given as goal

abbrev pub invariant-loop-turn : goal.invariant-loop-turn
invariant-loop-turn g l =
    Goes l.initial.self (g.P.Peers.calls l.initial.peers) l.self (g.P.Peers.calls l.peers) l.turn
    × (g.P.Peers.nodes l.peers ≡ g.P.Peers.nodes l.initial.peers)
    × g.P.Peers.called l.initial.peers l.peers

abbrev pub decreases-loop-turn : goal.decreases-loop-turn
decreases-loop-turn g l = calls_left l.self
