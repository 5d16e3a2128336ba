use Rattle.std.proofs.Common.{◌≡◌, ◌≤◌, ◌+◌, ◌-◌, length}
use Rattle.writer_calls.specs.Fetching.{HasFetched}
use Rattle.writer_calls.proofs.fetching.fetch.Given as goal

-- the bodies so far are what the calls so far gave
abbrev pub invariant-loop-from : goal.invariant-loop-from
invariant-loop-from g l = record {
  fetched : HasFetched l.node l.start (g.P.Peers.calls l.fn.peers) (g.P.Peers.calls l.peers) l.bodies;
  next : l.from ≡ l.start + length l.bodies;
  small : 1 ≤ length l.bodies → l.from ≤ 4611686018427387905;
  nodes : g.P.Peers.nodes l.peers ≡ g.P.Peers.nodes l.fn.peers;
  called : g.P.Peers.called l.fn.peers l.peers;
}

abbrev pub decreases-loop-from : goal.decreases-loop-from
decreases-loop-from g l = l.end + 1 - l.from
