use Rattle.std.proofs.Common.{◌≡◌, length}
use Rattle.writer_calls.specs.Told.{numbered}
use Rattle.writer_calls.specs.Passing.{NodesTaken}
use Rattle.writer_calls.proofs.mirror.Mirror.pass.Given as goal

-- the nodes so far were taken
abbrev pub invariant-loop-node : goal.invariant-loop-node
invariant-loop-node g l = record {
  taken : NodesTaken (numbered 1 l.pass.heard.items) (g.P.Peers.calls l.fn.peers) (g.P.Peers.calls l.peers) l.fn.self l.self l.pass.stopped.items;
  count : length l.pass.heard.items ≡ l.node;
  nodes : g.P.Peers.nodes l.peers ≡ g.P.Peers.nodes l.fn.peers;
  called : g.P.Peers.called l.fn.peers l.peers;
}
