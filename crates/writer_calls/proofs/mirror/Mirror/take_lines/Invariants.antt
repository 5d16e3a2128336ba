use Rattle.std.proofs.Common.{◌≡◌, take}
use Rattle.writer_calls.specs.Told.{lines_of_node}
use Rattle.writer_calls.specs.Passing.{LinesTaken}
use Rattle.writer_calls.proofs.mirror.Mirror.take_lines.Given as goal

-- the lines so far were taken
abbrev pub invariant-loop-line : goal.invariant-loop-line
invariant-loop-line g l = record {
  taken : LinesTaken (lines_of_node l.node (take l.line-index l.lines)) (g.P.Peers.calls l.fn.peers) (g.P.Peers.calls l.peers) l.fn.self l.self l.stopped.items;
  nodes : g.P.Peers.nodes l.peers ≡ g.P.Peers.nodes l.fn.peers;
  called : g.P.Peers.called l.fn.peers l.peers;
}
