use Rattle.std.proofs.Common.{List, refl, subst}
use Rattle.std.proofs.lemmas.Result.{err_from_is_err_and}
use Rattle.journal_core.specs.declared.segment_line.SegmentLine.{SegmentLine}
use Rattle.writer_calls.specs.Told.{lines_of_node}
use Rattle.writer_calls.specs.Passing.{LinesBegun, LinesTaken}
use Rattle.writer_calls.proofs.Passing.{node_begun, node_taken, passes_idle}
use Rattle.writer_calls.proofs.mirror.Mirror.take_node.Goals as goal

pub returns-in_err-heard-clause-begun : goal.returns-in_err-heard-clause-begun
returns-in_err-heard-clause-begun g c =
    let p = err_from_is_err_and c.from_residual.result c.from_residual.ensures.1 in
    rw p.1 (passes_idle (g.P.Peers.calls c.args.peers.now) (g.P.Peers.calls c.ask_manifest.new.peers) c.args.self.now c.args.self.now c.in_err-heard.ensures.listed refl)

pub returns-in_err-stopped-clause-begun : goal.returns-in_err-stopped-clause-begun
returns-in_err-stopped-clause-begun g c =
    let p = err_from_is_err_and c.from_residual-in_err-stopped.result c.from_residual-in_err-stopped.ensures.1 in
    rw p.1 (node_begun c.args.node c.in_ok-heard.heard (g.P.Peers.calls c.args.peers.now) (g.P.Peers.calls c.ask_manifest.new.peers) (g.P.Peers.calls c.take_lines.new.peers)
    c.args.self.now c.take_lines.new.self c.in_ok-heard.ensures.listed
    (subst (λ (ls : List SegmentLine). LinesBegun (lines_of_node c.args.node ls) (g.P.Peers.calls c.ask_manifest.new.peers) (g.P.Peers.calls c.take_lines.new.peers) c.args.self.now
    c.take_lines.new.self) c.lines_heard.ensures c.in_err-stopped.ensures.begun))

pub returns-clause-taken : goal.returns-clause-taken
returns-clause-taken g c =
    node_taken c.args.node c.in_ok-heard.heard c.told_of.result (g.P.Peers.calls c.args.peers.now) (g.P.Peers.calls c.ask_manifest.new.peers) (g.P.Peers.calls c.take_lines.new.peers)
    c.args.self.now c.take_lines.new.self c.in_ok-stopped.stopped.items c.in_ok-heard.ensures.listed c.told_of.ensures
    (subst (λ (ls : List SegmentLine). LinesTaken (lines_of_node c.args.node ls) (g.P.Peers.calls c.ask_manifest.new.peers) (g.P.Peers.calls c.take_lines.new.peers) c.args.self.now
    c.take_lines.new.self c.in_ok-stopped.stopped.items) c.lines_heard.ensures c.in_ok-stopped.ensures.taken)
