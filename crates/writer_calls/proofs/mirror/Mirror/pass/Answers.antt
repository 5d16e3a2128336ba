use Rattle.std.proofs.Common.{◌≡◌, ℕ, ◌+◌, List, [], ◌∷◌, ◌++◌, length, refl, ap, ◌∙◌, arith, length-append}
use Rattle.std.proofs.lemmas.Result.{err_from_is_err_and}
use Rattle.writer_calls.specs.declared.told.NodeTold.{NodeTold}
use Rattle.writer_calls.proofs.Passing.{passes_on, nodes_none, nodes_more}
use Rattle.writer_calls.proofs.mirror.Mirror.pass.Goals as goal

one_longer : (heard all : List NodeTold) (told : NodeTold) (node : ℕ) → all ≡ heard ++ told ∷ [] → length heard ≡ node → length all ≡ node + 1
one_longer heard all told node e count =
    let long : length all ≡ length heard + 1 = ap (λ (ts : List NodeTold). length ts) e ∙ length-append heard (told ∷ []) in
    omega (arith, long, count)

pub loop-node-init : goal.loop-node-init
loop-node-init g c = record {
  taken = nodes_none (g.P.Peers.calls c.args.peers.now) c.args.self.now c.new-pass.result.heard.items c.new-pass.result.stopped.items c.new-pass.ensures.heard c.new-pass.ensures.stopped;
  count = ap (λ (ts : List NodeTold). length ts) c.new-pass.ensures.heard;
  nodes = refl;
  called = g.met.P.Peers.called_none c.args.peers.now;
}

pub returns-in_err-more-clause-begun : goal.returns-in_err-more-clause-begun
returns-in_err-more-clause-begun g c =
    let p = err_from_is_err_and c.from_residual.result c.from_residual.ensures.1 in
    rw p.1 (passes_on (g.P.Peers.calls c.args.peers.now) (g.P.Peers.calls c.loop-node.peers) (g.P.Peers.calls c.take_node.new.peers) c.args.self.now c.loop-node.self c.take_node.new.self
    c.loop-node.invariant.taken.passes c.in_err-more.ensures.begun)

pub returns-in_err-add-clause-begun : goal.returns-in_err-add-clause-begun
returns-in_err-add-clause-begun g c =
    let p = err_from_is_err_and c.from_residual-in_err-add.result c.from_residual-in_err-add.ensures.1 in
    let taken = c.in_ok-more.ensures.taken in
    rw p.1 (passes_on (g.P.Peers.calls c.args.peers.now) (g.P.Peers.calls c.loop-node.peers) (g.P.Peers.calls c.take_node.new.peers) c.args.self.now c.loop-node.self c.take_node.new.self
    c.loop-node.invariant.taken.passes taken.passes)

pub loop-node-preserved : goal.loop-node-preserved
loop-node-preserved g c =
    let i = c.loop-node.invariant in
    record {
      taken = nodes_more c.loop-node.pass.heard.items c.add.new.self.heard.items c.in_ok-more.more.told c.loop-node.node (g.P.Peers.calls c.args.peers.now) (g.P.Peers.calls c.loop-node.peers)
          (g.P.Peers.calls c.take_node.new.peers) c.args.self.now c.loop-node.self c.take_node.new.self c.loop-node.pass.stopped.items c.in_ok-more.more.stopped.items c.add.new.self.stopped.items
          i.taken i.count c.in_ok-more.ensures.taken c.in_ok-add.ensures.heard c.in_ok-add.ensures.stopped;
      count = one_longer c.loop-node.pass.heard.items c.add.new.self.heard.items c.in_ok-more.more.told c.loop-node.node c.in_ok-add.ensures.heard i.count;
      nodes = c.in_ok-more.ensures.nodes ∙ i.nodes;
      called = g.met.P.Peers.called_on c.args.peers.now c.loop-node.peers c.take_node.new.peers i.called c.in_ok-more.ensures.called;
    }
