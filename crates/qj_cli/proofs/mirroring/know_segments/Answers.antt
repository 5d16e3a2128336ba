use Rattle.std.proofs.Common.{List, subst}
use Rattle.std.specs.List.{All}
use Rattle.std.proofs.lemmas.List.{take_all}
use Rattle.std.proofs.lemmas.List.Elements.{All-more}
use Rattle.journal_core.specs.Segments.{AreSound}
use Rattle.journal_core.specs.declared.node_state.NodeState.{NodeState}
use Rattle.qj_cli.proofs.mirroring.know_segments.Goals as goal

pub loop-node-preserved : goal.loop-node-preserved
loop-node-preserved c =
    let sound : AreSound c.node-item.result.segments = subst (λ (s : NodeState). AreSound s.segments) c.state.ensures c.as_slice.ensures.sound in
    All-more (λ (s : NodeState). AreSound s.segments) c.args.nodes.now c.loop-node.node-index c.node-item.result c.loop-node-test.true c.loop-node.invariant
    (subst (λ (s : NodeState). AreSound s.segments) c.node-item.is sound)

pub returns : goal.returns
returns c =
    subst (λ (ss : List NodeState). All (λ s. AreSound s.segments) ss) (take_all c.loop-node.node-index c.args.nodes.now c.loop-node-test.false) c.loop-node.invariant
