use Rattle.std.proofs.Common.{[], ◌++◌, ◌+◌, ◌∙◌, ap, arith, rules}
use Rattle.play_report.specs.Text.{node_text, nodes_text}
use Rattle.play_report.proofs.NodeLaws.{nodes_more, nodes_all}
use Rattle.play_report.proofs.TakerLaws.{same_as}
use Rattle.play_report.proofs.report.put_nodes.Goals as goal

pub loop-index-init : goal.loop-index-init
loop-index-init g c = ([], g.met.T.Taker.adds_none _, search rules)

pub loop-index-preserved : goal.loop-index-preserved
loop-index-preserved g c =
    let inv = c.loop-index.invariant in
    let ends = c.args.ends.now in
    let i = c.loop-index.index in
    let node = node_text ends (i + 1) c.as_slice.result.now in (
      inv.0 ++ node,
      g.met.T.Taker.adds_more _ _ _ inv.0 node inv.1 c.put_node.ensures,
      nodes_more ends inv.0 (inv.0 ++ node) (nodes_text ends 1 c.args.histories.now) c.args.histories.now i c.index-histories-index.result inv.2 (omega (arith, c.loop-index-test.true))
          (ap (λ h. inv.0 ++ node_text ends (i + 1) h) (c.as_slice.ensures ∙ c.index-histories-index.is)),
    )

pub returns : goal.returns
returns g c =
    let inv = c.loop-index.invariant in
    same_as g.T.Taker.adds g.met.T.Taker.adds_more _ _ _ _ inv.1
    (nodes_all c.args.ends.now inv.0 _ c.args.histories.now c.loop-index.index inv.2 (omega (arith, c.loop-index-test.false)))
