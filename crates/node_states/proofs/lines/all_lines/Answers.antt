use Rattle.node_states.proofs.LineLaws.{node_more, node_last}
use Rattle.node_states.proofs.lines.all_lines.Goals as goal

pub loop-index-preserved : goal.loop-index-preserved
loop-index-preserved c =
    node_more c.args.mesh.now.records c.as_slice-records.result.now c.loop-index.index c.args.mesh.now.histories c.as_slice-history-items.result.now c.as_slice.result.now
    c.history-item.result c.in_ok-lines_at.field-0 c.loop-index.lines.items c.push.new.self.items _ c.loop-index.invariant c.loop-index-test.true c.as_slice-history-items.ensures
    c.as_slice-records.ensures c.history-item.is c.as_slice.ensures c.in_ok-lines_at.ensures c.in_ok-push.ensures.items

pub returns : goal.returns
returns c =
    node_last c.args.mesh.now.records c.loop-index.index c.args.mesh.now.histories c.as_slice-history-items.result.now c.loop-index.lines.items _ c.loop-index.invariant
    c.as_slice-history-items.ensures c.loop-index-test.false
