use Rattle.std.proofs.Common.{◌++◌}
use Rattle.play_report.specs.Mirrored.{nodes_told_text}
use Rattle.play_report.proofs.MirrorLaws.{told_more, told_all}
use Rattle.play_report.proofs.mirrored.put_nodes.Goals as goal

pub loop-index-preserved : goal.loop-index-preserved
loop-index-preserved c =
    told_more c.loop-index.out.items c.put_node.new.out.items (c.args.out.now.items ++ nodes_told_text 1 c.args.heard.now) c.args.heard.now c.loop-index.index _ c.loop-index.invariant
    c.loop-index-test.true c.in_ok-put_node.ensures

pub returns : goal.returns
returns c =
    told_all c.loop-index.out.items (c.args.out.now.items ++ nodes_told_text 1 c.args.heard.now) c.args.heard.now c.loop-index.index c.loop-index.invariant c.loop-index-test.false
