use Rattle.std.proofs.Common.{arith}
use Rattle.play_script.proofs.MadeLineLaws.{edits_more, edits_all}
use Rattle.play_script.proofs.generating.put_edits.Goals as goal

pub loop-count-preserved : goal.loop-count-preserved
loop-count-preserved c =
    edits_more c.args.nodes c.args.edits c.loop-count.count c.loop-count.making c.put_before.new.self c.loop-count.lines.items c.put_before.new.lines.items c.put_edit.new.lines.items _
    c.loop-count.invariant (omega (arith, c.loop-count-test.true)) c.in_ok-put_before.ensures.lines c.in_ok-put_before.ensures.next c.in_ok-put_edit.ensures

pub returns : goal.returns
returns c = edits_all c.args.nodes c.args.edits c.loop-count.count c.loop-count.making c.loop-count.lines.items _ c.loop-count.invariant (omega (arith, c.loop-count-test.false))
