use Rattle.std.proofs.Common.{ap, ◌∙◌, length, arith}
use Rattle.report_judge.proofs.PlaceLaws.{caller_lines_more}
use Rattle.report_judge.proofs.place.lines_of_callers.Goals as goal

pub loop-caller-preserved : goal.loop-caller-preserved
loop-caller-preserved c =
    let more = caller_lines_more c.args.ends.now c.args.records.now c.loop-caller.caller c.index-records-caller.result c.loop-caller-test.true in
    let own = ap length (c.as_slice.ensures ∙ c.index-records-caller.is) in
    let space = c.lines_of_space-space.ensures in
    omega (arith, more, own, space, c.loop-caller.invariant, c.saturating_add.ensures, c.saturating_add-in-loop-caller.ensures, c.saturating_add-lines.ensures)
