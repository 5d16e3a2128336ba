use Rattle.disk_files.proofs.OpenRows.{filled_next, filled_all, unfilled_here}
use Rattle.disk_files.proofs.opening.first_unfilled.Goals as goal

pub loop-row-preserved : goal.loop-row-preserved
loop-row-preserved c = filled_next c.args.rows.now c.loop-row.row-index _ c.loop-row-test.true c.loop-row.invariant c.if-lacks_edit.ensures

pub returns-then-lacks_edit : goal.returns-then-lacks_edit
returns-then-lacks_edit c = unfilled_here c.args.rows.now c.loop-row.row-index _ c.loop-row-test.true c.loop-row.invariant c.if-lacks_edit.ensures

pub returns : goal.returns
returns c = filled_all c.args.rows.now c.loop-row.row-index c.loop-row-test.false c.loop-row.invariant
