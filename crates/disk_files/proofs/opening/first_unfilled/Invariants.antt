use Rattle.std.proofs.Common.{take}
use Rattle.disk_files.specs.OpenSteps.{AreFilledRows}
use Rattle.disk_files.proofs.opening.first_unfilled.Given as goal

-- each accepted segment of the rows so far holds an edit
abbrev pub invariant-loop-row : goal.invariant-loop-row
invariant-loop-row l = AreFilledRows (take l.row-index l.rows)
