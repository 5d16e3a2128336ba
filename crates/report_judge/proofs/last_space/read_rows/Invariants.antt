use Rattle.std.proofs.Common.{◌≡◌, length}
use Rattle.report_judge.specs.Pieces.{pieces, behind}
use Rattle.report_judge.specs.Reading.{rows_in}
use Rattle.report_judge.proofs.last_space.read_rows.Given as goal

-- the rows so far, and those to come
abbrev pub invariant-loop-line : goal.invariant-loop-line
invariant-loop-line l = behind l.rows.items (rows_in (pieces l.rest)) ≡ behind l.fn.rows.items (rows_in (pieces l.text))

abbrev pub decreases-loop-line : goal.decreases-loop-line
decreases-loop-line l = length l.rest
