use Rattle.std.proofs.Common.{◌≡◌, length}
use Rattle.report_judge.specs.Pieces.{pieces, behind}
use Rattle.report_judge.specs.Reading.{record_in}
use Rattle.report_judge.proofs.records.read_record.Given as goal

-- the lines so far, and those to come
abbrev pub invariant-loop-line : goal.invariant-loop-line
invariant-loop-line l = behind l.lines (record_in l.nodes (pieces l.rest)) ≡ behind l.fn.lines (record_in l.nodes (pieces l.text))

abbrev pub decreases-loop-line : goal.decreases-loop-line
decreases-loop-line l = length l.rest
