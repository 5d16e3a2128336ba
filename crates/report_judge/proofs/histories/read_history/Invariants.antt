use Rattle.std.proofs.Common.{◌≡◌, length}
use Rattle.report_judge.specs.Pieces.{pieces, behind}
use Rattle.report_judge.specs.Reading.{history_in}
use Rattle.report_judge.proofs.histories.read_history.Given as goal

-- the lines so far, and those to come
abbrev pub invariant-loop-line : goal.invariant-loop-line
invariant-loop-line l = behind l.history (history_in l.ends (pieces l.rest)) ≡ behind l.fn.history (history_in l.ends (pieces l.text))

abbrev pub decreases-loop-line : goal.decreases-loop-line
decreases-loop-line l = length l.rest
