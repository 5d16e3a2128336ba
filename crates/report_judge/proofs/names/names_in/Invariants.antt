use Rattle.std.proofs.Common.{◌≡◌, ◌≤◌, [], length}
use Rattle.report_judge.specs.Pieces.{pieces}
use Rattle.report_judge.specs.Reading.{names_from}
use Rattle.report_judge.proofs.names.names_in.Given as goal

-- eight names at most, and those to come
abbrev pub invariant-loop-line : goal.invariant-loop-line
invariant-loop-line l = (length l.ends ≤ 8) × (names_from l.ends (pieces l.rest) ≡ names_from [] (pieces l.text))

abbrev pub decreases-loop-line : goal.decreases-loop-line
decreases-loop-line l = length l.rest
