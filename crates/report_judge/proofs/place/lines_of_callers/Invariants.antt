use Rattle.std.proofs.Common.{◌≡◌, take}
use Rattle.report_judge.specs.Places.{saturated, caller_lines}
use Rattle.report_judge.proofs.place.lines_of_callers.Given as goal

abbrev pub invariant-loop-caller : goal.invariant-loop-caller
invariant-loop-caller l = l.lines ≡ saturated (caller_lines l.ends (take l.caller l.records))
