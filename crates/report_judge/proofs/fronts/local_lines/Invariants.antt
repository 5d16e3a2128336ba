use Rattle.std.proofs.Common.{◌-◌}
use Rattle.journal_history.specs.Cell.{fresh_cell, IsLocalRun}
use Rattle.report_judge.proofs.FrontLaws.{Between}
use Rattle.report_judge.proofs.fronts.local_lines.Given as goal

abbrev pub invariant-loop-broken : goal.invariant-loop-broken
invariant-loop-broken l = Between (IsLocalRun fresh_cell) l.lines l.kept l.broken

abbrev pub decreases-loop-broken : goal.decreases-loop-broken
decreases-loop-broken l = l.broken - l.kept
