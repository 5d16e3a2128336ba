use Rattle.std.proofs.Common.{◌-◌}
use Rattle.report_judge.specs.Places.{AreOf}
use Rattle.report_judge.proofs.FrontLaws.{Between}
use Rattle.report_judge.proofs.fronts.made_lines.Given as goal

abbrev pub invariant-loop-broken : goal.invariant-loop-broken
invariant-loop-broken l = Between (AreOf l.caller l.nodes) l.lines l.kept l.broken

abbrev pub decreases-loop-broken : goal.decreases-loop-broken
decreases-loop-broken l = l.broken - l.kept
