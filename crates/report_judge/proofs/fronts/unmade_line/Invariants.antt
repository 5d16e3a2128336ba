use Rattle.std.proofs.Common.{ℕ, ◌<◌}
use Rattle.mesh.specs.Agree.{record_of}
use Rattle.report_judge.specs.declared.fronts.Caller.TheVariants as caller
use Rattle.report_judge.specs.Places.{AreOf}
use Rattle.report_judge.proofs.fronts.unmade_line.Given as goal

-- each record before has calls of some chores
abbrev pub invariant-loop-caller : goal.invariant-loop-caller
invariant-loop-caller l = (c : ℕ) → c < l.caller → AreOf caller.Actor l.mesh.nodes (record_of l.mesh c)
