use Rattle.std.proofs.Common.{◌≡◌}
use Rattle.play_threads.proofs.run.plan_of.Given as goal

abbrev pub invariant-loop-marks : goal.invariant-loop-marks
invariant-loop-marks l = l.plan ≡ l.yielded
