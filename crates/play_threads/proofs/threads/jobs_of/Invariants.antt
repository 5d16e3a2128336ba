use Rattle.std.proofs.Common.{◌≡◌, length}
use Rattle.play_threads.specs.Gathered.{numbered_from}
use Rattle.play_threads.proofs.threads.jobs_of.Given as goal

abbrev pub invariant-loop-seats : goal.invariant-loop-seats
invariant-loop-seats g l = (l.caller ≡ length l.yielded) × (l.jobs.items ≡ numbered_from 0 l.yielded)
