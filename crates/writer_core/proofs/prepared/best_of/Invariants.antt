use Rattle.std.proofs.Common.{◌≡◌, ◌+◌, ◌≤◌, drop, length}
use Rattle.writer_core.specs.Best.{best_from}
use Rattle.writer_core.proofs.prepared.best_of.Given as goal

-- the best of those after the ones that are left
abbrev pub invariant-loop-rest : goal.invariant-loop-rest
invariant-loop-rest l = (l.rest ≤ length l.slots) × (l.best ≡ best_from l.start (l.rest + 1) (drop l.rest l.slots))

abbrev pub decreases-loop-rest : goal.decreases-loop-rest
decreases-loop-rest l = l.rest
