use Rattle.std.proofs.Common.{◌≡◌, ◌≤◌, drop, length}
use Rattle.writer_core.specs.Rank.{best_among}
use Rattle.writer_core.proofs.prepared.best.Given as goal

-- the best of those after the ones that are left
abbrev pub invariant-loop-rest : goal.invariant-loop-rest
invariant-loop-rest l = (l.rest ≤ length l.answers) × (l.best ≡ best_among l.rest (drop l.rest l.answers))

abbrev pub decreases-loop-rest : goal.decreases-loop-rest
decreases-loop-rest l = l.rest
