use Rattle.std.proofs.Common.{◌≡◌, ◌≤◌, IfSome, drop, length}
use Rattle.writer_core.specs.Best.{greatest_newest}
use Rattle.writer_core.proofs.slots.greatest_newest.Given as goal

-- the greatest of those after the ones that are left
abbrev pub invariant-loop-rest : goal.invariant-loop-rest
invariant-loop-rest l = (l.rest ≤ length l.slots) × (l.greatest ≡ greatest_newest (drop l.rest l.slots)) × IfSome l.greatest (λ start. start ≤ 4611686018427387904)

abbrev pub decreases-loop-rest : goal.decreases-loop-rest
decreases-loop-rest l = l.rest
