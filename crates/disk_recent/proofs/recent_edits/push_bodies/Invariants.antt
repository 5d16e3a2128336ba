use Rattle.std.proofs.Common.{ℕ, ◌≡◌, ◌-◌, ◌++◌, List, length, take}
use Rattle.disk_recent.specs.Edits.{stored_bytes}
use Rattle.disk_recent.specs.Recent.{AreFilled}
use Rattle.disk_recent.proofs.Pushing.{IsLeft}
use Rattle.disk_recent.proofs.recent_edits.push_bodies.Given as goal

-- the bodies that are left to be added are those of the rest
abbrev pub invariant-loop-rest : goal.invariant-loop-rest
invariant-loop-rest l = (added : List (List ℕ)) → l.bytes ≡ stored_bytes added → AreFilled added → IsLeft l.most l.rest l.bodies (l.fn.bodies ++ take (l.most - length l.fn.bodies) added)

abbrev pub decreases-loop-rest : goal.decreases-loop-rest
decreases-loop-rest l = l.most - length l.bodies
