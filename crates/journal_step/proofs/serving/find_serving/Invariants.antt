use Rattle.std.proofs.Common.{◌≡◌, ◌≤◌, None, drop, length}
use Rattle.journal_core.specs.Reads.{serving}
use Rattle.journal_step.proofs.serving.find_serving.Given as goal

-- no segment from the place on serves the txid
abbrev pub invariant-loop-place : goal.invariant-loop-place
invariant-loop-place l = (l.place ≤ length l.state.segments) × (serving l.state l.from (drop l.place l.state.segments) ≡ None)

abbrev pub decreases-loop-place : goal.decreases-loop-place
decreases-loop-place l = l.place
