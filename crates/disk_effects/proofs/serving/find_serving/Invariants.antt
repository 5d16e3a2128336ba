use Rattle.std.proofs.Common.{◌≡◌, ◌≤◌, None, drop, length}
use Rattle.disk_effects.specs.Served.{serving_row}
use Rattle.disk_effects.proofs.serving.find_serving.Given as goal

-- no row from the place on serves the txid
abbrev pub invariant-loop-place : goal.invariant-loop-place
invariant-loop-place l = (l.place ≤ length l.table) × (serving_row l.memory.opened l.memory.known l.from (drop l.place l.table) ≡ None)

abbrev pub decreases-loop-place : goal.decreases-loop-place
decreases-loop-place l = l.place
