use Rattle.std.proofs.Common.{◌≡◌, drop}
use Rattle.disk_effects.specs.Served.{least_row}
use Rattle.disk_effects.proofs.serving.least_row.Given as goal

-- no row so far serves an edit
abbrev pub invariant-loop-row : goal.invariant-loop-row
invariant-loop-row l = least_row l.memory.opened l.memory.known (drop l.row-index l.table) ≡ least_row l.memory.opened l.memory.known l.table
