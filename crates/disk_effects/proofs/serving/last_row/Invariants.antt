use Rattle.std.proofs.Common.{◌≡◌, max, drop}
use Rattle.disk_effects.specs.Served.{last_row}
use Rattle.disk_effects.proofs.serving.last_row.Given as goal

-- the greatest so far, or that of the rest
abbrev pub invariant-loop-row : goal.invariant-loop-row
invariant-loop-row l = max l.last (last_row l.memory.opened l.memory.known l.from (drop l.row-index l.table)) ≡ last_row l.memory.opened l.memory.known l.from l.table
