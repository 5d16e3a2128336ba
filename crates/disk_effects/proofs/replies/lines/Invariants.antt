use Rattle.std.proofs.Common.{◌≡◌, ◌++◌, drop}
use Rattle.disk_effects.specs.Served.{row_lines}
use Rattle.disk_effects.proofs.replies.lines.Given as goal

-- the lines so far, and those of the rest
abbrev pub invariant-loop-row : goal.invariant-loop-row
invariant-loop-row l = l.lines ++ row_lines (drop l.row-index l.table) ≡ row_lines l.table
