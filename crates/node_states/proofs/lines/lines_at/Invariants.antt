use Rattle.std.proofs.Common.{◌≡◌, ◌++◌, drop}
use Rattle.node_states.specs.Lines.{lines_from, lines_at}
use Rattle.node_states.proofs.lines.lines_at.Given as goal

-- the lines so far, and those to come
abbrev pub invariant-loop-line : goal.invariant-loop-line
invariant-loop-line l = l.lines ++ lines_from l.records l.taken.items l.index l.line (drop l.line l.history) ≡ lines_at l.records l.index l.history
