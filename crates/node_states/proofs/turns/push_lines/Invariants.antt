use Rattle.std.proofs.Common.{◌≡◌, ◌++◌, drop}
use Rattle.node_states.specs.Turns.{turns_from}
use Rattle.node_states.proofs.turns.push_lines.Given as goal

-- the lines so far, and those to come
abbrev pub invariant-loop-line : goal.invariant-loop-line
invariant-loop-line l = l.turns.items ++ turns_from l.records (drop l.line-index l.lines) ≡ l.fn.turns.items ++ turns_from l.records l.lines
