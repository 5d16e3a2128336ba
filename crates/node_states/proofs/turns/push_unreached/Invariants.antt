use Rattle.std.proofs.Common.{◌≡◌, ◌++◌, ◌-◌, drop, length}
use Rattle.node_states.specs.Turns.{unreached}
use Rattle.node_states.proofs.turns.push_unreached.Given as goal

-- the lines so far, and those to come
abbrev pub invariant-loop-line : goal.invariant-loop-line
invariant-loop-line l = l.turns.items ++ unreached l.caller l.line (drop l.line l.lines) ≡ l.fn.turns.items ++ unreached l.caller l.from (drop l.from l.lines)

abbrev pub decreases-loop-line : goal.decreases-loop-line
decreases-loop-line l = length l.lines - l.line
