use Rattle.std.proofs.Common.{◌≡◌, ◌++◌, drop}
use Rattle.node_states.specs.Turns.{first_turns}
use Rattle.node_states.proofs.turns.push_first.Given as goal

-- those of the records so far, and those of the others
abbrev pub invariant-loop-caller : goal.invariant-loop-caller
invariant-loop-caller l = l.turns.items ++ first_turns l.caller (drop l.caller l.records) ≡ l.fn.turns.items ++ first_turns 0 l.records
