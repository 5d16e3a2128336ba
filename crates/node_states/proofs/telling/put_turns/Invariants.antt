use Rattle.std.proofs.Common.{◌≡◌, ◌++◌, ◌+◌, drop}
use Rattle.node_states.specs.Texts.{turns_text}
use Rattle.node_states.proofs.telling.put_turns.Given as goal

-- the lines so far, and those to come
abbrev pub invariant-loop-index : goal.invariant-loop-index
invariant-loop-index l = l.telling.text.items ++ turns_text l.lists.mesh l.lists.ends (l.index + 1) l.telling.nodes.items (drop l.index l.turns)
    ≡ l.fn.telling.text.items ++ turns_text l.lists.mesh l.lists.ends 1 l.fn.telling.nodes.items l.turns
