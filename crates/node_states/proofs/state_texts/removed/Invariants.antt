use Rattle.std.proofs.Common.{◌≡◌, take}
use Rattle.node_states.specs.States.{removed}
use Rattle.node_states.proofs.state_texts.removed.Given as goal

-- those so far
abbrev pub invariant-loop-start : goal.invariant-loop-start
invariant-loop-start l = l.gone.items ≡ removed (take l.start-index l.starts) l.segments
