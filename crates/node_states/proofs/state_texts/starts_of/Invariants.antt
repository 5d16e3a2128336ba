use Rattle.std.proofs.Common.{◌≡◌, take}
use Rattle.node_states.specs.States.{starts_of}
use Rattle.node_states.proofs.state_texts.starts_of.Given as goal

-- those so far
abbrev pub invariant-loop-segment : goal.invariant-loop-segment
invariant-loop-segment l = l.starts.items ≡ starts_of (take l.segment-index l.segments)
