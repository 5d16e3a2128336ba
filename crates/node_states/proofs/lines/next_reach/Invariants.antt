use Rattle.std.proofs.Common.{◌≡◌, ◌-◌, drop, length}
use Rattle.node_states.specs.Lines.{next_reach}
use Rattle.node_states.proofs.lines.next_reach.Given as goal

-- none before the place reached the node
abbrev pub invariant-loop-place : goal.invariant-loop-place
invariant-loop-place l = next_reach l.node l.from (drop l.from l.lines) ≡ next_reach l.node l.place (drop l.place l.lines)

abbrev pub decreases-loop-place : goal.decreases-loop-place
decreases-loop-place l = length l.lines - l.place
