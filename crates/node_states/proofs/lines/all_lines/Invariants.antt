use Rattle.std.proofs.Common.{◌≡◌, ◌++◌, drop}
use Rattle.node_states.specs.Lines.{all_lines}
use Rattle.node_states.proofs.lines.all_lines.Given as goal

-- the lines of the nodes so far, and those of the others
abbrev pub invariant-loop-index : goal.invariant-loop-index
invariant-loop-index l = l.lines.items ++ all_lines l.mesh.records l.index (drop l.index l.mesh.histories) ≡ all_lines l.mesh.records 0 l.mesh.histories
