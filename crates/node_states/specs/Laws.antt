-- What holds of the order of all lines.
use Rattle.std.specs.Prelude.{◌≡◌, ℕ, ◌<◌, ◌==◌, List, filter}
use Rattle.mesh.specs.declared.whole.Mesh.{Mesh}
use Rattle.mesh.specs.Agree.{Agrees, history_at}
use Rattle.node_states.specs.declared.node_line.NodeLine.{NodeLine}
use Rattle.node_states.specs.Lines.{lines_at}
use Rattle.node_states.specs.Order.{lines_in}

-- the lines of the node with this index
abbrev pub of_node : ℕ → List NodeLine → List NodeLine
of_node index ls = filter (λ l. l.index == index) ls

-- each line of a node's history stands there once, and a node's lines in the order of its history
abbrev pub LinesStandOnce : Type 0
LinesStandOnce = (m : Mesh) → (i : ℕ) → Agrees m → i < m.nodes → of_node i (lines_in m) ≡ lines_at m.records i (history_at m i)
