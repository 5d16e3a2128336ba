-- The lines of all histories in one order: those that moved a node in the epoch order, and each that
-- didn't behind the moving line of its node before it, or at the front.
use Rattle.std.specs.Prelude.{ℕ, ◌+◌, ◌-◌, List, [], ◌∷◌, ◌++◌, length, map, drop, slice_index_or, slice_set, if◌then◌else◌}
use Rattle.run_safety.specs.declared.event.Event.{Event}
use Rattle.run_safety.specs.declared.event.Event.TheVariants.{Begin, Call, Late, Kill, Restart, Arm, GiveUp, Checkpoint}
use Rattle.mesh.specs.declared.whole.Mesh.{Mesh}
use Rattle.mesh.specs.Order.{epoch_order}
use Rattle.mesh_judge.specs.Events.{event_of}
use Rattle.node_states.specs.declared.node_line.NodeLine.{NodeLine}
use Rattle.node_states.specs.Lines.{all_lines}

-- the lines up to the first that moved the node
unfoldable pub still_front : List NodeLine → List NodeLine
still_front [] = []
still_front (l ∷ ls) = if l.is_moving then [] else l ∷ still_front ls

-- the next line, and those behind it that didn't move the node
unfoldable pub next_lines : List NodeLine → List NodeLine
next_lines [] = []
next_lines (l ∷ ls) = l ∷ still_front ls

unfoldable pub fronts : List (List NodeLine) → List NodeLine
fronts [] = []
fronts (ls ∷ lss) = still_front ls ++ fronts lss

-- how many lines of each node stand at the front
abbrev pub front_counts : List (List NodeLine) → List ℕ
front_counts lss = map (λ ls. length (still_front ls)) lss

-- an event's node, by index from 0
abbrev pub index_of : Event → ℕ
index_of (Begin actor task) = 0
index_of (Call actor node r fate) = node - 1
index_of (Late actor node r stop) = node - 1
index_of (Kill node) = node - 1
index_of (Restart node) = node - 1
index_of (Arm node calls stop) = node - 1
index_of (GiveUp actor) = 0
index_of (Checkpoint actor) = 0

-- the lines that an event brings, where so many of each node were told
unfoldable pub brought : List (List NodeLine) → List ℕ → ℕ → List NodeLine
brought lss told index = next_lines (drop (slice_index_or told index 0) (slice_index_or lss index []))

unfoldable pub told_then : List (List NodeLine) → List ℕ → ℕ → List ℕ
told_then lss told index = slice_set told index (slice_index_or told index 0 + length (brought lss told index))

unfoldable pub led : List (List NodeLine) → List ℕ → List Event → List NodeLine
led lss told [] = []
led lss told (e ∷ es) = brought lss told (index_of e) ++ led lss (told_then lss told (index_of e)) es

abbrev pub in_order : List (List NodeLine) → List Event → List NodeLine
in_order lss es = fronts lss ++ led lss (front_counts lss) es

abbrev pub lines_in : Mesh → List NodeLine
lines_in m = in_order (all_lines m.records 0 m.histories) (map event_of (epoch_order m))
