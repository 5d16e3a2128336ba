-- The lines of the nodes' histories, each with its place in its caller's record.
use Rattle.std.specs.Prelude.{ℕ, ◌+◌, ◌==◌, Bool, false, List, [], ◌∷◌, length, drop, is_some, slice_index_or, slice_set, replicate, Option, Some, None, if◌then◌else◌}
use Rattle.journal_history.specs.declared.history_line.HistoryLine.{HistoryLine}
use Rattle.journal_history.specs.declared.record.Record.{Record}
use Rattle.journal_history.specs.Moving.{move_of}
use Rattle.mesh.specs.Order.{is_muted}
use Rattle.mesh_judge.specs.declared.reached.Reach.{Reach}
use Rattle.mesh_judge.specs.Reaches.{node_reached}
use Rattle.node_states.specs.declared.node_line.NodeLine.{NodeLine}

-- a line of a history that moved its node
abbrev pub is_moving : HistoryLine → Bool
is_moving h = is_some (move_of h.caller false h.ask h.answer)

-- a line of a record that reached this node
abbrev pub is_at : ℕ → Option ℕ → Bool
is_at node None = false
is_at node (Some other) = other == node

-- the next line of a record that reached the node, from this place on: how many lines there are up
-- to it, and whether the reply was lost
unfoldable pub next_reach : ℕ → ℕ → List Record → Reach
next_reach node place [] = record { place = place; is_muted = false }
next_reach node place (r ∷ rs) = if is_at node (node_reached r) then record { place = place + 1; is_muted = is_muted (Some r) } else next_reach node (place + 1) rs

-- what a caller lists
abbrev pub record_at : List (List Record) → ℕ → List Record
record_at rss caller = slice_index_or rss caller []

-- the caller's line of this line of the node's history, where so many of each record are of earlier
-- ones
unfoldable pub reach_of : List (List Record) → List ℕ → ℕ → HistoryLine → Reach
reach_of rss taken index h = next_reach (index + 1) (slice_index_or taken h.caller 0) (drop (slice_index_or taken h.caller 0) (record_at rss h.caller))

unfoldable pub line_of : ℕ → ℕ → Reach → HistoryLine → NodeLine
line_of index line reach h = record { index = index; line = line; caller = h.caller; reach = reach; is_moving = is_moving h }

-- the lines of the node with this index, from 0, the first of them at this place
unfoldable pub lines_from : List (List Record) → List ℕ → ℕ → ℕ → List HistoryLine → List NodeLine
lines_from rss taken index line [] = []
lines_from rss taken index line (h ∷ hs) =
    line_of index line (reach_of rss taken index h) h ∷ lines_from rss (slice_set taken h.caller (reach_of rss taken index h).place) index (line + 1) hs

-- no line of any record is taken yet
abbrev pub none_taken : List (List Record) → List ℕ
none_taken rss = replicate (length rss) 0

unfoldable pub lines_at : List (List Record) → ℕ → List HistoryLine → List NodeLine
lines_at rss index hs = lines_from rss (none_taken rss) index 0 hs

-- those of each node
unfoldable pub all_lines : List (List Record) → ℕ → List (List HistoryLine) → List (List NodeLine)
all_lines rss index [] = []
all_lines rss index (hs ∷ hss) = lines_at rss index hs ∷ all_lines rss (index + 1) hss
