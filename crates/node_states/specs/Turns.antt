-- All lines in one order: those of histories, and those of records that reached no node, each of
-- which stands behind the line before it in its record, or at the front.
use Rattle.std.specs.Prelude.{ℕ, ◌+◌, is_some, List, [], ◌∷◌, ◌++◌, drop, if◌then◌else◌}
use Rattle.journal_history.specs.declared.record.Record.{Record}
use Rattle.mesh.specs.declared.whole.Mesh.{Mesh}
use Rattle.mesh_judge.specs.Reaches.{node_reached}
use Rattle.node_states.specs.declared.node_line.NodeLine.{NodeLine}
use Rattle.node_states.specs.declared.turn.Turn.{Turn}
use Rattle.node_states.specs.declared.turn.Turn.TheVariants as turn
use Rattle.node_states.specs.Lines.{record_at}
use Rattle.node_states.specs.Order.{lines_in}

-- the lines of a record, the first of them at this place, up to the first that reached a node
unfoldable pub unreached : ℕ → ℕ → List Record → List Turn
unreached caller line [] = []
unreached caller line (r ∷ rs) = if is_some (node_reached r) then [] else turn.OfCaller caller line ∷ unreached caller (line + 1) rs

unfoldable pub first_turns : ℕ → List (List Record) → List Turn
first_turns caller [] = []
first_turns caller (rs ∷ rss) = unreached caller 0 rs ++ first_turns (caller + 1) rss

unfoldable pub behind : List (List Record) → NodeLine → List Turn
behind rss l = unreached l.caller l.reach.place (drop l.reach.place (record_at rss l.caller))

unfoldable pub turns_from : List (List Record) → List NodeLine → List Turn
turns_from rss [] = []
turns_from rss (l ∷ ls) = turn.OfNode l ∷ behind rss l ++ turns_from rss ls

abbrev pub turns : Mesh → List Turn
turns m = first_turns 0 m.records ++ turns_from m.records (lines_in m)
