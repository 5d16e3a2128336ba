-- What a node serves, and what it tells of its segments.
use Rattle.std.specs.Prelude.{ℕ, ◌+◌, ◌-◌, ◌==◌, ◌&&◌, max, min, nat_lt, nat_le, List, [], ◌∷◌, length, take, drop, Option, Some, None, if◌then◌else◌}
use Rattle.journal_core.specs.declared.segment.Segment.{Segment}
use Rattle.journal_core.specs.declared.segment_info.SegmentInfo.{SegmentInfo}
use Rattle.journal_core.specs.declared.segment_line.SegmentLine.{SegmentLine}
use Rattle.journal_core.specs.declared.node_state.NodeState.{NodeState}
use Rattle.journal_core.specs.declared.refusal.Refusal.TheVariants.{Purged, NotHere}
use Rattle.journal_core.specs.declared.reply.Reply.{Reply}
use Rattle.journal_core.specs.declared.reply.Reply.TheVariants.{Edits, Refused}
use Rattle.journal_core.specs.Segments.{has_edit, any_body, end_of, info_of}

-- of the open segment, the edits up to the known committed txid
abbrev pub served_open : NodeState → Segment → Option ℕ → List (List ℕ)
served_open s g None = []
served_open s g (Some opened) = if g.start == opened then take ((s.known + 1) - g.start) g.bodies else []

-- the edits of a segment that a node serves: all of a final one
abbrev pub served : NodeState → Segment → List (List ℕ)
served s g = if g.is_final then g.bodies else served_open s g s.opened

abbrev pub or_else : Option (List (List ℕ)) → Option (List (List ℕ)) → Option (List (List ℕ))
or_else (Some bodies) other = Some bodies
or_else None other = other

-- of the segment that serves this txid, the edits from it on; of several, the one with the greatest
-- start
unfoldable pub serving : NodeState → ℕ → List Segment → Option (List (List ℕ))
serving s from [] = None
serving s from (g ∷ gs) =
    or_else (serving s from gs)
    (if nat_le g.start from && nat_lt from (g.start + length (served s g)) then Some (drop (from - g.start) (served s g)) else None)

-- the greatest served txid below, or 0
unfoldable pub last_below : NodeState → ℕ → List Segment → ℕ
last_below s from [] = 0
last_below s from (g ∷ gs) =
    max (last_below s from gs)
    (if any_body (served s g) && nat_lt g.start from then min (from - 1) ((g.start + length (served s g)) - 1) else 0)

-- the least served start, or 0
unfoldable pub least_served : NodeState → List Segment → ℕ
least_served s [] = 0
least_served s (g ∷ gs) =
    if any_body (served s g) then (if least_served s gs == 0 then g.start else min g.start (least_served s gs)) else least_served s gs

-- at most so many edits in one answer
abbrev pub most_edits : ℕ
most_edits = 256

abbrev pub not_served : NodeState → ℕ → ℕ → Reply
not_served s from least = Refused (if nat_lt from least then Purged least else NotHere (last_below s from s.segments))

abbrev pub answer_from : NodeState → ℕ → Option (List (List ℕ)) → Reply
answer_from s from (Some bodies) = Edits (record { first = from; bodies = take most_edits bodies })
answer_from s from None = not_served s from (least_served s s.segments)

-- the answer to a read
unfoldable pub edits_from : NodeState → ℕ → Reply
edits_from s from = answer_from s from (serving s from s.segments)

-- the segments that hold an edit
unfoldable pub manifest_of : List Segment → List SegmentLine
manifest_of [] = []
manifest_of (g ∷ gs) =
    if has_edit g then record { start = g.start; end = end_of g; is_final = g.is_final; epoch = g.epoch } ∷ manifest_of gs else manifest_of gs

-- what a prepare answer tells of a segment: its state, if it holds an edit
abbrev pub told_of : Option Segment → Option SegmentInfo
told_of None = None
told_of (Some g) = if has_edit g then Some (info_of g) else None

-- the piece of a segment that a fetch gives
abbrev pub piece_of : Option Segment → ℕ → List (List ℕ)
piece_of None from = []
piece_of (Some g) from = take most_edits (drop (from - g.start) g.bodies)
