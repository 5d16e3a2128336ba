-- What a node serves, and what it tells of its segments, by their rows.
use Rattle.std.specs.Prelude.{ℕ, ◌≡◌, ◌+◌, ◌-◌, ◌==◌, ◌&&◌, max, min, nat_lt, nat_le, List, [], ◌∷◌, map, filter, Option, Some, None, if◌then◌else◌}
use Rattle.journal_core.specs.declared.segment.Segment.{Segment}
use Rattle.journal_core.specs.declared.segment_info.SegmentInfo.{SegmentInfo}
use Rattle.journal_core.specs.declared.segment_line.SegmentLine.{SegmentLine}
use Rattle.journal_core.specs.declared.node_state.NodeState.{NodeState}
use Rattle.journal_core.specs.declared.request.Request.{Request}
use Rattle.journal_core.specs.declared.request.Request.TheVariants.{State, NewEpoch, Start, Journal, Finalize, Prepare, Fetch, Accept, Purge, Read, Manifest}
use Rattle.journal_core.specs.declared.reply.Reply.{Reply}
use Rattle.journal_core.specs.declared.reply.Reply.TheVariants as reply
use Rattle.journal_core.specs.Segments.{find_segment}
use Rattle.journal_core.specs.Step.{row_reply}
use Rattle.journal_core.specs.Answers.{Serves}
use Rattle.disk_segment.specs.declared.segment_row.SegmentRow.{SegmentRow}
use Rattle.disk_segment.specs.Rows.{find_row, newest_row, row_has_edit}
use Rattle.disk_effects.specs.Told.{line_of}

-- of the open segment, the edits up to the known committed txid
abbrev pub open_count : ℕ → ℕ → ℕ → Option ℕ → ℕ
open_count known start count None = 0
open_count known start count (Some opened) = if start == opened then min count ((known + 1) - start) else 0

-- how many edits are served: all of a final segment
abbrev pub row_count : Option ℕ → ℕ → SegmentRow → ℕ
row_count opened known row =
    if row.info.is_final then (row.info.end + 1) - row.info.start
    else open_count known row.info.start ((row.info.end + 1) - row.info.start) opened

abbrev pub or_row : Option SegmentRow → Option SegmentRow → Option SegmentRow
or_row (Some row) other = Some row
or_row None other = other

-- the row with the greatest start whose segment serves this txid
unfoldable pub serving_row : Option ℕ → ℕ → ℕ → List SegmentRow → Option SegmentRow
serving_row opened known from [] = None
serving_row opened known from (row ∷ rows) =
    or_row (serving_row opened known from rows)
    (if nat_le row.info.start from && nat_lt from (row.info.start + row_count opened known row) then Some row else None)

abbrev pub row_last : Option ℕ → ℕ → ℕ → SegmentRow → ℕ
row_last opened known from row =
    if nat_lt 0 (row_count opened known row) && nat_lt row.info.start from then min (from - 1) ((row.info.start + row_count opened known row) - 1) else 0

-- the greatest served txid below, or 0
unfoldable pub last_row : Option ℕ → ℕ → ℕ → List SegmentRow → ℕ
last_row opened known from [] = 0
last_row opened known from (row ∷ rows) = max (last_row opened known from rows) (row_last opened known from row)

-- the start of the first row whose segment serves an edit, or 0
unfoldable pub least_row : Option ℕ → ℕ → List SegmentRow → ℕ
least_row opened known [] = 0
least_row opened known (row ∷ rows) = if nat_lt 0 (row_count opened known row) then row.info.start else least_row opened known rows

abbrev pub row_line : SegmentRow → SegmentLine
row_line row = record { start = row.info.start; end = row.info.end; is_final = row.info.is_final; epoch = row.info.epoch }

-- the rows whose segments hold an edit
abbrev pub row_lines : List SegmentRow → List SegmentLine
row_lines rows = map row_line (filter row_has_edit rows)

abbrev pub row_told : Option SegmentRow → Option SegmentInfo
row_told None = None
row_told (Some row) = if row_has_edit row then Some row.info else None

-- The segment with this line serves so many edits, this txid among them, and none with a greater
-- start serves it.
pub record IsServedBy (s : NodeState) (from : ℕ) (line : SegmentLine) (count : ℕ) : Type 0 where
  pub segment : Segment
  pub known : find_segment line.start s.segments ≡ Some segment
  pub line_is : line ≡ line_of segment
  pub serves : Serves s from segment count

-- the segment with this start has the line
pub record IsLineOf (gs : List Segment) (start : ℕ) (line : SegmentLine) : Type 0 where
  pub segment : Segment
  pub known : find_segment start gs ≡ Some segment
  pub line_is : line ≡ line_of segment

-- the reply, of a request that needs no file for it
abbrev pub IsPlainReply : NodeState → Request → Option Reply → Type 0
IsPlainReply s (Fetch head start from) reply = reply ≡ None
IsPlainReply s (Read from) reply = reply ≡ None
IsPlainReply s r reply = reply ≡ Some (row_reply s r)

-- the reply, of a request that needs no file for it, by the rows of the segments
abbrev pub reply_by : NodeState → List SegmentRow → Request → Option Reply
reply_by m rows State = Some (reply.State m.promised)
reply_by m rows (NewEpoch epoch) = Some (reply.NewEpoch (newest_row rows))
reply_by m rows (Start head start) = Some reply.Ok
reply_by m rows (Journal head start batch) = Some reply.Ok
reply_by m rows (Finalize head start end) = Some reply.Ok
reply_by m rows (Prepare head start) = Some (reply.Prepared m.writer m.known (row_told (find_row start rows)))
reply_by m rows (Fetch head start from) = None
reply_by m rows (Accept head batch) = Some reply.Ok
reply_by m rows (Purge head min) = Some reply.Ok
reply_by m rows (Read from) = None
reply_by m rows Manifest = Some (reply.Segments (row_lines rows))
