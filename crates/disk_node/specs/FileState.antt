-- The state of a node by its files and its table: which segments there may be, and where a final
-- one would end, the rows say; the rest the files.
use Rattle.std.specs.Prelude.{ℕ, ◌≡◌, ◌≤◌, ◌^◌, ◌==◌, ◌&&◌, Bool, true, false, nat_le, List, [], ◌∷◌, codes, Option, Some, None, if◌then◌else◌}
use Rattle.base_disk.specs.Files.{Files}
use Rattle.journal_core.specs.declared.segment.Segment.{Segment}
use Rattle.journal_core.specs.declared.node_state.NodeState.{NodeState}
use Rattle.journal_core.specs.Segments.{find_segment, end_of}
use Rattle.disk_segment.specs.Names.{InProgress, Final, Record, UnderWay, name_of}
use Rattle.disk_segment.specs.Rows.{find_row}
use Rattle.disk_segment.specs.declared.segment_row.SegmentRow.{SegmentRow}
use Rattle.disk_node.specs.Decoded.{number_in, record_epoch, header_epoch, bodies_in}

-- the final file with that end
abbrev pub final_file : Files → ℕ → ℕ → Option (List ℕ)
final_file files start end = if nat_le start end && nat_le end (2 ^ 62) then files (name_of start (Final end)) else None

abbrev pub or_file : Option (List ℕ) → Option (List ℕ) → Option (List ℕ)
or_file (Some bytes) other = Some bytes
or_file None other = other

-- the content of an acceptance under way, where it counts
abbrev pub way_file : Files → ℕ → Option ℕ → Option (List ℕ)
way_file files start None = None
way_file files start (Some epoch) = if nat_le 1 epoch && nat_le epoch (2 ^ 62) then files (name_of start (UnderWay epoch)) else None

-- the file that counts as that of the segment in progress
abbrev pub progress_file : Files → ℕ → Option (List ℕ)
progress_file files start = or_file (way_file files start (record_epoch (files (name_of start Record)))) (files (name_of start InProgress))

abbrev pub is_epoch : ℕ → Option ℕ → Bool
is_epoch epoch None = false
is_epoch epoch (Some other) = other == epoch

abbrev pub final_segment : ℕ → List ℕ → Segment
final_segment start bytes = record { start = start; epoch = header_epoch bytes; bodies = bodies_in bytes; is_final = true; accepted = false }

abbrev pub progress_segment : ℕ → Option ℕ → List ℕ → Segment
progress_segment start recorded bytes =
    record { start = start; epoch = header_epoch bytes; bodies = bodies_in bytes; is_final = false; accepted = is_epoch (header_epoch bytes) recorded }

abbrev pub segment_of : ℕ → Option ℕ → Option (List ℕ) → Option (List ℕ) → Option Segment
segment_of start recorded (Some bytes) progress = Some (final_segment start bytes)
segment_of start recorded None (Some bytes) = Some (progress_segment start recorded bytes)
segment_of start recorded None None = None

-- the segment with that start, which ends there if it is final
unfoldable pub segment_at : Files → ℕ → ℕ → Option Segment
segment_at files start end = segment_of start (record_epoch (files (name_of start Record))) (final_file files start end) (progress_file files start)

abbrev pub with_one : Option Segment → List Segment → List Segment
with_one None gs = gs
with_one (Some g) gs = g ∷ gs

-- those of the rows
unfoldable pub segments_at : Files → List SegmentRow → List Segment
segments_at files [] = []
segments_at files (row ∷ rows) = with_one (segment_at files row.info.start row.info.end) (segments_at files rows)

-- the state of a node that keeps this in memory
unfoldable pub state_of : Files → NodeState → List SegmentRow → NodeState
state_of files m rows =
    record m {
      promised = number_in (files (codes "last-promised-epoch"));
      writer = number_in (files (codes "last-writer-epoch"));
      committed = number_in (files (codes "committed-txid"));
      known = if m.up then m.known else number_in (files (codes "committed-txid"));
      segments = segments_at files rows;
    }

-- each segment has a row with its start, and where it is final with its end
pub record Covers (rows : List SegmentRow) (gs : List Segment) : Type 0 where
  pub rows_of : (start : ℕ) (g : Segment) → find_segment start gs ≡ Some g → (row : SegmentRow) × (find_row start rows ≡ Some row) × (g.is_final ≡ true → row.info.end ≡ end_of g)

-- each start is from 1 to 2^62
abbrev pub AreRowStarts : List SegmentRow → Type 0
AreRowStarts [] = Unit {0}
AreRowStarts (row ∷ rows) = ((1 ≤ row.info.start) × (row.info.start ≤ 2 ^ 62)) × AreRowStarts rows

-- what a node that is up keeps in memory of this state
abbrev pub without_segments : NodeState → NodeState
without_segments s = record s { segments = [] }
