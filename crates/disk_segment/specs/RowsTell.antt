-- Rows of the table that tell segments: their states, and where the whole frames of their files
-- end.
use Rattle.std.specs.Prelude.{◌≡◌, ℕ, ◌≤◌, ◌^◌, true, List, [], ◌∷◌, Some, IsSome}
use Rattle.std.specs.List.{AllByRecursion}
use Rattle.base_disk.specs.Files.{Files}
use Rattle.journal_core.specs.declared.segment.Segment.{Segment}
use Rattle.journal_core.specs.Segments.{find_segment, info_of, end_of, AreSound}
use Rattle.disk_frame.specs.Segments.{IsSegmentFile}
use Rattle.disk_segment.specs.Names.{Record, name_of, kind_of}
use Rattle.disk_segment.specs.declared.segment_row.SegmentRow.{SegmentRow}

-- A row of the table tells a segment: its state, and where the whole frames of its file end.
pub record IsRowOf (seen : Files) (g : Segment) (row : SegmentRow) : Type 0 where
  pub info : row.info ≡ info_of g
  pub bytes : List ℕ
  pub there : seen (name_of g.start (kind_of (end_of g) g.is_final)) ≡ Some bytes
  pub edits : IsSegmentFile bytes g.start g.epoch g.bodies row.whole_length

-- row by row
abbrev pub AreRowsOf : Files → List Segment → List SegmentRow → Type 0
AreRowsOf seen [] [] = Unit {0}
AreRowsOf seen (g ∷ gs) (row ∷ rows) = IsRowOf seen g row × AreRowsOf seen gs rows
AreRowsOf seen [] (row ∷ rows) = ⊥
AreRowsOf seen (g ∷ gs) [] = ⊥

-- each record that is left belongs to an accepted segment
pub record OnlyAccepted (seen : Files) (gs : List Segment) : Type 0 where
  pub accepted : (start : ℕ) → 1 ≤ start → start ≤ 2 ^ 62 → IsSome (seen (name_of start Record)) → (g : Segment) × (find_segment start gs ≡ Some g) × (g.accepted ≡ true)

-- its start is from 1 to 2^62
abbrev pub IsStart : Segment → Type 0
IsStart g = (1 ≤ g.start) × (g.start ≤ 2 ^ 62)

abbrev pub AreStarts : List Segment → Type 0
AreStarts = AllByRecursion IsStart

-- row by row, the states of these segments
abbrev pub AreInfos : List Segment → List SegmentRow → Type 0
AreInfos [] [] = Unit {0}
AreInfos (g ∷ gs) (row ∷ rows) = (row.info ≡ info_of g) × AreInfos gs rows
AreInfos [] (row ∷ rows) = ⊥
AreInfos (g ∷ gs) [] = ⊥

-- the rows tell some list of segments
pub record TellSegments (rows : List SegmentRow) : Type 0 where
  pub segments : List Segment
  pub told : AreInfos segments rows
  pub sound : AreSound segments
  pub starts : AreStarts segments
