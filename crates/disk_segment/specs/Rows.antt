-- Rows: what a node keeps of each segment without its edits, and lists of them by rising start.
use Rattle.std.specs.Prelude.{ℕ, ◌+◌, ◌==◌, ◌≤◌, Bool, nat_lt, nat_le, List, [], ◌∷◌, Option, Some, None, if◌then◌else◌}
use Rattle.std.specs.List.{AllByRecursion}
use Rattle.base_words.specs.Starts.{Above, Rises}
use Rattle.journal_core.specs.Segments.{max_or}
use Rattle.disk_segment.specs.declared.segment_row.SegmentRow.{SegmentRow}

-- its segment holds an edit
abbrev pub row_has_edit : SegmentRow → Bool
row_has_edit row = nat_le row.info.start row.info.end

-- the row with that start
unfoldable pub find_row : ℕ → List SegmentRow → Option SegmentRow
find_row start [] = None
find_row start (row ∷ rows) = if row.info.start == start then Some row else find_row start rows

-- with this row, in place of the one with its start
unfoldable pub put_row : SegmentRow → List SegmentRow → List SegmentRow
put_row new [] = new ∷ []
put_row new (row ∷ rows) =
    if row.info.start == new.info.start then new ∷ rows
    else if nat_lt new.info.start row.info.start then new ∷ row ∷ rows
    else row ∷ put_row new rows

-- without the row with that start
unfoldable pub remove_row : ℕ → List SegmentRow → List SegmentRow
remove_row start [] = []
remove_row start (row ∷ rows) = if row.info.start == start then remove_row start rows else row ∷ remove_row start rows

-- the greatest start of a row whose segment holds an edit
unfoldable pub newest_row : List SegmentRow → Option ℕ
newest_row [] = None
newest_row (row ∷ rows) = if row_has_edit row then Some (max_or row.info.start (newest_row rows)) else newest_row rows

-- all starts are above that
abbrev pub RowsAbove : ℕ → List SegmentRow → Type 0
RowsAbove = Above (λ (row : SegmentRow). row.info.start)

abbrev pub RowsRise : List SegmentRow → Type 0
RowsRise = Rises (λ (row : SegmentRow). row.info.start)

-- its start is from 1 on, its end at least the start less one, and its txids are at most 2 ^ 62
abbrev pub IsRowWithin : SegmentRow → Type 0
IsRowWithin row = (1 ≤ row.info.start) × (row.info.start ≤ 4611686018427387904) × (row.info.start ≤ row.info.end + 1) × (row.info.end ≤ 4611686018427387904)

abbrev pub RowsWithin : List SegmentRow → Type 0
RowsWithin = AllByRecursion IsRowWithin

-- what holds of every table
pub record AreSoundRows (rows : List SegmentRow) : Type 0 where
  pub rising : RowsRise rows
  pub within : RowsWithin rows
