-- Rows of accepted segments that hold an edit, and the first that doesn't.
use Rattle.std.proofs.Common.{◌≡◌, ℕ, ◌+◌, ◌<◌, ◌≤◌, List, [], ◌∷◌, ◌++◌, length, take, drop, get_or, true, false, nat_le, refl, sym, ◌∙◌, ap, subst, arith, take-append-drop}
use Rattle.std.proofs.lemmas.List.{drop_more, take_all, take_more}
use Rattle.std.proofs.lemmas.Bool.Decides.{nat_tests}
use Rattle.base_disk.specs.Files.{Files}
use Rattle.journal_core.specs.declared.segment.Segment.{Segment}
use Rattle.journal_core.specs.declared.segment_info.SegmentInfo.{SegmentInfo}
use Rattle.journal_core.specs.Segments.{AreSound}
use Rattle.disk_segment.specs.Names.{InProgress, name_of}
use Rattle.disk_segment.specs.Stands.{StandsFor}
use Rattle.disk_segment.specs.RowsTell.{IsRowOf, AreRowsOf, AreStarts}
use Rattle.disk_segment.specs.Rows.{RowsWithin, AreSoundRows}
use Rattle.disk_segment.specs.declared.segment_row.SegmentRow.{SegmentRow}
use Rattle.disk_segment.proofs.RowsOf.{row_start, same_edit}
use Rattle.disk_files.specs.Durable.{AreFilled}
use Rattle.disk_files.specs.Opening.{IsUnfilled}
use Rattle.disk_files.specs.OpenSteps.{IsFilledRow, LacksEdit, AreFilledRows, IsUnfilledRow}

-- ## The loop over the rows
no_edit : (start end : ℕ) → end < start → nat_le start end ≡ false
no_edit start end lt = grind (arith, nat_tests)

edit : (start end : ℕ) → start ≤ end → nat_le start end ≡ true
edit start end le = grind (arith, nat_tests)

pub lacks_edit : (row : SegmentRow) → row.info.accepted ≡ true → row.info.end < row.info.start → LacksEdit row
lacks_edit row accepted less = (accepted, no_edit row.info.start row.info.end less)

pub not_accepted : (row : SegmentRow) → row.info.accepted ≡ false → IsFilledRow row
not_accepted row free = λ accepted. let p = sym free ∙ accepted in absurd (cc)

filled_after : (rows : List SegmentRow) (row : SegmentRow) → AreFilledRows rows → IsFilledRow row → AreFilledRows (rows ++ row ∷ [])
filled_after [] row are is = (is, tt)
filled_after (r ∷ rows) row are is = (are.0, filled_after rows row are.1 is)

pub filled_next : (rows : List SegmentRow) (i : ℕ) (d : SegmentRow) → i < length rows → AreFilledRows (take i rows) → IsFilledRow (get_or rows i d) → AreFilledRows (take (i + 1) rows)
filled_next rows i d lt are is = subst AreFilledRows (sym (take_more rows i d lt)) (filled_after (take i rows) (get_or rows i d) are is)

pub filled_all : (rows : List SegmentRow) (i : ℕ) → length rows ≤ i → AreFilledRows (take i rows) → AreFilledRows rows
filled_all rows i all are = subst AreFilledRows (take_all i rows all) are

pub unfilled_here : (rows : List SegmentRow) (i : ℕ) (d : SegmentRow) → i < length rows → AreFilledRows (take i rows) → LacksEdit (get_or rows i d) → IsUnfilledRow rows (get_or rows i d).info.start
unfilled_here rows i d lt are lacks = record {
  front = take i rows;
  row = get_or rows i d;
  rest = drop (i + 1) rows;
  split = sym (take-append-drop i rows) ∙ ap (λ (l : List SegmentRow). take i rows ++ l) (drop_more rows i d lt);
  filled = are;
  lacks = lacks;
  start_is = refl;
}

small_in : (front : List SegmentRow) (row : SegmentRow) (rest : List SegmentRow) → RowsWithin (front ++ row ∷ rest) → row.info.start ≤ 4611686018427387904
small_in [] row rest within = within.0.1
small_in (r ∷ front) row rest within = small_in front row rest within.1

pub unfilled_small : (rows : List SegmentRow) (start : ℕ) → AreSoundRows rows → IsUnfilledRow rows start → start ≤ 4611686018427387904
unfilled_small rows start sound is = subst (λ (n : ℕ). n ≤ 4611686018427387904) is.start_is (small_in is.front is.row is.rest (subst RowsWithin is.split sound.within))

-- ## The segments that the rows tell
module _ (seen : Files) where
  pub filled_segments : (gs : List Segment) (rows : List SegmentRow) → AreStarts gs → AreRowsOf seen gs rows → AreFilledRows rows → AreFilled gs
  filled_segments [] [] starts are filled = tt
  filled_segments [] (row ∷ rows) starts are filled = absurd are
  filled_segments (g ∷ gs) [] starts are filled = absurd are
  filled_segments (g ∷ gs) (row ∷ rows) starts are filled = (
    λ yes. sym (same_edit seen g row starts.0.0 are.0) ∙ filled.0 (ap (λ (i : SegmentInfo). i.accepted) are.0.info ∙ yes),
    filled_segments gs rows starts.1 are.1 filled.1,
  )

  -- the segments before a row, that of the row, and those after it
  record Parts (gs : List Segment) (front : List SegmentRow) (row : SegmentRow) : Type 0 where
    before : List Segment
    segment : Segment
    rest : List Segment
    split : gs ≡ before ++ segment ∷ rest
    told : AreRowsOf seen before front
    here : IsRowOf seen segment row
    starts : AreStarts before
    first : 1 ≤ segment.start

  parts : (front : List SegmentRow) (row : SegmentRow) (rest : List SegmentRow) (gs : List Segment) → AreStarts gs → AreRowsOf seen gs (front ++ row ∷ rest) → Parts gs front row
  parts [] row rest [] starts are = absurd are
  parts [] row rest (g ∷ gs) starts are = record { before = []; segment = g; rest = gs; split = refl; told = tt; here = are.0; starts = tt; first = starts.0.0 }
  parts (f ∷ front) row rest [] starts are = absurd are
  parts (f ∷ front) row rest (g ∷ gs) starts are =
      let more = parts front row rest gs starts.1 are.1 in
      record {
        before = g ∷ more.before;
        segment = more.segment;
        rest = more.rest;
        split = ap (λ (l : List Segment). g ∷ l) more.split;
        told = (are.0, more.told);
        here = more.here;
        starts = (starts.0, more.starts);
        first = more.first;
      }

  pub unfilled_segments : (old : Files) (gs : List Segment) (rows : List SegmentRow) (start : ℕ) (name : List ℕ) → StandsFor old gs → AreSound gs
      → AreStarts gs → AreRowsOf seen gs rows → IsUnfilledRow rows start
      → name ≡ name_of start InProgress → IsUnfilled old name
  unfilled_segments old gs rows start name stands sound starts are is named =
      let all = parts is.front is.row is.rest gs starts (subst (λ (l : List SegmentRow). AreRowsOf seen gs l) is.split are) in
      record {
        segments = gs;
        stands = stands;
        sound = sound;
        starts = starts;
        front = all.before;
        segment = all.segment;
        rest = all.rest;
        split = all.split;
        filled = filled_segments all.before is.front all.starts all.told is.filled;
        accepted = sym (ap (λ (i : SegmentInfo). i.accepted) all.here.info) ∙ is.lacks.0;
        empty = sym (same_edit seen all.segment is.row all.first all.here) ∙ is.lacks.1;
        named = named ∙ ap (λ (n : ℕ). name_of n InProgress) (sym is.start_is ∙ row_start seen all.segment is.row all.here);
      }
