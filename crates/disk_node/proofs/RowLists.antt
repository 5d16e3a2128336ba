-- Segments that are looked up by the rows of a table, one after the other, are all of them.
use Rattle.std.proofs.Common.{◌≡◌, ◌⊎◌, inl, inr, ℕ, ◌<◌, true, List, [], ◌∷◌, Some, None, refl, sym, ap, subst, ◌∙◌, arith}
use Rattle.std.proofs.lemmas.Bool.{cases_order}
use Rattle.std.proofs.lemmas.Option.{same_Some}
use Rattle.base_words.proofs.StartLaws.{Above-mono, find_here, find_on, find_above, found_above}
use Rattle.journal_core.specs.declared.segment.Segment.{Segment}
use Rattle.journal_core.specs.Segments.{find_segment, end_of, AreAbove, AreRising}
use Rattle.journal_core.proofs.PlaceLaws.{by_segments}
use Rattle.disk_segment.specs.Rows.{find_row, RowsAbove, RowsRise}
use Rattle.disk_segment.specs.declared.segment_row.SegmentRow.{SegmentRow}
use Rattle.disk_segment.proofs.RowLaws.{by_rows}
use Rattle.disk_node.specs.FileState.{with_one, Covers}

-- those that the rows find
abbrev pub found : List SegmentRow → List Segment → List Segment
found [] gs = []
found (row ∷ rows) gs = with_one (find_segment row.info.start gs) (found rows gs)

-- each segment has a row
pub record HasRows (rows : List SegmentRow) (gs : List Segment) : Type 0 where
  pub row_of : (start : ℕ) (g : Segment) → find_segment start gs ≡ Some g → (row : SegmentRow) × (find_row start rows ≡ Some row)

-- ## By the first row and the first segment

-- a segment is not found by later rows
found_later : (g : Segment) (gs : List Segment) (rows : List SegmentRow) → RowsAbove g.start rows → found rows (g ∷ gs) ≡ found rows gs
found_later g gs [] above = refl
found_later g gs (row ∷ rows) above = λ i. with_one (find_on by_segments row.info.start g gs (λ same. omega (arith, above.0, same)) i) (found_later g gs rows above.1 i)

rows_left : (row : SegmentRow) (rows : List SegmentRow) (gs : List Segment) → AreAbove row.info.start gs → HasRows (row ∷ rows) gs → HasRows rows gs
rows_left row rows gs above has = record {
  row_of = λ start g e.
      let lt : row.info.start < start = found_above by_segments row.info.start start gs g above e in
      let there = has.row_of start g e in
      (there.0, sym (find_on by_rows start row rows (λ same. omega (arith, lt, same))) ∙ there.1);
}

segments_left : (g : Segment) (gs : List Segment) (rows : List SegmentRow) → AreAbove g.start gs → HasRows rows (g ∷ gs) → HasRows rows gs
segments_left g gs rows above has = record {
  row_of = λ start h e.
      let lt : g.start < start = found_above by_segments g.start start gs h above e in
      has.row_of start h (find_on by_segments start g gs (λ same. omega (arith, lt, same)) ∙ e);
}

same_one : (row : SegmentRow) (rows : List SegmentRow) (g : Segment) (gs : List Segment) → row.info.start ≡ g.start → RowsAbove row.info.start rows
    → found rows gs ≡ gs → found (row ∷ rows) (g ∷ gs) ≡ g ∷ gs
same_one row rows g gs same above rest =
    λ i. with_one (find_here by_segments row.info.start g gs (sym same) i) ((found_later g gs rows (subst (λ (k : ℕ). RowsAbove k rows) same above) ∙ rest) i)

empty_row : (row : SegmentRow) (rows : List SegmentRow) (gs : List Segment) → AreAbove row.info.start gs → found rows gs ≡ gs → found (row ∷ rows) gs ≡ gs
empty_row row rows gs above rest = λ i. with_one (find_above by_segments row.info.start gs above i) (rest i)

no_row : (row : SegmentRow) (rows : List SegmentRow) (g : Segment) (gs : List Segment) → g.start < row.info.start → RowsAbove row.info.start rows → HasRows (row ∷ rows) (g ∷ gs) → ⊥
no_row row rows g gs lt above has =
    let there = has.row_of g.start g (find_here by_segments g.start g gs refl) in
    let all : RowsAbove g.start (row ∷ rows) = (lt, Above-mono (λ (r : SegmentRow). r.info.start) g.start row.info.start rows (omega (arith, lt)) above) in
    let less : g.start < g.start = found_above by_rows g.start g.start (row ∷ rows) there.0 all there.1 in
    omega (arith, less)

no_rows : (g : Segment) (gs : List Segment) → HasRows [] (g ∷ gs) → ⊥
unfolding find_row
no_rows g gs has = let there = has.row_of g.start g (find_here by_segments g.start g gs refl) in let e : None ≡ Some there.0 = there.1 in absurd (cc)

by_order : (row : SegmentRow) (rows : List SegmentRow) (g : Segment) (gs : List Segment) → RowsAbove row.info.start rows → AreAbove g.start gs
    → HasRows (row ∷ rows) (g ∷ gs) → (HasRows rows gs → found rows gs ≡ gs) → (HasRows rows (g ∷ gs) → found rows (g ∷ gs) ≡ g ∷ gs)
    → (row.info.start ≡ g.start) ⊎ ((row.info.start < g.start) ⊎ (g.start < row.info.start)) → found (row ∷ rows) (g ∷ gs) ≡ g ∷ gs
by_order row rows g gs above up has both one (inl same) =
    same_one row rows g gs same above (both (rows_left row rows gs (subst (λ (k : ℕ). AreAbove k gs) (sym same) up) (segments_left g gs (row ∷ rows) up has)))
by_order row rows g gs above up has both one (inr (inl below)) =
    let less : AreAbove row.info.start (g ∷ gs) = (below, Above-mono (λ (x : Segment). x.start) row.info.start g.start gs (omega (arith, below)) up) in
    empty_row row rows (g ∷ gs) less (one (rows_left row rows (g ∷ gs) less has))
by_order row rows g gs above up has both one (inr (inr later)) = absurd (no_row row rows g gs later above has)

pub found_all : (rows : List SegmentRow) (gs : List Segment) → RowsRise rows → AreRising gs → HasRows rows gs → found rows gs ≡ gs
found_all [] [] rise up has = refl
found_all [] (g ∷ gs) rise up has = absurd (no_rows g gs has)
found_all (row ∷ rows) [] rise up has = empty_row row rows [] tt (found_all rows [] rise.1 tt (rows_left row rows [] tt has))
found_all (row ∷ rows) (g ∷ gs) rise up has =
    by_order row rows g gs rise.0 up.0 has (λ left. found_all rows gs rise.1 up.1 left) (λ left. found_all rows (g ∷ gs) rise.1 up left) (cases_order row.info.start g.start)

pub covered : (rows : List SegmentRow) (gs : List Segment) → Covers rows gs → HasRows rows gs
covered rows gs covers = record { row_of = λ start g e. let there = covers.rows_of start g e in (there.0, there.1) }

-- ## The ends in the rows

-- the end of each row is that of its segment, where that is final
abbrev pub AreEnds : List Segment → List SegmentRow → Type 0
AreEnds gs [] = Unit {0}
AreEnds gs (row ∷ rows) = ((g : Segment) → find_segment row.info.start gs ≡ Some g → g.is_final ≡ true → row.info.end ≡ end_of g) × AreEnds gs rows

-- the end of the row with a start is that of the segment with this start, where that is final
record HasEnds (gs : List Segment) (rows : List SegmentRow) : Type 0 where
  end_of_row : (start : ℕ) (row : SegmentRow) (g : Segment) → find_row start rows ≡ Some row → find_segment start gs ≡ Some g → g.is_final ≡ true → row.info.end ≡ end_of g

ends_later : (gs : List Segment) (row : SegmentRow) (rows : List SegmentRow) → RowsAbove row.info.start rows → HasEnds gs (row ∷ rows) → HasEnds gs rows
ends_later gs row rows above has = record {
  end_of_row = λ start other g e.
      let lt : row.info.start < start = found_above by_rows row.info.start start rows other above e in
      has.end_of_row start other g (find_on by_rows start row rows (λ same. omega (arith, lt, same)) ∙ e);
}

ends_are : (gs : List Segment) (rows : List SegmentRow) → RowsRise rows → HasEnds gs rows → AreEnds gs rows
ends_are gs [] rise has = tt
ends_are gs (row ∷ rows) rise has = (λ g e. has.end_of_row row.info.start row g (find_here by_rows row.info.start row rows refl) e, ends_are gs rows rise.1 (ends_later gs row rows rise.0 has))

pub covered_ends : (rows : List SegmentRow) (gs : List Segment) → RowsRise rows → Covers rows gs → AreEnds gs rows
covered_ends rows gs rise covers = ends_are gs rows rise record {
  end_of_row = λ start row g is e final.
      let there = covers.rows_of start g e in
      let same : there.0 ≡ row = same_Some there.0 row (sym there.1 ∙ is) in
      ap (λ (r : SegmentRow). r.info.end) (sym same) ∙ there.2 final;
}
