-- Rows that tell segments: what is found among them, put and taken out agrees.
use Rattle.std.proofs.Common.{inl, inr, ◌≡◌, ◌≢◌, ℕ, ◌+◌, ◌-◌, ◌<◌, ◌≤◌, List, [], ◌∷◌, length, Option, Some, None, Bool, true, false, cond, nat_lt, nat_le, ◌==◌, refl, sym, ◌∙◌, ap, subst, arith}
use Rattle.std.proofs.lemmas.Bool.{cases_eq, cases_lt, cond_both, eqb-false}
use Rattle.std.proofs.lemmas.Bool.Decides.{nat_tests}
use Rattle.base_words.proofs.StartLaws.{put_here, put_before, put_on}
use Rattle.base_disk.specs.Files.{Files}
use Rattle.journal_core.specs.declared.segment.Segment.{Segment}
use Rattle.journal_core.specs.declared.segment_info.SegmentInfo.{SegmentInfo}
use Rattle.journal_core.specs.Segments.{find_segment, put_segment, remove_segment, newest, max_or, has_edit, any_body, end_of, AreAbove, AreRising}
use Rattle.journal_core.proofs.PlaceLaws.{by_segments}
use Rattle.disk_segment.specs.Names.{name_of, kind_of}
use Rattle.disk_segment.specs.declared.segment_row.SegmentRow.{SegmentRow}
use Rattle.disk_segment.specs.Rows.{find_row, put_row, remove_row, newest_row, row_has_edit}
use Rattle.disk_segment.specs.RowsTell.{IsRowOf, AreRowsOf, AreStarts}
use Rattle.disk_segment.proofs.RowLaws.{by_rows}

module _ (seen : Files) where
  pub row_start : (g : Segment) (row : SegmentRow) → IsRowOf seen g row → row.info.start ≡ g.start
  row_start g row is = ap (λ (i : SegmentInfo). i.start) is.info

  abbrev pub IsFoundRow : Option Segment → Option SegmentRow → Type 0
  IsFoundRow None None = Unit {0}
  IsFoundRow (Some g) (Some row) = IsRowOf seen g row
  IsFoundRow None (Some row) = ⊥
  IsFoundRow (Some g) None = ⊥

  found_by : (a b : Bool) → b ≡ a → (g : Segment) (row : SegmentRow) (o : Option Segment) (p : Option SegmentRow) → IsRowOf seen g row
      → IsFoundRow o p → IsFoundRow (cond a (Some g) o) (cond b (Some row) p)
  found_by true true same g row o p here there = here
  found_by false false same g row o p here there = there
  found_by true false same g row o p here there = absurd (cc)
  found_by false true same g row o p here there = absurd (cc)

  pub find_rows : (start : ℕ) (gs : List Segment) (rows : List SegmentRow) → AreRowsOf seen gs rows → IsFoundRow (find_segment start gs) (find_row start rows)
  unfolding find_segment find_row
  find_rows start [] [] are = tt
  find_rows start [] (row ∷ rows) are = absurd are
  find_rows start (g ∷ gs) [] are = absurd are
  find_rows start (g ∷ gs) (row ∷ rows) are =
      found_by (g.start == start) (row.info.start == start) (ap (λ (n : ℕ). n == start) (row_start g row are.0)) g row (find_segment start gs)
      (find_row start rows) are.0 (find_rows start gs rows are.1)

  -- two choices that are made alike
  either_by : (a b : Bool) → b ≡ a → (gs hs : List Segment) (rows others : List SegmentRow) → AreRowsOf seen gs rows → AreRowsOf seen hs others → AreRowsOf seen (cond a gs hs) (cond b rows others)
  either_by true true same gs hs rows others first second = first
  either_by false false same gs hs rows others first second = second
  either_by true false same gs hs rows others first second = absurd (cc)
  either_by false true same gs hs rows others first second = absurd (cc)

  pub put_rows : (g : Segment) (row : SegmentRow) → IsRowOf seen g row → (gs : List Segment) (rows : List SegmentRow) → AreRowsOf seen gs rows → AreRowsOf seen (put_segment g gs) (put_row row rows)
  unfolding put_segment put_row
  put_rows g row is [] [] are = (is, tt)
  put_rows g row is [] (r ∷ rows) are = absurd are
  put_rows g row is (h ∷ gs) [] are = absurd are
  put_rows g row is (h ∷ gs) (r ∷ rows) are =
      either_by (h.start == g.start) (r.info.start == row.info.start) (λ i. row_start h r are.0 i == row_start g row is i) (g ∷ gs) (cond (nat_lt g.start h.start) (g ∷ h ∷ gs) (h ∷ put_segment g gs))
      (row ∷ rows) (cond (nat_lt row.info.start r.info.start) (row ∷ r ∷ rows) (r ∷ put_row row rows)) (is, are.1)
      (either_by (nat_lt g.start h.start) (nat_lt row.info.start r.info.start) (λ i. nat_lt (row_start g row is i) (row_start h r are.0 i)) (g ∷ h ∷ gs) (h ∷ put_segment g gs)
      (row ∷ r ∷ rows) (r ∷ put_row row rows) (is, are) (are.0, put_rows g row is gs rows are.1))

  pub remove_rows : (start : ℕ) (gs : List Segment) (rows : List SegmentRow) → AreRowsOf seen gs rows → AreRowsOf seen (remove_segment start gs) (remove_row start rows)
  unfolding remove_segment remove_row
  remove_rows start [] [] are = tt
  remove_rows start [] (row ∷ rows) are = absurd are
  remove_rows start (g ∷ gs) [] are = absurd are
  remove_rows start (g ∷ gs) (row ∷ rows) are =
      either_by (g.start == start) (row.info.start == start) (ap (λ (n : ℕ). n == start) (row_start g row are.0)) (remove_segment start gs)
      (g ∷ remove_segment start gs) (remove_row start rows) (row ∷ remove_row start rows)
      (remove_rows start gs rows are.1) (are.0, remove_rows start gs rows are.1)

  edit_told : (start : ℕ) (bodies : List (List ℕ)) → 1 ≤ start → nat_le start (start + length bodies - 1) ≡ any_body bodies
  edit_told start [] first = grind (arith, nat_tests)
  edit_told start (body ∷ bodies) first = grind (arith, nat_tests)

  pub same_edit : (g : Segment) (row : SegmentRow) → 1 ≤ g.start → IsRowOf seen g row → row_has_edit row ≡ has_edit g
  same_edit g row first is = ap (λ (i : SegmentInfo). nat_le i.start i.end) is.info ∙ edit_told g.start g.bodies first

  pub newest_rows : (gs : List Segment) (rows : List SegmentRow) → AreStarts gs → AreRowsOf seen gs rows → newest_row rows ≡ newest gs
  unfolding newest newest_row
  newest_rows [] [] starts are = refl
  newest_rows [] (row ∷ rows) starts are = absurd are
  newest_rows (g ∷ gs) [] starts are = absurd are
  newest_rows (g ∷ gs) (row ∷ rows) starts are =
      let rest = newest_rows gs rows starts.1 are.1 in
      λ i. cond (same_edit g row starts.0.0 are.0 i) (Some (max_or (row_start g row are.0 i) (rest i))) (rest i)

-- rows tell the same segments where the segments' own files stay
pub rows_stay : (old new : Files) → ((start end : ℕ) (is_final : Bool)
    → new (name_of start (kind_of end is_final)) ≡ old (name_of start (kind_of end is_final))) → (gs : List Segment) (rows : List SegmentRow)
    → AreRowsOf old gs rows → AreRowsOf new gs rows
rows_stay old new same [] [] are = tt
rows_stay old new same [] (row ∷ rows) are = absurd are
rows_stay old new same (g ∷ gs) [] are = absurd are
rows_stay old new same (g ∷ gs) (row ∷ rows) are =
    (record { info = are.0.info; bytes = are.0.bytes; there = same g.start (end_of g) g.is_final ∙ are.0.there; edits = are.0.edits }, rows_stay old new same gs rows are.1)

-- ## Where the files of one start change
abbrev AreOthers : ℕ → List Segment → Type 0
AreOthers start [] = Unit {0}
AreOthers start (g ∷ gs) = (g.start ≢ start) × AreOthers start gs

others_above : (start low : ℕ) (gs : List Segment) → start ≤ low → AreAbove low gs → AreOthers start gs
others_above start low [] le above = tt
others_above start low (g ∷ gs) le above = ((λ same. omega (arith, above.0, le, same)), others_above start low gs le above.1)

removed_others : (start : ℕ) (gs : List Segment) → AreOthers start (remove_segment start gs)
unfolding remove_segment
removed_others start [] = tt
removed_others start (g ∷ gs) = cond_both (g.start == start) (remove_segment start gs) (g ∷ remove_segment start gs) (λ xs. AreOthers start xs)
    (λ e. removed_others start gs) (λ e. (eqb-false g.start start e, removed_others start gs))

put_alone : (seen : Files) (g : Segment) (row : SegmentRow) → IsRowOf seen g row → AreRowsOf seen (put_segment g []) (put_row row [])
unfolding put_segment put_row
put_alone seen g row is = (is, tt)

module _ (old new : Files) (start : ℕ) (same : (other end : ℕ) (is_final : Bool) → other ≢ start → new (name_of other (kind_of end is_final)) ≡ old (name_of other (kind_of end is_final))) where
  row_beside : (g : Segment) (row : SegmentRow) → g.start ≢ start → IsRowOf old g row → IsRowOf new g row
  row_beside g row ne is = record { info = is.info; bytes = is.bytes; there = same g.start (end_of g) g.is_final ne ∙ is.there; edits = is.edits }

  rows_beside : (gs : List Segment) (rows : List SegmentRow) → AreOthers start gs → AreRowsOf old gs rows → AreRowsOf new gs rows
  rows_beside [] [] others are = tt
  rows_beside [] (row ∷ rows) others are = absurd are
  rows_beside (g ∷ gs) [] others are = absurd are
  rows_beside (g ∷ gs) (row ∷ rows) others are = (row_beside g row others.0 are.0, rows_beside gs rows others.1 are.1)

  joined : (gs hs : List Segment) (rows others : List SegmentRow) → gs ≡ hs → rows ≡ others → AreRowsOf new hs others → AreRowsOf new gs rows
  joined gs hs rows others first second are = subst (λ (xs : List Segment). AreRowsOf new xs rows) (sym first) (subst (λ (ys : List SegmentRow). AreRowsOf new hs ys) (sym second) are)

  -- a segment of that start, as its new files have it, in place of the one that was told
  pub put_rows_after : (g : Segment) (row : SegmentRow) → g.start ≡ start → IsRowOf new g row → (gs : List Segment) (rows : List SegmentRow)
      → AreRising gs → AreRowsOf old gs rows → AreRowsOf new (put_segment g gs) (put_row row rows)
  put_rows_after g row at is [] [] rising are = put_alone new g row is
  put_rows_after g row at is [] (r ∷ rows) rising are = absurd are
  put_rows_after g row at is (h ∷ gs) [] rising are = absurd are
  put_rows_after g row at is (h ∷ gs) (r ∷ rows) rising are =
      let row_at : row.info.start ≡ g.start = row_start new g row is in
      let r_at : r.info.start ≡ h.start = row_start old h r are.0 in
      elim (cases_lt h.start g.start) [
        | inl less ↦ joined _ _ _ _ (put_on by_segments g h gs less) (put_on by_rows row r rows (omega (arith, less, row_at, r_at)))
            (row_beside h r (λ e. omega (arith, less, at, e)) are.0, put_rows_after g row at is gs rows rising.1 are.1)
        | inr le ↦ elim (cases_eq h.start g.start) [
          | inl e ↦ joined _ _ _ _ (put_here by_segments g h gs e) (put_here by_rows row r rows (omega (arith, e, row_at, r_at)))
              (is, rows_beside gs rows (others_above start h.start gs (omega (arith, e, at)) rising.0) are.1)
          | inr ne ↦
              let more : g.start < h.start = omega (arith, le, ne) in
              joined _ _ _ _ (put_before by_segments g h gs more) (put_before by_rows row r rows (omega (arith, more, row_at, r_at)))
              (is, (row_beside h r (λ e. omega (arith, more, at, e)) are.0, rows_beside gs rows (others_above start h.start gs (omega (arith, more, at)) rising.0) are.1))
        ]
      ]

  -- without the segment of that start
  pub remove_rows_after : (gs : List Segment) (rows : List SegmentRow) → AreRowsOf old gs rows → AreRowsOf new (remove_segment start gs) (remove_row start rows)
  remove_rows_after gs rows are = rows_beside (remove_segment start gs) (remove_row start rows) (removed_others start gs) (remove_rows old start gs rows are)
