-- What rows that tell segments say of them.
use Rattle.std.proofs.Common.{ℕ, ◌≡◌, ◌≤◌, ◌+◌, ◌-◌, ◌==◌, List, [], ◌∷◌, length, Option, Some, None, true, false, cond, nat_le, max, refl, sym, ap, arith, suc, subst}
use Rattle.std.proofs.lemmas.Bool.Decides.{nat_tests}
use Rattle.journal_core.specs.declared.segment.Segment.{Segment}
use Rattle.journal_core.specs.declared.segment_info.SegmentInfo.{SegmentInfo}
use Rattle.journal_core.specs.Segments.{find_segment, newest, any_body, has_edit, info_of, AreAbove, AreRising}
use Rattle.journal_core.specs.Step.{last_or_start}
use Rattle.disk_segment.specs.declared.segment_row.SegmentRow.{SegmentRow}
use Rattle.disk_segment.specs.Rows.{find_row, newest_row, row_has_edit, RowsAbove, RowsRise}
use Rattle.disk_segment.specs.RowsTell.{AreInfos, AreStarts}
use Rattle.disk_effects.specs.Told.{Tells}

-- the row tells the segment, or there is none of either
abbrev pub IsTold : Option Segment → Option SegmentRow → Type 0
IsTold None None = Unit {0}
IsTold (Some g) (Some row) = (row.info ≡ info_of g) × (1 ≤ g.start)
IsTold None (Some row) = ⊥
IsTold (Some g) None = ⊥

pub start_told : (g : Segment) (row : SegmentRow) → row.info ≡ info_of g → row.info.start ≡ g.start
start_told g row h = ap (λ (i : SegmentInfo). i.start) h

pub end_told : (g : Segment) (row : SegmentRow) → row.info ≡ info_of g → row.info.end ≡ g.start + length g.bodies - 1
end_told g row h = ap (λ (i : SegmentInfo). i.end) h

found_told : (gs : List Segment) (rows : List SegmentRow) (start : ℕ) → AreInfos gs rows → AreStarts gs → IsTold (find_segment start gs) (find_row start rows)
unfolding find_segment find_row
found_told [] [] start i s = tt
found_told [] (row ∷ rows) start i s = absurd i
found_told (g ∷ gs) [] start i s = absurd i
found_told (g ∷ gs) (row ∷ rows) start i s =
    let P : ℕ → Type 0 = λ n. IsTold (find_segment start (g ∷ gs)) (cond (n == start) (Some row) (find_row start rows)) in
    subst P (sym (start_told g row i.0))
    (elim (g.start == start) as (λ b. IsTold (cond b (Some g) (find_segment start gs)) (cond b (Some row) (find_row start rows)))
    [ true ↦ (i.0, s.0.0) | false ↦ found_told gs rows start i.1 s.1 ])

-- what is found by a start
pub found : (gs : List Segment) (rows : List SegmentRow) (start : ℕ) → Tells gs rows → IsTold (find_segment start gs) (find_row start rows)
found gs rows start t = found_told gs rows start t.infos t.starts

some_edit : (n : ℕ) (xs : List (List ℕ)) → 1 ≤ n → nat_le n (n + length xs - 1) ≡ any_body xs
some_edit n [] h = grind (arith, nat_tests)
some_edit n (x ∷ xs) h = let e : n ≤ n + suc (length xs) - 1 = omega arith in grind (arith, nat_tests)

pub edit_told : (g : Segment) (row : SegmentRow) → row.info ≡ info_of g → 1 ≤ g.start → row_has_edit row ≡ has_edit g
edit_told g row h s = rw h (some_edit g.start g.bodies s)

newest_same : (gs : List Segment) (rows : List SegmentRow) → AreInfos gs rows → AreStarts gs → newest_row rows ≡ newest gs
unfolding newest newest_row
newest_same [] [] i s = refl
newest_same [] (row ∷ rows) i s = absurd i
newest_same (g ∷ gs) [] i s = absurd i
newest_same (g ∷ gs) (row ∷ rows) i s = rw (edit_told g row i.0 s.0.0, start_told g row i.0, newest_same gs rows i.1 s.1) refl

pub newest_told : (gs : List Segment) (rows : List SegmentRow) → Tells gs rows → newest_row rows ≡ newest gs
newest_told gs rows t = newest_same gs rows t.infos t.starts

above_told : (a : ℕ) (gs : List Segment) (rows : List SegmentRow) → AreInfos gs rows → RowsAbove a rows → AreAbove a gs
above_told a [] rows i h = tt
above_told a (g ∷ gs) [] i h = absurd i
above_told a (g ∷ gs) (row ∷ rows) i h = (rw (← start_told g row i.0) h.0, above_told a gs rows i.1 h.1)

-- rows by rising start tell segments by rising start
pub rising_told : (gs : List Segment) (rows : List SegmentRow) → AreInfos gs rows → RowsRise rows → AreRising gs
rising_told [] rows i h = tt
rising_told (g ∷ gs) [] i h = absurd i
rising_told (g ∷ gs) (row ∷ rows) i h = (rw (← start_told g row i.0) (above_told row.info.start gs rows i.1 h.0), rising_told gs rows i.1 h.1)

pub last_told : (g : Segment) (row : SegmentRow) → row.info ≡ info_of g → 1 ≤ g.start → max row.info.start row.info.end ≡ last_or_start g
last_told g row h s = rw h (greatest g.start g.bodies s)
  where
    greatest : (n : ℕ) (xs : List (List ℕ)) → 1 ≤ n → max n (n + length xs - 1) ≡ cond (any_body xs) (n + length xs - 1) n
    greatest n [] s = omega arith
    greatest n (x ∷ xs) s = omega arith
