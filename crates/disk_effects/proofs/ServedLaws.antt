-- Laws of the loops over rows that look for what is served.
use Rattle.std.proofs.Common.{ℕ, ◌≡◌, ◌≤◌, ◌<◌, ◌+◌, ◌-◌, List, [], ◌∷◌, length, drop, get_or, map, filter, max, Option, Some, None, true, false, cond, refl, ap, ◌∙◌, arith, zero, suc}
use Rattle.std.proofs.lemmas.Bool.Decides.{nat_tests}
use Rattle.std.proofs.lemmas.List.{drop_more, drop_all}
use Rattle.disk_segment.specs.declared.segment_row.SegmentRow.{SegmentRow}
use Rattle.disk_segment.specs.Rows.{row_has_edit}
use Rattle.disk_segment.proofs.RowLaws.{row_within}
use Rattle.disk_effects.specs.Served.{row_count, serving_row, row_last, last_row, least_row, row_line, row_lines}

-- ## The serving row
serving_one : (o : Option ℕ) (k from : ℕ) (row : SegmentRow) (rows : List SegmentRow) → serving_row o k from rows ≡ None → row.info.start ≤ from → from < row.info.start + row_count o k row
    → serving_row o k from (row ∷ rows) ≡ Some row
unfolding serving_row
serving_one o k from row rows n l h = grind (arith, nat_tests)

serving_other : (o : Option ℕ) (k from : ℕ) (row : SegmentRow) (rows : List SegmentRow) → serving_row o k from rows ≡ None → (row.info.start ≤ from → row.info.start + row_count o k row ≤ from)
    → serving_row o k from (row ∷ rows) ≡ None
unfolding serving_row
serving_other o k from row rows n l = grind (arith, nat_tests)

serving_front : (o : Option ℕ) (k from : ℕ) (rows : List SegmentRow) (i : ℕ) (row : SegmentRow) → serving_row o k from (drop i rows) ≡ Some row → serving_row o k from rows ≡ Some row
unfolding serving_row
serving_front o k from [] zero row h = h
serving_front o k from [] (suc i) row h = h
serving_front o k from (r ∷ rows) zero row h = h
serving_front o k from (r ∷ rows) (suc i) row h = rw (serving_front o k from rows i row h) refl

pub serves_at : (o : Option ℕ) (k from : ℕ) (rows : List SegmentRow) (i : ℕ) (d : SegmentRow) → i < length rows → serving_row o k from (drop (i + 1) rows) ≡ None
    → (get_or rows i d).info.start ≤ from → from - (get_or rows i d).info.start < row_count o k (get_or rows i d) → serving_row o k from rows ≡ Some (get_or rows i d)
serves_at o k from rows i d l n low high =
    serving_front o k from rows i _ (ap (serving_row o k from) (drop_more rows i d l) ∙ serving_one o k from (get_or rows i d) (drop (i + 1) rows) n low (omega arith))

pub serves_not : (o : Option ℕ) (k from : ℕ) (rows : List SegmentRow) (i : ℕ) (d : SegmentRow) → i < length rows → serving_row o k from (drop (i + 1) rows) ≡ None
    → ((get_or rows i d).info.start ≤ from → row_count o k (get_or rows i d) ≤ from - (get_or rows i d).info.start) → serving_row o k from (drop i rows) ≡ None
serves_not o k from rows i d l n h =
    ap (serving_row o k from) (drop_more rows i d l)
    ∙ serving_other o k from (get_or rows i d) (drop (i + 1) rows) n (λ low. (let high : row_count o k (get_or rows i d) ≤ from - (get_or rows i d).info.start = h low in omega arith))

pub serves_none : (o : Option ℕ) (k from : ℕ) (rows : List SegmentRow) (i : ℕ) → length rows ≤ i → serving_row o k from (drop i rows) ≡ None
unfolding serving_row
serves_none o k from rows i l = rw (drop_all i rows l) refl

pub ruleset serves = (serves_at, serves_not, serves_none, row_within)

-- ## The least and the last served txid
least_one : (o : Option ℕ) (k : ℕ) (row : SegmentRow) (rows : List SegmentRow) → 0 < row_count o k row → least_row o k (row ∷ rows) ≡ row.info.start
unfolding least_row
least_one o k row rows h = grind (arith, nat_tests)

least_other : (o : Option ℕ) (k : ℕ) (row : SegmentRow) (rows : List SegmentRow) → row_count o k row ≡ 0 → least_row o k (row ∷ rows) ≡ least_row o k rows
unfolding least_row
least_other o k row rows h = grind (arith, nat_tests)

pub least_at : (o : Option ℕ) (k : ℕ) (rows : List SegmentRow) (i : ℕ) (d : SegmentRow) → i < length rows → 0 < row_count o k (get_or rows i d)
    → least_row o k (drop i rows) ≡ (get_or rows i d).info.start
least_at o k rows i d l h = ap (least_row o k) (drop_more rows i d l) ∙ least_one o k (get_or rows i d) (drop (i + 1) rows) h

pub least_next : (o : Option ℕ) (k : ℕ) (rows : List SegmentRow) (i : ℕ) (d : SegmentRow) → i < length rows → row_count o k (get_or rows i d) ≡ 0
    → least_row o k (drop i rows) ≡ least_row o k (drop (i + 1) rows)
least_next o k rows i d l h = ap (least_row o k) (drop_more rows i d l) ∙ least_other o k (get_or rows i d) (drop (i + 1) rows) h

pub least_none : (o : Option ℕ) (k : ℕ) (rows : List SegmentRow) (i : ℕ) → length rows ≤ i → least_row o k (drop i rows) ≡ 0
unfolding least_row
least_none o k rows i l = rw (drop_all i rows l) refl

pub ruleset least = (least_at, least_next, least_none, row_within)

last_one : (o : Option ℕ) (k from : ℕ) (row : SegmentRow) (rows : List SegmentRow) → last_row o k from (row ∷ rows) ≡ max (last_row o k from rows) (row_last o k from row)
unfolding last_row
last_one o k from row rows = refl

pub last_at : (o : Option ℕ) (k from : ℕ) (rows : List SegmentRow) (i : ℕ) (d : SegmentRow) → i < length rows
    → last_row o k from (drop i rows) ≡ max (last_row o k from (drop (i + 1) rows)) (row_last o k from (get_or rows i d))
last_at o k from rows i d l = ap (last_row o k from) (drop_more rows i d l) ∙ last_one o k from (get_or rows i d) (drop (i + 1) rows)

pub last_none : (o : Option ℕ) (k from : ℕ) (rows : List SegmentRow) (i : ℕ) → length rows ≤ i → last_row o k from (drop i rows) ≡ 0
unfolding last_row
last_none o k from rows i l = rw (drop_all i rows l) refl

pub ruleset last = (last_at, last_none, row_within)

-- ## Lines
pub line_one : (rows : List SegmentRow) (i : ℕ) (d : SegmentRow) → i < length rows → row_has_edit (get_or rows i d) ≡ true
    → row_lines (drop i rows) ≡ row_line (get_or rows i d) ∷ row_lines (drop (i + 1) rows)
line_one rows i d l h =
    ap row_lines (drop_more rows i d l) ∙ ap (λ b. map row_line (cond b (get_or rows i d ∷ filter row_has_edit (drop (i + 1) rows)) (filter row_has_edit (drop (i + 1) rows)))) h

pub line_other : (rows : List SegmentRow) (i : ℕ) (d : SegmentRow) → i < length rows → row_has_edit (get_or rows i d) ≡ false
    → row_lines (drop i rows) ≡ row_lines (drop (i + 1) rows)
line_other rows i d l h =
    ap row_lines (drop_more rows i d l) ∙ ap (λ b. map row_line (cond b (get_or rows i d ∷ filter row_has_edit (drop (i + 1) rows)) (filter row_has_edit (drop (i + 1) rows)))) h

pub line_none : (rows : List SegmentRow) (i : ℕ) → length rows ≤ i → row_lines (drop i rows) ≡ []
line_none rows i l = ap row_lines (drop_all i rows l)

pub ruleset lines = (line_one, line_other, line_none)
