-- What rows that tell segments say of what a node serves.
use Rattle.std.proofs.Common.{ℕ, ◌≡◌, ◌≤◌, ◌<◌, ◌+◌, ◌-◌, ◌==◌, ◌&&◌, List, [], ◌∷◌, length, take, drop, map, filter, max, min, Option, Some, None}
use Rattle.std.proofs.Common.{Bool, true, false, cond, nat_lt, nat_le, refl, sym, ap, ◌∙◌, arith, subst, zero, suc, length-take}
use Rattle.std.proofs.lemmas.Bool.Decides.{nat_tests}
use Rattle.std.proofs.lemmas.List.{take_all}
use Rattle.journal_core.specs.declared.segment.Segment.{Segment}
use Rattle.journal_core.specs.declared.segment_info.SegmentInfo.{SegmentInfo}
use Rattle.journal_core.specs.declared.segment_line.SegmentLine.{SegmentLine}
use Rattle.journal_core.specs.declared.node_state.NodeState.{NodeState}
use Rattle.journal_core.specs.Segments.{find_segment, has_edit, info_of, IsWithin, AreWithin, AreSound}
use Rattle.journal_core.specs.Reads.{served, served_open, serving, last_below, least_served, manifest_of, told_of}
use Rattle.journal_core.specs.Answers.{last_of}
use Rattle.journal_core.proofs.ServingLaws.{least_at, least_next, last_of_is}
use Rattle.disk_segment.specs.declared.segment_row.SegmentRow.{SegmentRow}
use Rattle.disk_segment.specs.Rows.{find_row, row_has_edit, RowsAbove, RowsRise, RowsWithin, AreSoundRows}
use Rattle.disk_segment.specs.RowsTell.{AreInfos, AreStarts}
use Rattle.disk_effects.specs.Told.{Tells, state_with, line_of}
use Rattle.disk_effects.specs.Served.{open_count, row_count, or_row, serving_row, row_last, last_row, least_row, row_line, row_lines, row_told, IsServedBy, IsLineOf}
use Rattle.disk_effects.proofs.ToldLaws.{IsTold, found, start_told, end_told, edit_told, rising_told}

within_told : (gs : List Segment) (rows : List SegmentRow) → AreInfos gs rows → AreStarts gs → RowsWithin rows → AreWithin gs
within_told [] rows i s w = tt
within_told (g ∷ gs) [] i s w = absurd i
within_told (g ∷ gs) (row ∷ rows) i s w = (omega (arith, end_told g row i.0, s.0.0, w.0.3), within_told gs rows i.1 s.1 w.1)

pub sound_told : (gs : List Segment) (rows : List SegmentRow) → AreInfos gs rows → AreStarts gs → AreSoundRows rows → AreSound gs
sound_told gs rows i s r = record { rising = rising_told gs rows i r.rising; within = within_told gs rows i s r.within }

-- ## How many edits are served
record IsFront (xs all : List (List ℕ)) : Type 0 where
  front : xs ≡ take (length xs) all
  long : length xs ≤ length all

take_again : (n : ℕ) (xs : List (List ℕ)) → take n xs ≡ take (length (take n xs)) xs
take_again zero xs = refl
take_again (suc n) [] = refl
take_again (suc n) (x ∷ xs) = ap (λ ys. x ∷ ys) (take_again n xs)

front_none : (all : List (List ℕ)) → IsFront [] all
front_none all = record { front = refl; long = omega arith }

served_front : (s : NodeState) (g : Segment) → IsFront (served s g) g.bodies
served_front s g =
    elim g.is_final as (λ b. IsFront (cond b g.bodies (served_open s g s.opened)) g.bodies)
    [ true ↦ record { front = sym (take_all (length g.bodies) g.bodies (omega arith)); long = omega arith } | false ↦ by_opened s.opened ]
  where
    by_opened : (o : Option ℕ) → IsFront (served_open s g o) g.bodies
    by_opened None = front_none g.bodies
    by_opened (Some opened) =
        elim (g.start == opened) as (λ b. IsFront (cond b (take ((s.known + 1) - g.start) g.bodies) []) g.bodies)
        [ true ↦ record { front = take_again ((s.known + 1) - g.start) g.bodies; long = omega (arith, length-take ((s.known + 1) - g.start) g.bodies) } | false ↦ front_none g.bodies ]

all_count : (start : ℕ) (bodies : List (List ℕ)) → 1 ≤ start → ((start + length bodies - 1) + 1) - start ≡ length bodies
all_count start bodies h = omega arith

open_told : (s : NodeState) (g : Segment) (o : Option ℕ) → open_count s.known g.start (length g.bodies) o ≡ length (served_open s g o)
open_told s g None = refl
open_told s g (Some opened) =
    elim (g.start == opened) as (λ b. cond b (min (length g.bodies) ((s.known + 1) - g.start)) 0 ≡ length (cond b (take ((s.known + 1) - g.start) g.bodies) []))
    [ true ↦ omega (arith, length-take ((s.known + 1) - g.start) g.bodies) | false ↦ refl ]

pub count_told : (s : NodeState) (g : Segment) (row : SegmentRow) → row.info ≡ info_of g → 1 ≤ g.start → row_count s.opened s.known row ≡ length (served s g)
count_told s g row h first =
    rw (h, all_count g.start g.bodies first)
    (elim g.is_final as (λ b. cond b (length g.bodies) (open_count s.known g.start (length g.bodies) s.opened) ≡ length (cond b g.bodies (served_open s g s.opened)))
    [ true ↦ refl | false ↦ open_told s g s.opened ])

-- ## The serving segment
above_pick : (a : ℕ) (row r : SegmentRow) (b : Bool) (o : Option SegmentRow) → a < row.info.start → ((x : SegmentRow) → o ≡ Some x → a < x.info.start) → or_row o (cond b (Some row) None) ≡ Some r
    → a < r.info.start
above_pick a row r b (Some x) l h e = let same : x ≡ r = cc in subst (λ (y : SegmentRow). a < y.info.start) same (h x refl)
above_pick a row r true None l h e = let same : row ≡ r = cc in subst (λ (y : SegmentRow). a < y.info.start) same l
above_pick a row r false None l h e = absurd (cc)

above_serving : (a : ℕ) (o : Option ℕ) (k from : ℕ) (rows : List SegmentRow) (r : SegmentRow) → RowsAbove a rows → serving_row o k from rows ≡ Some r → a < r.info.start
unfolding serving_row
above_serving a o k from [] r p e = absurd (cc)
above_serving a o k from (row ∷ rows) r p e = above_pick a row r _ (serving_row o k from rows) p.0 (λ x f. above_serving a o k from rows x p.1 f) e

record IsServed (s : NodeState) (from : ℕ) (gs : List Segment) (row : SegmentRow) : Type 0 where
  segment : Segment
  info : row.info ≡ info_of segment
  first : 1 ≤ segment.start
  known : find_segment row.info.start gs ≡ Some segment
  within : IsWithin segment
  low : segment.start ≤ from
  high : from < segment.start + length (served s segment)
  piece : serving s from gs ≡ Some (drop (from - segment.start) (served s segment))

abbrev IsServing : NodeState → ℕ → List Segment → Option SegmentRow → Type 0
IsServing s from gs None = serving s from gs ≡ None
IsServing s from gs (Some row) = IsServed s from gs row

module _ (s : NodeState) (from : ℕ) (g : Segment) (row : SegmentRow) (gs : List Segment) (info : row.info ≡ info_of g) (first : 1 ≤ g.start) (within : IsWithin g) where
  serving_here : (b : Bool) → (nat_le g.start from && nat_lt from (g.start + length (served s g))) ≡ b → serving s from gs ≡ None → IsServing s from (g ∷ gs) (cond b (Some row) None)
  unfolding serving find_segment
  serving_here true e n =
      let here : (g.start == row.info.start) ≡ true = (let same : row.info.start ≡ g.start = start_told g row info in grind (arith, nat_tests)) in
      record {
        segment = g;
        info = info;
        first = first;
        known = rw here refl;
        within = within;
        low = grind (arith, nat_tests);
        high = grind (arith, nat_tests);
        piece = rw (n, e) refl;
      }
  serving_here false e n = rw (n, e) refl

  serving_more : (r : SegmentRow) → row.info.start < r.info.start → IsServed s from gs r → IsServed s from (g ∷ gs) r
  unfolding serving find_segment
  serving_more r l h =
      let other : (g.start == r.info.start) ≡ false = (let same : row.info.start ≡ g.start = start_told g row info in grind (arith, nat_tests)) in
      record {
        segment = h.segment;
        info = h.info;
        first = h.first;
        known = rw other h.known;
        within = h.within;
        low = h.low;
        high = h.high;
        piece = rw h.piece refl;
      }

  serving_either : (o : Option SegmentRow) (b : Bool) → (nat_le g.start from && nat_lt from (g.start + length (served s g))) ≡ b → ((r : SegmentRow) → o ≡ Some r → row.info.start < r.info.start)
      → IsServing s from gs o → IsServing s from (g ∷ gs) (or_row o (cond b (Some row) None))
  serving_either None b e a h = serving_here b e h
  serving_either (Some r) b e a h = serving_more r (a r refl) h

told_serving : (s : NodeState) (from : ℕ) (gs : List Segment) (rows : List SegmentRow) → AreInfos gs rows → AreStarts gs → RowsRise rows → RowsWithin rows
    → IsServing s from gs (serving_row s.opened s.known from rows)
unfolding serving serving_row
told_serving s from [] [] i st r w = refl
told_serving s from [] (row ∷ rows) i st r w = absurd i
told_serving s from (g ∷ gs) [] i st r w = absurd i
told_serving s from (g ∷ gs) (row ∷ rows) i st r w =
    let same : (nat_le g.start from && nat_lt from (g.start + length (served s g))) ≡ (nat_le row.info.start from && nat_lt from (row.info.start + row_count s.opened s.known row)) =
    rw (count_told s g row i.0 st.0.0, start_told g row i.0) refl in
    serving_either s from g row gs i.0 st.0.0 (omega (arith, end_told g row i.0, st.0.0, w.0)) (serving_row s.opened s.known from rows) _ same
    (λ x e. above_serving row.info.start s.opened s.known from rows x r.0 e)
    (told_serving s from gs rows i.1 st.1 r.1 w.1)

served_by : (s : NodeState) (from : ℕ) (row : SegmentRow) → IsServed s from s.segments row → IsServedBy s from (row_line row) (row_count s.opened s.known row)
served_by s from row h =
    let g = h.segment in
    let f = served_front s g in
    let c : row_count s.opened s.known row ≡ length (served s g) = count_told s g row h.info h.first in
    record {
      segment = g;
      known = h.known;
      line_is = ap (λ (i : SegmentInfo). let l : SegmentLine = record { start = i.start; end = i.end; is_final = i.is_final; epoch = i.epoch } in l) h.info;
      serves = record {
        low = h.low;
        high = rw c h.high;
        within = h.within;
        prefix = rw c f.front;
        long = rw c f.long;
        piece = h.piece;
      };
    }

-- the row that serves a txid is that of the segment that does
pub serving_told : (m : NodeState) (from : ℕ) (gs : List Segment) (rows : List SegmentRow) (row : SegmentRow) → Tells gs rows → AreSoundRows rows → Some row ≡ serving_row m.opened m.known from rows
    → IsServedBy (state_with m gs) from (row_line row) (row_count m.opened m.known row)
serving_told m from gs rows row t r e =
    served_by (state_with m gs) from row (subst (λ o. IsServing (state_with m gs) from gs o) (sym e) (told_serving (state_with m gs) from gs rows t.infos t.starts r.rising r.within))

pub serving_none : (m : NodeState) (from : ℕ) (gs : List Segment) (rows : List SegmentRow) → Tells gs rows → AreSoundRows rows → None ≡ serving_row m.opened m.known from rows
    → serving (state_with m gs) from gs ≡ None
serving_none m from gs rows t r e = subst (λ o. IsServing (state_with m gs) from gs o) (sym e) (told_serving (state_with m gs) from gs rows t.infos t.starts r.rising r.within)

-- ## What isn't served
least_same : (s : NodeState) (gs : List Segment) (rows : List SegmentRow) → AreInfos gs rows → AreStarts gs → AreSoundRows rows → least_row s.opened s.known rows ≡ least_served s gs
unfolding least_row least_served
least_same s [] [] i st r = refl
least_same s [] (row ∷ rows) i st r = absurd i
least_same s (g ∷ gs) [] i st r = absurd i
least_same s (g ∷ gs) (row ∷ rows) i st r =
    rw (count_told s g row i.0 st.0.0) (by_count (nat_lt 0 (length (served s g))) refl (least_same s gs rows i.1 st.1 (record { rising = r.rising.1; within = r.within.1 })))
  where
    by_count : (b : Bool) → nat_lt 0 (length (served s g)) ≡ b → least_row s.opened s.known rows ≡ least_served s gs → cond b row.info.start (least_row s.opened s.known rows) ≡ least_served s (g ∷ gs)
    by_count true e h =
        let some : 0 < length (served s g) = grind (arith, nat_tests) in
        start_told g row i.0 ∙ sym (least_at s (g ∷ gs) 0 g (sound_told (g ∷ gs) (row ∷ rows) i st r) (omega arith) some)
    by_count false e h =
        let none : length (served s g) ≡ 0 = grind (arith, nat_tests) in
        h ∙ sym (least_next s (g ∷ gs) 0 g (omega arith) none)

pub least_told : (m : NodeState) (gs : List Segment) (rows : List SegmentRow) → Tells gs rows → AreSoundRows rows → least_row m.opened m.known rows ≡ least_served (state_with m gs) gs
least_told m gs rows t r = least_same (state_with m gs) gs rows t.infos t.starts r

last_one : (s : NodeState) (from : ℕ) (g : Segment) (row : SegmentRow) → row.info ≡ info_of g → 1 ≤ g.start → row_last s.opened s.known from row ≡ last_of s from g
last_one s from g row h first = rw (count_told s g row h first, start_told g row h) (sym (last_of_is s from g))

last_same : (s : NodeState) (from : ℕ) (gs : List Segment) (rows : List SegmentRow) → AreInfos gs rows → AreStarts gs → last_row s.opened s.known from rows ≡ last_below s from gs
unfolding last_row last_below
last_same s from [] [] i st = refl
last_same s from [] (row ∷ rows) i st = absurd i
last_same s from (g ∷ gs) [] i st = absurd i
last_same s from (g ∷ gs) (row ∷ rows) i st =
    ap (λ n. max n (row_last s.opened s.known from row)) (last_same s from gs rows i.1 st.1) ∙ ap (λ n. max (last_below s from gs) n) (last_one s from g row i.0 st.0.0)

pub last_told : (m : NodeState) (from : ℕ) (gs : List Segment) (rows : List SegmentRow) → Tells gs rows → last_row m.opened m.known from rows ≡ last_below (state_with m gs) from gs
last_told m from gs rows t = last_same (state_with m gs) from gs rows t.infos t.starts

-- ## Lines
lines_same : (gs : List Segment) (rows : List SegmentRow) → AreInfos gs rows → AreStarts gs → row_lines rows ≡ manifest_of gs
unfolding manifest_of
lines_same [] [] i st = refl
lines_same [] (row ∷ rows) i st = absurd i
lines_same (g ∷ gs) [] i st = absurd i
lines_same (g ∷ gs) (row ∷ rows) i st =
    ap (λ b. map row_line (cond b (row ∷ filter row_has_edit rows) (filter row_has_edit rows))) (edit_told g row i.0 st.0.0)
    ∙ elim (has_edit g) as (λ b. map row_line (cond b (row ∷ filter row_has_edit rows) (filter row_has_edit rows)) ≡ cond b (line_of g ∷ manifest_of gs) (manifest_of gs)) [
      | true ↦ ap (λ (i : SegmentInfo). let l : SegmentLine = record { start = i.start; end = i.end; is_final = i.is_final; epoch = i.epoch } in l ∷ row_lines rows) i.0
          ∙ ap (λ ls. line_of g ∷ ls) (lines_same gs rows i.1 st.1)
      | false ↦ lines_same gs rows i.1 st.1
    ]

pub lines_told : (gs : List Segment) (rows : List SegmentRow) → Tells gs rows → row_lines rows ≡ manifest_of gs
lines_told gs rows t = lines_same gs rows t.infos t.starts

info_same : (o : Option Segment) (p : Option SegmentRow) → IsTold o p → row_told p ≡ told_of o
info_same None None h = refl
info_same None (Some row) h = absurd h
info_same (Some g) None h = absurd h
info_same (Some g) (Some row) h = rw (edit_told g row h.0 h.1, h.0) refl

pub info_told : (gs : List Segment) (rows : List SegmentRow) (start : ℕ) → Tells gs rows → row_told (find_row start rows) ≡ told_of (find_segment start gs)
info_told gs rows start t = info_same (find_segment start gs) (find_row start rows) (found gs rows start t)

line_by : (gs : List Segment) (start : ℕ) (row : SegmentRow) (o : Option Segment) → find_segment start gs ≡ o → IsTold o (Some row) → IsLineOf gs start (row_line row)
line_by gs start row None e h = absurd h
line_by gs start row (Some g) e h = record {
  segment = g;
  known = e;
  line_is = ap (λ (i : SegmentInfo). let l : SegmentLine = record { start = i.start; end = i.end; is_final = i.is_final; epoch = i.epoch } in l) h.0;
}

pub line_told : (gs : List Segment) (rows : List SegmentRow) (start : ℕ) (row : SegmentRow) → Tells gs rows → find_row start rows ≡ Some row → IsLineOf gs start (row_line row)
line_told gs rows start row t e = line_by gs start row (find_segment start gs) refl (subst (λ p. IsTold (find_segment start gs) p) e (found gs rows start t))

none_by : (o : Option Segment) → IsTold o None → o ≡ None
none_by None h = refl
none_by (Some g) h = absurd h

pub line_none : (gs : List Segment) (rows : List SegmentRow) (start : ℕ) → Tells gs rows → find_row start rows ≡ None → find_segment start gs ≡ None
line_none gs rows start t e = none_by (find_segment start gs) (subst (λ p. IsTold (find_segment start gs) p) e (found gs rows start t))
