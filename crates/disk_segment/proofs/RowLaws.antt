-- Laws of a table's rows by rising start.
use Rattle.std.proofs.Common.{ℕ, ◌≡◌, ◌<◌, ◌≤◌, ◌+◌, List, [], ◌∷◌, length, Option, Some, None, Bool, true, false, cond, refl, sym, ◌∙◌, ap, arith, drop, get_or, set, insert, suc, zero, max}
use Rattle.std.specs.List.{remove}
use Rattle.std.proofs.lemmas.List.{drop_more, drop_all}
use Rattle.std.proofs.lemmas.List.Elements.{All-from_recursion}
use Rattle.base_words.specs.Starts.{IsAt, IsGap}
use Rattle.base_words.proofs.StartLaws as starts
use Rattle.journal_core.specs.Segments.{max_or}
use Rattle.disk_segment.specs.declared.segment_row.SegmentRow.{SegmentRow}
use Rattle.disk_segment.specs.Rows.{find_row, put_row, remove_row, newest_row, row_has_edit, RowsAbove, RowsRise, IsRowWithin, AreSoundRows}

pub by_rows : starts.IsByStart (λ (row : SegmentRow). row.info.start) find_row put_row remove_row
unfolding find_row put_row remove_row
by_rows = record {
  find_none = λ start. refl;
  find_more = λ start row rows. refl;
  put_none = λ new. refl;
  put_more = λ new row rows. refl;
  without_none = λ start. refl;
  without_more = λ start row rows. refl;
}

-- ## A found place
pub find_there : (start i : ℕ) (rows : List SegmentRow) (d : SegmentRow) → AreSoundRows rows → IsAt (λ (row : SegmentRow). row.info.start) start i rows → find_row start rows ≡ Some (get_or rows i d)
find_there start i rows d sound at = starts.find_there by_rows start i rows d sound.rising at

pub find_nowhere : (start i : ℕ) (rows : List SegmentRow) → IsGap (λ (row : SegmentRow). row.info.start) start i rows → find_row start rows ≡ None
find_nowhere start i rows gap = starts.find_nowhere by_rows start i rows gap

pub put_there : (new : SegmentRow) (i : ℕ) (rows : List SegmentRow) → AreSoundRows rows → IsAt (λ (row : SegmentRow). row.info.start) new.info.start i rows → set rows i new ≡ put_row new rows
put_there new i rows sound at = starts.put_there by_rows new i rows sound.rising at

pub put_between : (new : SegmentRow) (i : ℕ) (rows : List SegmentRow) → IsGap (λ (row : SegmentRow). row.info.start) new.info.start i rows → insert rows i new ≡ put_row new rows
put_between new i rows gap = starts.put_between by_rows new i rows gap

pub put_sound : (new : SegmentRow) (rows : List SegmentRow) → IsRowWithin new → AreSoundRows rows → AreSoundRows (put_row new rows)
put_sound new rows fits sound = record { rising = starts.put_rises by_rows new rows sound.rising; within = starts.put_all by_rows IsRowWithin new rows fits sound.within }

pub set_sound : (new : SegmentRow) (i : ℕ) (rows : List SegmentRow) → IsRowWithin new → AreSoundRows rows → IsAt (λ (row : SegmentRow). row.info.start) new.info.start i rows
    → AreSoundRows (set rows i new)
set_sound new i rows fits sound at = rw (put_there new i rows sound at) (put_sound new rows fits sound)

pub insert_sound : (new : SegmentRow) (i : ℕ) (rows : List SegmentRow) → IsRowWithin new → AreSoundRows rows → IsGap (λ (row : SegmentRow). row.info.start) new.info.start i rows
    → AreSoundRows (insert rows i new)
insert_sound new i rows fits sound gap = rw (put_between new i rows gap) (put_sound new rows fits sound)

pub row_within : (rows : List SegmentRow) (i : ℕ) (d : SegmentRow) → AreSoundRows rows → i < length rows → IsRowWithin (get_or rows i d)
row_within rows i d sound lt = All-from_recursion IsRowWithin rows sound.within i d lt

pub remove_there : (start i : ℕ) (rows : List SegmentRow) (d : SegmentRow) → AreSoundRows rows → IsAt (λ (row : SegmentRow). row.info.start) start i rows → remove rows i ≡ remove_row start rows
remove_there start i rows d sound at = starts.remove_there by_rows start i rows d sound.rising at

pub remove_nowhere : (start i : ℕ) (rows : List SegmentRow) → IsGap (λ (row : SegmentRow). row.info.start) start i rows → rows ≡ remove_row start rows
remove_nowhere start i rows gap = starts.remove_nowhere by_rows start i rows gap

pub remove_sound : (start i : ℕ) (rows : List SegmentRow) (d : SegmentRow) → AreSoundRows rows → IsAt (λ (row : SegmentRow). row.info.start) start i rows → AreSoundRows (remove rows i)
remove_sound start i rows d sound at = rw (remove_there start i rows d sound at)
    record { rising = starts.without_rises by_rows start rows sound.rising; within = starts.without_all by_rows IsRowWithin start rows sound.within }

pub ruleset places = (find_there, find_nowhere, put_there, put_between, set_sound, insert_sound, row_within, remove_there, remove_nowhere, remove_sound)

-- ## The newest
above_step : (a m : ℕ) (row : SegmentRow) (b : Bool) (n : Option ℕ) → a < row.info.start → ((k : ℕ) → n ≡ Some k → a < k) → cond b (Some (max_or row.info.start n)) n ≡ Some m → a < m
above_step a m row true None l k h = let e : row.info.start ≡ m = cc in omega arith
above_step a m row true (Some x) l k h = let e : max row.info.start x ≡ m = cc in omega arith
above_step a m row false n l k h = k m h

newest_above : (rows : List SegmentRow) (a m : ℕ) → RowsAbove a rows → newest_row rows ≡ Some m → a < m
unfolding newest_row
newest_above [] a m p = λ h. cc
newest_above (row ∷ rows) a m p = above_step a m row (row_has_edit row) (newest_row rows) p.0 (λ k. newest_above rows a k p.1)

after_step : (m : ℕ) (row : SegmentRow) (b : Bool) (n : Option ℕ) → n ≡ Some m → row.info.start < m → cond b (Some (max_or row.info.start n)) n ≡ Some m
after_step m row true None e l = absurd (cc)
after_step m row true (Some x) e l = let f : x ≡ m = cc in ap (λ k. let o : Option ℕ = Some k in o) (omega arith)
after_step m row false n e l = e

newest_after : (rows : List SegmentRow) (i m : ℕ) → RowsRise rows → newest_row (drop i rows) ≡ Some m → newest_row rows ≡ Some m
unfolding newest_row
newest_after [] zero m r h = h
newest_after [] (suc i) m r h = h
newest_after (row ∷ rows) zero m r h = h
newest_after (row ∷ rows) (suc i) m r h =
    let e : newest_row rows ≡ Some m = newest_after rows i m r.1 h in
    after_step m row (row_has_edit row) (newest_row rows) e (newest_above rows row.info.start m r.0 e)

newest_here : (row : SegmentRow) (rows : List SegmentRow) → row_has_edit row ≡ true → newest_row rows ≡ None → newest_row (row ∷ rows) ≡ Some row.info.start
unfolding newest_row
newest_here row rows e n = rw (e, n) refl

newest_skips : (row : SegmentRow) (rows : List SegmentRow) → row_has_edit row ≡ false → newest_row (row ∷ rows) ≡ newest_row rows
unfolding newest_row
newest_skips row rows e = rw e refl

pub newest_at : (rows : List SegmentRow) (i : ℕ) (d : SegmentRow) → AreSoundRows rows → i < length rows → d ≡ get_or rows i d → row_has_edit d ≡ true
    → newest_row (drop (i + 1) rows) ≡ None → newest_row rows ≡ Some d.info.start
newest_at rows i d s l e h n =
    newest_after rows i d.info.start s.rising (ap newest_row (drop_more rows i d l ∙ ap (λ x. x ∷ drop (i + 1) rows) (sym e)) ∙ newest_here d (drop (i + 1) rows) h n)

pub newest_less : (rows : List SegmentRow) (i : ℕ) (d : SegmentRow) → i < length rows → d ≡ get_or rows i d → row_has_edit d ≡ false
    → newest_row (drop (i + 1) rows) ≡ None → newest_row (drop i rows) ≡ None
newest_less rows i d l e h n =
    ap newest_row (drop_more rows i d l ∙ ap (λ x. x ∷ drop (i + 1) rows) (sym e)) ∙ newest_skips d (drop (i + 1) rows) h ∙ n

pub newest_none : (rows : List SegmentRow) (i : ℕ) → length rows ≤ i → newest_row (drop i rows) ≡ None
unfolding newest_row
newest_none rows i l = rw (drop_all i rows l) refl

pub ruleset newests = (newest_at, newest_less, newest_none)
