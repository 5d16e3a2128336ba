-- Laws of a list of segments by rising start.
use Rattle.std.proofs.Common.{ℕ, ◌≡◌, ◌<◌, ◌≤◌, ◌+◌, List, [], ◌∷◌, length, Option, Some, None, Bool, true, false, cond, refl, sym, ◌∙◌, ap, arith, drop, get_or, set, insert, suc, zero, max}
use Rattle.std.proofs.lemmas.List.{drop_more, drop_all}
use Rattle.std.proofs.lemmas.List.Elements.{All-from_recursion}
use Rattle.base_words.specs.Starts.{IsAt, IsGap}
use Rattle.base_words.proofs.StartLaws as starts
use Rattle.journal_core.specs.declared.segment.Segment.{Segment}
use Rattle.journal_core.specs.Segments.{find_segment, put_segment, remove_segment, newest, max_or, has_edit, AreAbove, AreRising, IsWithin, AreSound}

pub by_segments : starts.IsByStart (λ (g : Segment). g.start) find_segment put_segment remove_segment
unfolding find_segment put_segment remove_segment
by_segments = record {
  find_none = λ start. refl;
  find_more = λ start g gs. refl;
  put_none = λ new. refl;
  put_more = λ new g gs. refl;
  without_none = λ start. refl;
  without_more = λ start g gs. refl;
}

-- ## A found place
pub find_there : (start i : ℕ) (gs : List Segment) (d : Segment) → AreSound gs → IsAt (λ (g : Segment). g.start) start i gs → find_segment start gs ≡ Some (get_or gs i d)
find_there start i gs d sound at = starts.find_there by_segments start i gs d sound.rising at

pub find_nowhere : (start i : ℕ) (gs : List Segment) → IsGap (λ (g : Segment). g.start) start i gs → find_segment start gs ≡ None
find_nowhere start i gs gap = starts.find_nowhere by_segments start i gs gap

pub put_there : (new : Segment) (i : ℕ) (gs : List Segment) → AreSound gs → IsAt (λ (g : Segment). g.start) new.start i gs → set gs i new ≡ put_segment new gs
put_there new i gs sound at = starts.put_there by_segments new i gs sound.rising at

pub put_between : (new : Segment) (i : ℕ) (gs : List Segment) → IsGap (λ (g : Segment). g.start) new.start i gs → insert gs i new ≡ put_segment new gs
put_between new i gs gap = starts.put_between by_segments new i gs gap

pub put_sound : (new : Segment) (gs : List Segment) → IsWithin new → AreSound gs → AreSound (put_segment new gs)
put_sound new gs fits sound = record { rising = starts.put_rises by_segments new gs sound.rising; within = starts.put_all by_segments IsWithin new gs fits sound.within }

pub set_sound : (new : Segment) (i : ℕ) (gs : List Segment) → IsWithin new → AreSound gs → IsAt (λ (g : Segment). g.start) new.start i gs → AreSound (set gs i new)
set_sound new i gs fits sound at = rw (put_there new i gs sound at) (put_sound new gs fits sound)

pub insert_sound : (new : Segment) (i : ℕ) (gs : List Segment) → IsWithin new → AreSound gs → IsGap (λ (g : Segment). g.start) new.start i gs → AreSound (insert gs i new)
insert_sound new i gs fits sound gap = rw (put_between new i gs gap) (put_sound new gs fits sound)

pub segment_within : (gs : List Segment) (i : ℕ) (d : Segment) → AreSound gs → i < length gs → IsWithin (get_or gs i d)
segment_within gs i d sound lt = All-from_recursion IsWithin gs sound.within i d lt

pub ruleset places = (find_there, find_nowhere, put_there, put_between, set_sound, insert_sound, segment_within)

-- ## The newest
above_step : (a m : ℕ) (g : Segment) (b : Bool) (n : Option ℕ) → a < g.start → ((k : ℕ) → n ≡ Some k → a < k) → cond b (Some (max_or g.start n)) n ≡ Some m → a < m
above_step a m g true None l k h = let e : g.start ≡ m = cc in omega arith
above_step a m g true (Some x) l k h = let e : max g.start x ≡ m = cc in omega arith
above_step a m g false n l k h = k m h

newest_above : (gs : List Segment) (a m : ℕ) → AreAbove a gs → newest gs ≡ Some m → a < m
unfolding newest
newest_above [] a m p = λ h. cc
newest_above (g ∷ gs) a m p = above_step a m g (has_edit g) (newest gs) p.0 (λ k. newest_above gs a k p.1)

after_step : (m : ℕ) (g : Segment) (b : Bool) (n : Option ℕ) → n ≡ Some m → g.start < m → cond b (Some (max_or g.start n)) n ≡ Some m
after_step m g true None e l = absurd (cc)
after_step m g true (Some x) e l = let f : x ≡ m = cc in ap (λ k. let o : Option ℕ = Some k in o) (omega arith)
after_step m g false n e l = e

newest_after : (gs : List Segment) (i m : ℕ) → AreRising gs → newest (drop i gs) ≡ Some m → newest gs ≡ Some m
unfolding newest
newest_after [] zero m r h = h
newest_after [] (suc i) m r h = h
newest_after (g ∷ gs) zero m r h = h
newest_after (g ∷ gs) (suc i) m r h =
    let e : newest gs ≡ Some m = newest_after gs i m r.1 h in
    after_step m g (has_edit g) (newest gs) e (newest_above gs g.start m r.0 e)

newest_here : (g : Segment) (gs : List Segment) → has_edit g ≡ true → newest gs ≡ None → newest (g ∷ gs) ≡ Some g.start
unfolding newest
newest_here g gs e n = rw (e, n) refl

newest_skips : (g : Segment) (gs : List Segment) → has_edit g ≡ false → newest (g ∷ gs) ≡ newest gs
unfolding newest
newest_skips g gs e = rw e refl

pub newest_at : (gs : List Segment) (i : ℕ) (d : Segment) → AreSound gs → i < length gs → d ≡ get_or gs i d → has_edit d ≡ true → newest (drop (i + 1) gs) ≡ None → newest gs ≡ Some d.start
newest_at gs i d s l e h n =
    newest_after gs i d.start s.rising (ap newest (drop_more gs i d l ∙ ap (λ x. x ∷ drop (i + 1) gs) (sym e)) ∙ newest_here d (drop (i + 1) gs) h n)

pub newest_less : (gs : List Segment) (i : ℕ) (d : Segment) → i < length gs → d ≡ get_or gs i d → has_edit d ≡ false → newest (drop (i + 1) gs) ≡ None → newest (drop i gs) ≡ None
newest_less gs i d l e h n =
    ap newest (drop_more gs i d l ∙ ap (λ x. x ∷ drop (i + 1) gs) (sym e)) ∙ newest_skips d (drop (i + 1) gs) h ∙ n

pub newest_none : (gs : List Segment) (i : ℕ) → length gs ≤ i → newest (drop i gs) ≡ None
unfolding newest
newest_none gs i l = rw (drop_all i gs l) refl

pub ruleset newests = (newest_at, newest_less, newest_none)
