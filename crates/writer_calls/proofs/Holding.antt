-- What is held once a line is taken.
use Rattle.std.proofs.Common.{◌≡◌, ◌≢◌, ℕ, ◌+◌, ◌-◌, ◌<◌, ◌≤◌, ◌⊎◌, ◌&&◌, ◌==◌, not, nat_le, Bool, true, false, List, [], ◌∷◌, length, Option, Some, None, is_some, refl, sym, ap, ◌∙◌, arith, inl, inr}
use Rattle.std.proofs.lemmas.Bool.{cases_order, cases_eq, false≢true, and_parts, not-true, eqb-false, leb-true}
use Rattle.std.proofs.lemmas.Bool.Decides.{nat_tests}
use Rattle.base_words.proofs.StartLaws as starts
use Rattle.journal_core.specs.declared.segment.Segment.{Segment}
use Rattle.journal_core.specs.declared.segment_line.SegmentLine.{SegmentLine}
use Rattle.journal_core.specs.Segments.{find_segment, put_segment, AreRising}
use Rattle.journal_core.proofs.PlaceLaws.{by_segments}
use Rattle.journal_core.proofs.SegmentLists.{find-put_same, find-put_other}
use Rattle.writer_calls.specs.Told.{counts}
use Rattle.writer_calls.specs.Mirrors.{is_held, line_of, lines_of, hold_line}

-- ## Lines that count
pub counts_final : (l : SegmentLine) → counts l ≡ true → l.is_final ≡ true
counts_final l c = (and_parts l.is_final (not (l.start == 0) && nat_le l.start l.end) c).0

pub counts_some : (l : SegmentLine) → counts l ≡ true → 1 ≤ l.start
counts_some l c =
    let rest = (and_parts l.is_final (not (l.start == 0) && nat_le l.start l.end) c).1 in
    let some : l.start ≢ 0 = eqb-false l.start 0 (not-true (l.start == 0) (and_parts (not (l.start == 0)) (nat_le l.start l.end) rest).0) in
    omega (arith, some)

pub counts_line : (l : SegmentLine) → counts l ≡ true → l.start ≤ l.end
counts_line l c =
    let rest = (and_parts l.is_final (not (l.start == 0) && nat_le l.start l.end) c).1 in
    leb-true l.start l.end (and_parts (not (l.start == 0)) (nat_le l.start l.end) rest).1

abbrev as_line : ℕ → ℕ → Bool → ℕ → SegmentLine
as_line start end is_final epoch = record { start = start; end = end; is_final = is_final; epoch = epoch }

-- the segment that a line that was read whole becomes
abbrev pub held_as : SegmentLine → List (List ℕ) → Segment
held_as l bodies = record { start = l.start; epoch = l.epoch; bodies = bodies; is_final = true; accepted = false }

pub held_line : (l : SegmentLine) (bodies : List (List ℕ)) → counts l ≡ true → l.start + length bodies ≡ l.end + 1 → line_of (held_as l bodies) ≡ l
held_line l bodies c w =
    let end : l.start + length bodies - 1 ≡ l.end = omega (arith, w) in
    ap (λ e. as_line l.start e true l.epoch) end ∙ ap (λ b. as_line l.start l.end b l.epoch) (sym (counts_final l c))

-- ## One line more
hold_here : (l m : SegmentLine) (ls : List SegmentLine) → l.start ≡ m.start → hold_line (l ∷ ls) m ≡ l ∷ ls
unfolding hold_line
hold_here l m ls e = grind (arith, nat_tests)

hold_before : (l m : SegmentLine) (ls : List SegmentLine) → m.start < l.start → hold_line (l ∷ ls) m ≡ m ∷ l ∷ ls
unfolding hold_line
hold_before l m ls e = grind (arith, nat_tests)

hold_more : (l m : SegmentLine) (ls : List SegmentLine) → l.start < m.start → hold_line (l ∷ ls) m ≡ l ∷ hold_line ls m
unfolding hold_line
hold_more l m ls e = grind (arith, nat_tests)

-- a line whose start is held changes nothing
pub hold_held : (l : SegmentLine) (gs : List Segment) → AreRising gs → is_held l.start gs ≡ true → hold_line (lines_of gs) l ≡ lines_of gs
unfolding find_segment
hold_held l [] r h = absurd (false≢true h)
hold_held l (g ∷ gs) r h =
    elim (cases_order g.start l.start) [
      | inl e ↦ hold_here (line_of g) l (lines_of gs) e
      | inr q ↦ elim q [
        | inl lt ↦ hold_more (line_of g) l (lines_of gs) lt
            ∙ ap (λ (ls : List SegmentLine). line_of g ∷ ls) (hold_held l gs r.1 (ap is_some (sym (starts.find_on by_segments l.start g gs (λ e. omega (arith, e)))) ∙ h))
        | inr gt ↦ absurd (false≢true (ap is_some (sym (starts.find_above by_segments l.start (g ∷ gs) (gt, starts.Above-mono (λ (x : Segment). x.start) l.start g.start gs (omega arith) r.0))) ∙ h))
      ]
    ]

some≢none : {P : Type 0} (g : Segment) → ◌≡◌ {A = Option Segment} (Some g) None → P
some≢none g e = cc

-- a segment that isn't held yet is held by its line
pub hold_put : (g : Segment) (gs : List Segment) → find_segment g.start gs ≡ None → lines_of (put_segment g gs) ≡ hold_line (lines_of gs) (line_of g)
unfolding put_segment hold_line
hold_put g [] n = refl
hold_put g (x ∷ gs) n =
    elim (cases_order g.start x.start) [
      | inl e ↦ some≢none x (sym (starts.find_here by_segments g.start x gs (sym e)) ∙ n)
      | inr q ↦ elim q [
        | inl lt ↦ ap lines_of (starts.put_before by_segments g x gs lt) ∙ sym (hold_before (line_of x) (line_of g) (lines_of gs) lt)
        | inr gt ↦ ap lines_of (starts.put_on by_segments g x gs gt)
            ∙ ap (λ (ls : List SegmentLine). line_of x ∷ ls) (hold_put g gs (sym (starts.find_on by_segments g.start x gs (λ e. omega (arith, e))) ∙ n))
            ∙ sym (hold_more (line_of x) (line_of g) (lines_of gs) gt)
      ]
    ]

pub put_grows : (g : Segment) (gs : List Segment) → length gs ≤ length (put_segment g gs)
put_grows g [] = omega arith
put_grows g (x ∷ gs) =
    elim (cases_order g.start x.start) [
      | inl e ↦ rw (starts.put_here by_segments g x gs (sym e)) (omega arith)
      | inr q ↦ elim q [
        | inl lt ↦ rw (starts.put_before by_segments g x gs lt) (omega arith)
        | inr gt ↦ rw (starts.put_on by_segments g x gs gt) (omega (arith, put_grows g gs))
      ]
    ]

-- ## What was held
none_held : (start : ℕ) (gs : List Segment) → is_held start gs ≡ false → find_segment start gs ≡ None
none_held start gs h = go (find_segment start gs) h
  where
    go : (o : Option Segment) → is_some o ≡ false → o ≡ None
    go None e = refl
    go (Some g) e = absurd (false≢true (sym e))

pub not_there : (g : Segment) (gs : List Segment) → is_held g.start gs ≡ false → find_segment g.start gs ≡ None
not_there g gs h = none_held g.start gs h

pub put_kept : (new : Segment) (gs : List Segment) (start : ℕ) (g : Segment) → is_held new.start gs ≡ false → find_segment start gs ≡ Some g
    → find_segment start (put_segment new gs) ≡ Some g
put_kept new gs start g n e =
    elim (cases_eq new.start start) [
      | inl same ↦ some≢none g (sym e ∙ (ap (λ (s : ℕ). find_segment s gs) (sym same) ∙ none_held new.start gs n))
      | inr other ↦ find-put_other start new gs other ∙ e
    ]

pub put_found : (new : Segment) (gs : List Segment) (start : ℕ) (g : Segment) → find_segment start (put_segment new gs) ≡ Some g
    → (find_segment start gs ≡ Some g) ⊎ (g ≡ new)
put_found new gs start g e =
    elim (cases_eq new.start start) [
      | inl same ↦ inr (one_of g new (sym e ∙ (ap (λ (s : ℕ). find_segment s (put_segment new gs)) (sym same) ∙ find-put_same new gs)))
      | inr other ↦ inl (sym (find-put_other start new gs other) ∙ e)
    ]
  where
    one_of : (x y : Segment) → ◌≡◌ {A = Option Segment} (Some x) (Some y) → x ≡ y
    one_of x y f = cc

pub put_held : (new : Segment) (gs : List Segment) → is_held new.start (put_segment new gs) ≡ true
put_held new gs = ap is_some (find-put_same new gs)

-- what was held is held in each list that keeps it
pub held_later : (start : ℕ) (mid new : List Segment) → ((s : ℕ) (g : Segment) → find_segment s mid ≡ Some g → find_segment s new ≡ Some g)
    → is_held start mid ≡ true → is_held start new ≡ true
held_later start mid new kept h = go (find_segment start mid) refl h
  where
    go : (o : Option Segment) → find_segment start mid ≡ o → is_some o ≡ true → is_held start new ≡ true
    go None e i = absurd (false≢true i)
    go (Some g) e i = ap is_some (kept start g e)
