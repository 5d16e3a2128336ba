-- What a node that is up tells of its segments, and gives of them.
use Rattle.std.proofs.Common.{◌≡◌, ◌≢◌, ℕ, ◌+◌, ◌-◌, ◌<◌, ◌≤◌, ◌&&◌, ◌==◌, not, nat_le, nat_lt, Bool, true, false, cond, List, [], ◌∷◌, length, filter, count_by, drop}
use Rattle.std.proofs.Common.{get_or, zero, suc, Contains, Option, Some, None, refl, sym, ap, ◌∙◌, subst, arith}
use Rattle.std.proofs.lemmas.Bool.{and_left, and_from, and_parts, not_from_false, ne_eqb, le-leb, le-ltb, lt-ltb, cond-true, cond-false, false≢true}
use Rattle.std.proofs.lemmas.List.{length-map}
use Rattle.std.proofs.lemmas.List.Elements.{All-head, All-tail}
use Rattle.std.proofs.lemmas.List.Sums.{length-filter}
use Rattle.journal_core.specs.Limits.{limit_of}
use Rattle.journal_core.specs.Reads.{manifest_of, serving, served, edits_from, answer_from, or_else}
use Rattle.journal_core.specs.Segments.{any_body, has_edit, end_of}
use Rattle.journal_core.specs.Step.{node_step, unless_limited, unless_refused}
use Rattle.journal_core.specs.declared.heard.Heard.TheVariants.{Answer}
use Rattle.journal_core.specs.declared.node_state.NodeState.{NodeState}
use Rattle.journal_core.specs.declared.refusal.Refusal.TheVariants.{Down}
use Rattle.journal_core.specs.declared.reply.Reply.{Reply}
use Rattle.journal_core.specs.declared.reply.Reply.TheVariants as reply
use Rattle.journal_core.specs.declared.request.Request.{Request}
use Rattle.journal_core.specs.declared.request.Request.TheVariants.{Read, Manifest}
use Rattle.journal_core.specs.declared.segment.Segment.{Segment}
use Rattle.journal_core.specs.declared.segment_line.SegmentLine.{SegmentLine}
use Rattle.writer_core.specs.declared.cause.Cause.TheVariants as cause
use Rattle.writer_calls.specs.Told.{counts, lines_heard, node_told}
use Rattle.writer_calls.specs.Fetching.{gives_edits}
use Rattle.writer_calls.specs.Mirrors.{line_of, lines_of}
use Rattle.writer_calls.specs.States.{is_final_with_edit, finals_of, told_by, IsNumbered, AreNumbered}

-- ## The lines that count are those of final segments with an edit
some_bodies : (bodies : List (List ℕ)) → any_body bodies ≡ true → 1 ≤ length bodies
some_bodies [] e = absurd (false≢true e)
some_bodies (b ∷ bs) e = omega arith

final_counts : (g : Segment) → g.is_final ≡ true → has_edit g ≡ true → IsNumbered g → counts (line_of g) ≡ true
final_counts g f e n =
    let some : 1 ≤ length g.bodies = some_bodies g.bodies e in
    let start : g.start ≢ 0 = λ z. omega (arith, n.0, z) in
    let order : g.start ≤ end_of g = omega (arith, some) in
    and_from g.is_final (not (g.start == 0) && nat_le g.start (end_of g)) f
    (and_from (not (g.start == 0)) (nat_le g.start (end_of g)) (not_from_false (g.start == 0) (ne_eqb g.start 0 start)) (le-leb g.start (end_of g) order))

counts_as : (g : Segment) → has_edit g ≡ true → (is_final_with_edit g ≡ true → IsNumbered g) → counts (line_of g) ≡ is_final_with_edit g
counts_as g e n = go g.is_final refl
  where
    go : (b : Bool) → g.is_final ≡ b → counts (line_of g) ≡ is_final_with_edit g
    go false f = and_left g.is_final (not (g.start == 0) && nat_le g.start (end_of g)) f ∙ sym (and_left g.is_final (has_edit g) f)
    go true f = let both = and_from g.is_final (has_edit g) f e in final_counts g f e (n both) ∙ sym both

and_none : (a b : Bool) → b ≡ false → (a && b) ≡ false
and_none true b e = e
and_none false b e = refl

filter_same : {X : Type 0} (p : X → Bool) (x : X) (b : Bool) (xs : List X) → p x ≡ b → filter p (x ∷ xs) ≡ cond b (x ∷ filter p xs) (filter p xs)
filter_same p x b xs e = ap (λ (c : Bool). cond c (x ∷ filter p xs) (filter p xs)) e

lines_step : (g : Segment) (gs : List Segment) → (is_final_with_edit g ≡ true → IsNumbered g) → filter counts (manifest_of gs) ≡ lines_of (filter is_final_with_edit gs)
    → filter counts (manifest_of (g ∷ gs)) ≡ lines_of (filter is_final_with_edit (g ∷ gs))
unfolding manifest_of
lines_step g gs n h = go (has_edit g) refl
  where
    told : (b : Bool) → is_final_with_edit g ≡ b → has_edit g ≡ true → filter counts (line_of g ∷ manifest_of gs) ≡ lines_of (filter is_final_with_edit (g ∷ gs))
    told true f e = filter_same counts (line_of g) true (manifest_of gs) (counts_as g e n ∙ f)
        ∙ ap (λ (ls : List SegmentLine). line_of g ∷ ls) h ∙ ap lines_of (sym (filter_same is_final_with_edit g true gs f))
    told false f e = filter_same counts (line_of g) false (manifest_of gs) (counts_as g e n ∙ f) ∙ h ∙ ap lines_of (sym (filter_same is_final_with_edit g false gs f))

    go : (b : Bool) → has_edit g ≡ b → filter counts (manifest_of (g ∷ gs)) ≡ lines_of (filter is_final_with_edit (g ∷ gs))
    go true e = ap (filter counts) (cond-true (has_edit g) (line_of g ∷ manifest_of gs) (manifest_of gs) e) ∙ told (is_final_with_edit g) refl e
    go false e = ap (filter counts) (cond-false (has_edit g) (line_of g ∷ manifest_of gs) (manifest_of gs) e) ∙ h
        ∙ ap lines_of (sym (filter_same is_final_with_edit g false gs (and_none g.is_final (has_edit g) e)))

pub manifest_finals : (gs : List Segment) → AreNumbered gs → filter counts (manifest_of gs) ≡ lines_of (filter is_final_with_edit gs)
unfolding manifest_of
manifest_finals [] n = refl
manifest_finals (g ∷ gs) n =
    lines_step g gs (All-head (λ (x : Segment). is_final_with_edit x ≡ true → IsNumbered x) g gs n)
    (manifest_finals gs (All-tail (λ (x : Segment). is_final_with_edit x ≡ true → IsNumbered x) g gs n))

manifest_count : (gs : List Segment) → AreNumbered gs → count_by counts (manifest_of gs) ≡ count_by is_final_with_edit gs
manifest_count gs n =
    sym (length-filter counts (manifest_of gs)) ∙ ap length (manifest_finals gs n) ∙ length-map (filter is_final_with_edit gs) line_of ∙ length-filter is_final_with_edit gs

-- ## What it answers
abbrev up_or_down : NodeState → Request → Bool → Reply
up_or_down s r b = (unless_refused s r (cond b None (Some Down))).reply

manifest_step : (s : NodeState) → (node_step s Manifest).reply ≡ up_or_down s Manifest s.up
unfolding node_step limit_of
manifest_step s = refl

pub manifest_up : (s : NodeState) → s.up ≡ true → (node_step s Manifest).reply ≡ reply.Segments (manifest_of s.segments)
manifest_up s e = manifest_step s ∙ ap (up_or_down s Manifest) e

pub manifest_down : (s : NodeState) → s.up ≡ false → (node_step s Manifest).reply ≡ reply.Refused Down
manifest_down s e = manifest_step s ∙ ap (up_or_down s Manifest) e

pub told_is : (s : NodeState) → (s.up ≡ true → AreNumbered s.segments) → node_told (Answer (node_step s Manifest).reply) ≡ told_by s
told_is s n = go s.up refl
  where
    go : (b : Bool) → s.up ≡ b → node_told (Answer (node_step s Manifest).reply) ≡ told_by s
    go true e =
        ap (λ (r : Reply). node_told (Answer r)) (manifest_up s e) ∙ ap (λ (k : ℕ). record { cause = cause.Ok; lines = k }) (manifest_count s.segments (n e))
        ∙ sym (cond-true s.up _ _ e)
    go false e = ap (λ (r : Reply). node_told (Answer r)) (manifest_down s e) ∙ sym (cond-false s.up _ _ e)

pub lines_are : (s : NodeState) → (s.up ≡ true → AreNumbered s.segments) → filter counts (lines_heard (Answer (node_step s Manifest).reply)) ≡ lines_of (finals_of s)
lines_are s n = go s.up refl
  where
    go : (b : Bool) → s.up ≡ b → filter counts (lines_heard (Answer (node_step s Manifest).reply)) ≡ lines_of (finals_of s)
    go true e =
        ap (λ (r : Reply). filter counts (lines_heard (Answer r))) (manifest_up s e) ∙ manifest_finals s.segments (n e)
        ∙ ap lines_of (sym (cond-true s.up (filter is_final_with_edit s.segments) [] e))
    go false e = ap (λ (r : Reply). filter counts (lines_heard (Answer r))) (manifest_down s e) ∙ ap lines_of (sym (cond-false s.up (filter is_final_with_edit s.segments) [] e))

-- ## What it gives of them
limit_none : (from : ℕ) → nat_lt 4611686018427387904 from ≡ false → limit_of (Read from) ≡ None
unfolding limit_of
limit_none from small = rw small refl

pub read_up : (s : NodeState) (from : ℕ) → from ≤ 4611686018427387904 → s.up ≡ true → (node_step s (Read from)).reply ≡ edits_from s from
unfolding node_step
read_up s from small e =
    ap (λ (b : Bool). (unless_refused s (Read from) (cond b (unless_limited (limit_of (Read from)) None) (Some Down))).reply) e
    ∙ ap (λ (o : Option ℕ). (unless_refused s (Read from) (unless_limited o None)).reply) (limit_none from (le-ltb 4611686018427387904 from small))

-- a final segment serves all of its txids
served_final : (s : NodeState) (g : Segment) → g.is_final ≡ true → served s g ≡ g.bodies
served_final s g f = cond-true g.is_final g.bodies _ f

abbrev IsServed : Option (List (List ℕ)) → Type 0
IsServed o = (bodies : List (List ℕ)) × (o ≡ Some bodies)

or_first : (o p : Option (List (List ℕ))) → IsServed o → IsServed (or_else o p)
or_first o p h = (h.0, ap (λ (x : Option (List (List ℕ))). or_else x p) h.1)

or_second : (o p : Option (List (List ℕ))) → IsServed p → IsServed (or_else o p)
or_second None p h = h
or_second (Some x) p h = (x, refl)

serving_here : (s : NodeState) (from : ℕ) (g : Segment) (gs : List Segment) → g.is_final ≡ true → g.start ≤ from → from < g.start + length g.bodies → IsServed (serving s from (g ∷ gs))
unfolding serving
serving_here s from g gs f low high =
    let top : from < g.start + length (served s g) = omega (arith, high, ap length (served_final s g f)) in
    let here : (nat_le g.start from && nat_lt from (g.start + length (served s g))) ≡ true =
    and_from (nat_le g.start from) (nat_lt from (g.start + length (served s g))) (le-leb g.start from low) (lt-ltb from (g.start + length (served s g)) top) in
    or_second (serving s from gs) _ (drop (from - g.start) (served s g), cond-true _ _ _ here)

serving_later : (s : NodeState) (from : ℕ) (g : Segment) (gs : List Segment) → IsServed (serving s from gs) → IsServed (serving s from (g ∷ gs))
unfolding serving
serving_later s from g gs h = or_first (serving s from gs) _ h

serving_at : (s : NodeState) (from k : ℕ) (gs : List Segment) (g : Segment) → k < length gs → get_or gs k g ≡ g → g.is_final ≡ true → g.start ≤ from → from < g.start + length g.bodies
    → IsServed (serving s from gs)
serving_at s from k [] g l e f low high = absurd (omega arith)
serving_at s from zero (x ∷ gs) g l e f low high =
    subst (λ (y : Segment). IsServed (serving s from (y ∷ gs))) (sym e) (serving_here s from g gs f low high)
serving_at s from (suc k) (x ∷ gs) g l e f low high = serving_later s from x gs (serving_at s from k gs g (omega arith) e f low high)

edits_given : (s : NodeState) (from : ℕ) → IsServed (serving s from s.segments) → gives_edits (Answer (edits_from s from)) ≡ true
unfolding edits_from
edits_given s from h = ap (λ (o : Option (List (List ℕ))). gives_edits (Answer (answer_from s from o))) h.1

-- so a read within the line of a final segment gives edits
pub final_given : (s : NodeState) (g : Segment) (from : ℕ) → Contains s.segments g → is_final_with_edit g ≡ true → s.up ≡ true → IsNumbered g → g.start ≤ from → from ≤ end_of g
    → gives_edits (Answer (node_step s (Read from)).reply) ≡ true
final_given s g from c f up n low high =
    let parts = and_parts g.is_final (has_edit g) f in
    let some : 1 ≤ length g.bodies = some_bodies g.bodies parts.1 in
    let top : from < g.start + length g.bodies = omega (arith, some, high) in
    let within : g.start + length g.bodies ≤ 4611686018427387905 = n.1 in
    ap (λ (r : Reply). gives_edits (Answer r)) (read_up s from (omega (arith, top, within)) up)
    ∙ edits_given s from (serving_at s from c.0 s.segments g c.1 c.2 parts.0 low top)
