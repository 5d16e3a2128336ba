-- What comes of lines that were told, one after the other.
use Rattle.std.proofs.Common.{◌≡◌, ℕ, ◌+◌, ◌⊎◌, true, false, List, [], ◌∷◌, ◌++◌, length, map, filter, All, Contains, Option, Some, None, option_map, refl, sym, ap, ◌∙◌, subst, arith, inl, inr}
use Rattle.std.proofs.lemmas.Grind.{fold-append}
use Rattle.std.proofs.lemmas.List.{map-append}
use Rattle.std.proofs.lemmas.List.Elements.{All-nil, All-cons, All-append, All-weaker, Contains-append_left, Contains-append_right, Contains-get_or, filter-append, filter_map-append}
use Rattle.journal_core.specs.declared.peer_call.PeerCall.{PeerCall}
use Rattle.journal_core.specs.declared.segment.Segment.{Segment}
use Rattle.journal_core.specs.declared.segment_line.SegmentLine.{SegmentLine}
use Rattle.journal_core.specs.Segments.{find_segment, put_segment, AreRising}
use Rattle.writer_core.specs.declared.cause.Cause.{Cause}
use Rattle.writer_calls.specs.declared.synced.Missing.{Missing}
use Rattle.writer_calls.specs.declared.told.ToldLine.{ToldLine}
use Rattle.writer_calls.specs.Told.{counts}
use Rattle.writer_calls.specs.Fetching.{AreGiven, MakesReads, HasStopped, HasWhole}
use Rattle.writer_calls.specs.Mirrors.{is_held, lines_of, hold_line, hold_lines, LineOutcome, is_read, lines_read, missing_as, lines_stopped, IsOutcome, IsRead, Takes}
use Rattle.writer_calls.specs.Passing.{LinesBegun, LinesTaken}
use Rattle.writer_calls.proofs.CallLists.{given_left, given_right, stopped_left, stopped_right, made_none, made_on}
use Rattle.writer_calls.proofs.Holding.{held_as, held_line, hold_held, hold_put, put_grows, not_there, put_kept, put_found, put_held, held_later}

-- ## Of a longer list of lines and calls
abbrev Outcomes : List PeerCall → List Segment → List LineOutcome → Type 0
Outcomes calls held outcomes = All (λ (o : LineOutcome). IsOutcome calls held o.told o.stopped) outcomes

read_left : (s u : List ToldLine) (xs ys : List PeerCall) (g : Segment) → IsRead s xs g → IsRead (s ++ u) (xs ++ ys) g
read_left s u xs ys g h = record {
  node = h.node;
  is_told = Contains-append_left s u _ h.is_told;
  given = λ txid body has. given_left h.node xs ys txid body (h.given txid body has);
}

read_right : (s u : List ToldLine) (xs ys : List PeerCall) (g : Segment) → IsRead u ys g → IsRead (s ++ u) (xs ++ ys) g
read_right s u xs ys g h = record {
  node = h.node;
  is_told = Contains-append_right s u _ h.is_told;
  given = λ txid body has. given_right h.node xs ys txid body (h.given txid body has);
}

outcome_left : (xs ys : List PeerCall) (mid new : List Segment) (t : ToldLine) (c : Option Cause) → ((s : ℕ) (g : Segment) → find_segment s mid ≡ Some g → find_segment s new ≡ Some g)
    → IsOutcome xs mid t c → IsOutcome (xs ++ ys) new t c
outcome_left xs ys mid new t None kept h = held_later t.line.start mid new kept h
outcome_left xs ys mid new t (Some c) kept h = stopped_left t.node t.line.start t.line.end xs ys c h

outcome_right : (xs ys : List PeerCall) (new : List Segment) (t : ToldLine) (c : Option Cause) → IsOutcome ys new t c → IsOutcome (xs ++ ys) new t c
outcome_right xs ys new t None h = h
outcome_right xs ys new t (Some c) h = stopped_right t.node t.line.start t.line.end xs ys c h

lines_read_append : (os ps : List LineOutcome) → lines_read (os ++ ps) ≡ lines_read os ++ lines_read ps
lines_read_append os ps =
    ap (map (λ (o : LineOutcome). o.told.line)) (filter-append is_read os ps) ∙ map-append (λ (o : LineOutcome). o.told.line) (filter is_read os) (filter is_read ps)

-- ## Nothing, and one after the other
pub takes_idle : (told : List ToldLine) (calls : List PeerCall) (gs : List Segment) → Takes told calls [] gs gs
takes_idle told calls gs = record {
  kept = λ start g e. e;
  came = λ start g e. inl e;
  lines = refl;
  each = All-nil (λ (o : LineOutcome). IsOutcome calls gs o.told o.stopped);
  grows = omega arith;
}

came_before : (s u : List ToldLine) (xs ys : List PeerCall) (old : List Segment) (start : ℕ) (g : Segment) → (find_segment start old ≡ Some g) ⊎ IsRead s xs g
    → (find_segment start old ≡ Some g) ⊎ IsRead (s ++ u) (xs ++ ys) g
came_before s u xs ys old start g (inl e) = inl e
came_before s u xs ys old start g (inr r) = inr (read_left s u xs ys g r)

came_next : (s u : List ToldLine) (xs ys : List PeerCall) (os : List LineOutcome) (old mid : List Segment) (start : ℕ) (g : Segment) → Takes s xs os old mid
    → (find_segment start mid ≡ Some g) ⊎ IsRead u ys g → (find_segment start old ≡ Some g) ⊎ IsRead (s ++ u) (xs ++ ys) g
came_next s u xs ys os old mid start g a (inl e) = came_before s u xs ys old start g (a.came start g e)
came_next s u xs ys os old mid start g a (inr r) = inr (read_right s u xs ys g r)

pub takes_on : (s u : List ToldLine) (xs ys : List PeerCall) (os ps : List LineOutcome) (old mid new : List Segment) → Takes s xs os old mid → Takes u ys ps mid new
    → Takes (s ++ u) (xs ++ ys) (os ++ ps) old new
takes_on s u xs ys os ps old mid new a b = record {
  kept = λ start g e. b.kept start g (a.kept start g e);
  came = λ start g e. came_next s u xs ys os old mid start g a (b.came start g e);
  lines = b.lines ∙ ap (λ (ls : List SegmentLine). hold_lines ls (lines_read ps)) a.lines
      ∙ sym (fold-append hold_line (lines_of old) (lines_read os) (lines_read ps))
      ∙ ap (λ (ls : List SegmentLine). hold_lines (lines_of old) ls) (sym (lines_read_append os ps));
  each = All-append (λ (o : LineOutcome). IsOutcome (xs ++ ys) new o.told o.stopped) os ps
      (All-weaker (λ (o : LineOutcome). IsOutcome xs mid o.told o.stopped) (λ (o : LineOutcome). IsOutcome (xs ++ ys) new o.told o.stopped)
      (λ o h. outcome_left xs ys mid new o.told o.stopped b.kept h) os a.each)
      (All-weaker (λ (o : LineOutcome). IsOutcome ys new o.told o.stopped) (λ (o : LineOutcome). IsOutcome (xs ++ ys) new o.told o.stopped)
      (λ o h. outcome_right xs ys new o.told o.stopped h) ps b.each);
  grows = omega (arith, a.grows, b.grows);
}

came_wider : (s u : List ToldLine) (xs : List PeerCall) (old : List Segment) (start : ℕ) (g : Segment) → (find_segment start old ≡ Some g) ⊎ IsRead s xs g
    → (find_segment start old ≡ Some g) ⊎ IsRead (s ++ u) xs g
came_wider s u xs old start g (inl e) = inl e
came_wider s u xs old start g (inr r) = inr (record { node = r.node; is_told = Contains-append_left s u _ r.is_told; given = r.given })

pub takes_wider : (s u : List ToldLine) (xs : List PeerCall) (os : List LineOutcome) (old new : List Segment) → Takes s xs os old new → Takes (s ++ u) xs os old new
takes_wider s u xs os old new a = record {
  kept = a.kept;
  came = λ start g e. came_wider s u xs old start g (a.came start g e);
  lines = a.lines;
  each = a.each;
  grows = a.grows;
}

-- ## One line
abbrev as_outcome : ToldLine → Option Cause → LineOutcome
as_outcome t c = record { told = t; stopped = c }

one_outcome : (calls : List PeerCall) (held : List Segment) (t : ToldLine) (c : Option Cause) → IsOutcome calls held t c → Outcomes calls held (as_outcome t c ∷ [])
one_outcome calls held t c h =
    All-cons (λ (o : LineOutcome). IsOutcome calls held o.told o.stopped) (as_outcome t c) [] h (All-nil (λ (o : LineOutcome). IsOutcome calls held o.told o.stopped))

-- it was held
pub taken_held : (t : ToldLine) (calls : List PeerCall) (gs : List Segment) → AreRising gs → is_held t.line.start gs ≡ true → LinesTaken (t ∷ []) calls calls gs gs []
taken_held t calls gs r h = record {
  begun = record {
    made = made_none calls;
    outcomes = as_outcome t None ∷ [];
    takes = record {
      kept = λ start g e. e;
      came = λ start g e. inl e;
      lines = sym (hold_held t.line gs r h);
      each = one_outcome [] gs t None h;
      grows = omega arith;
    };
  };
  each_line = refl;
  stops = refl;
}

whole_came : (t : ToldLine) (calls : List PeerCall) (gs : List Segment) (bodies : List (List ℕ)) (start : ℕ) (g : Segment) → counts t.line ≡ true
    → t.line.start + length bodies ≡ t.line.end + 1 → AreGiven t.node calls t.line.start bodies
    → (find_segment start gs ≡ Some g) ⊎ (g ≡ held_as t.line bodies) → (find_segment start gs ≡ Some g) ⊎ IsRead (t ∷ []) calls g
whole_came t calls gs bodies start g c w given (inl e) = inl e
whole_came t calls gs bodies start g c w given (inr e) =
    inr (subst (λ (x : Segment). IsRead (t ∷ []) calls x) (sym e) (record {
      node = t.node;
      is_told = subst (λ (l : SegmentLine). Contains (t ∷ []) (record { node = t.node; line = l })) (sym (held_line t.line bodies c w)) (Contains-get_or (t ∷ []) 0 t (omega arith));
      given = given;
    }))

-- it was read whole
pub taken_whole : (t : ToldLine) (before after : List PeerCall) (gs new : List Segment) (bodies : List (List ℕ)) → counts t.line ≡ true → is_held t.line.start gs ≡ false
    → HasWhole t.node t.line.start t.line.end before after bodies → new ≡ put_segment (held_as t.line bodies) gs → LinesTaken (t ∷ []) before after gs new []
taken_whole t before after gs new bodies c n h e = record {
  begun = record {
    made = h.fetched.made;
    outcomes = as_outcome t None ∷ [];
    takes = subst (λ (hs : List Segment). Takes (t ∷ []) h.fetched.made.added (as_outcome t None ∷ []) gs hs) (sym e) (record {
      kept = λ start g f. put_kept (held_as t.line bodies) gs start g n f;
      came = λ start g f. whole_came t h.fetched.made.added gs bodies start g c h.whole h.fetched.given (put_found (held_as t.line bodies) gs start g f);
      lines = hold_put (held_as t.line bodies) gs (not_there (held_as t.line bodies) gs n) ∙ ap (λ (l : SegmentLine). hold_line (lines_of gs) l) (held_line t.line bodies c h.whole);
      each = one_outcome h.fetched.made.added (put_segment (held_as t.line bodies) gs) t None (put_held (held_as t.line bodies) gs);
      grows = put_grows (held_as t.line bodies) gs;
    });
  };
  each_line = refl;
  stops = refl;
}

-- the node stopped
pub taken_stopped : (t : ToldLine) (before after : List PeerCall) (gs : List Segment) (cause : Cause) → HasStopped t.node t.line.start t.line.end before after cause
    → LinesTaken (t ∷ []) before after gs gs (missing_as t cause ∷ [])
taken_stopped t before after gs cause h = record {
  begun = record {
    made = h.made;
    outcomes = as_outcome t (Some cause) ∷ [];
    takes = record {
      kept = λ start g e. e;
      came = λ start g e. inl e;
      lines = refl;
      each = one_outcome h.made.added gs t (Some cause) h.stopped;
      grows = omega arith;
    };
  };
  each_line = refl;
  stops = refl;
}

-- memory was wanting
pub begun_reads : (lines : List ToldLine) (before after : List PeerCall) (old new : List Segment) → MakesReads before after → new ≡ old → LinesBegun lines before after old new
begun_reads lines before after old new h e = record {
  made = h;
  outcomes = [];
  takes = subst (λ (gs : List Segment). Takes lines h.added [] old gs) (sym e) (takes_idle lines h.added old);
}

-- ## Lines one after the other
pub taken_none : (calls : List PeerCall) (gs : List Segment) (stopped : List Missing) → stopped ≡ [] → LinesTaken [] calls calls gs gs stopped
taken_none calls gs stopped e = record {
  begun = record { made = made_none calls; outcomes = []; takes = takes_idle [] [] gs };
  each_line = refl;
  stops = e;
}

abbrev pub begun_on : (s u : List ToldLine) (a b c : List PeerCall) (old mid new : List Segment) → LinesBegun s a b old mid → LinesBegun u b c mid new → LinesBegun (s ++ u) a c old new
begun_on s u a b c old mid new h k = record {
  made = made_on a b c h.made k.made;
  outcomes = h.outcomes ++ k.outcomes;
  takes = takes_on s u h.made.added k.made.added h.outcomes k.outcomes old mid new h.takes k.takes;
}

pub begun_wider : (s u : List ToldLine) (a b : List PeerCall) (old new : List Segment) → LinesBegun s a b old new → LinesBegun (s ++ u) a b old new
begun_wider s u a b old new h = record { made = h.made; outcomes = h.outcomes; takes = takes_wider s u h.made.added h.outcomes old new h.takes }

abbrev stop_of : LineOutcome → Option Missing
stop_of o = option_map (missing_as o.told) o.stopped

pub stops_append : (os ps : List LineOutcome) → lines_stopped (os ++ ps) ≡ lines_stopped os ++ lines_stopped ps
stops_append os ps = filter_map-append stop_of os ps

pub taken_on : (s u : List ToldLine) (a b c : List PeerCall) (old mid new : List Segment) (xs ys all : List Missing) → LinesTaken s a b old mid xs → LinesTaken u b c mid new ys → all ≡ xs ++ ys
    → LinesTaken (s ++ u) a c old new all
taken_on s u a b c old mid new xs ys all h k e = record {
  begun = begun_on s u a b c old mid new h.begun k.begun;
  each_line = map-append (λ (o : LineOutcome). o.told) h.begun.outcomes k.begun.outcomes
      ∙ ap (λ (ts : List ToldLine). ts ++ map (λ (o : LineOutcome). o.told) k.begun.outcomes) h.each_line ∙ ap (λ (ts : List ToldLine). s ++ ts) k.each_line;
  stops = e ∙ ap (λ (ms : List Missing). ms ++ ys) h.stops ∙ ap (λ (ms : List Missing). lines_stopped h.begun.outcomes ++ ms) k.stops ∙ sym (stops_append h.begun.outcomes k.begun.outcomes);
}
