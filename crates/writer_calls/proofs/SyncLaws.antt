-- What a whole pass answers.
use Rattle.std.proofs.Common.{◌≡◌, ℕ, zero, suc, ◌+◌, ◌<◌, ◌⊎◌, Bool, true, false, cond, not, List, [], ◌∷◌, ◌++◌, length, map, filter, drop, get_or, All, Contains}
use Rattle.std.proofs.Common.{Option, Some, None, refl, sym, ap, ◌∙◌, subst, inl, inr, arith}
use Rattle.std.proofs.lemmas.Bool.{cond_both, cond-true, not_from_true, not_from_false, not-true, true≢false, cases_Bool}
use Rattle.std.proofs.lemmas.List.{drop_at, length-map, get_or-map}
use Rattle.std.proofs.lemmas.List.Elements.{All-nil, All-cons, All-head, All-tail, All-filter, All-map, All-weaker, All-contains, filter_passes, Contains-append_right}
use Rattle.journal_core.specs.Segments.{find_segment, HasAt}
use Rattle.journal_core.specs.declared.peer_call.PeerCall.{PeerCall}
use Rattle.journal_core.specs.declared.request.Request.TheVariants.{Read}
use Rattle.journal_core.specs.declared.segment.Segment.{Segment}
use Rattle.writer_core.specs.declared.cause.Cause.{Cause}
use Rattle.writer_calls.specs.declared.synced.Missing.{Missing}
use Rattle.writer_calls.specs.declared.synced.Synced.{Synced}
use Rattle.writer_calls.specs.declared.told.ToldLine.{ToldLine}
use Rattle.writer_calls.specs.Told.{lines_told, numbered}
use Rattle.writer_calls.specs.Fetching.{IsStopped, IsGiven}
use Rattle.writer_calls.specs.Logs.{MirroredBy, AgreeWith, made_since}
use Rattle.writer_calls.specs.Mirrors.{is_held, LineOutcome, missing_as, lines_stopped, IsOutcome, IsRead, unheld, place_of, place_missing, Passes, IsSynced}
use Rattle.writer_calls.specs.Passing.{NodesTaken}
use Rattle.writer_calls.specs.HeldOrMissing.{LinesAreHeldOrMissing}

abbrev pub is_missing : List Segment → Missing → Bool
is_missing new m = not (is_held m.start new)

-- ## What is missing
one_missing : (t : ToldLine) (c : Cause) (new : List Segment) (ms : List Missing) (ts : List ToldLine) → map place_missing (filter (is_missing new) ms) ≡ map place_of (unheld new ts)
    → map place_missing (filter (is_missing new) (missing_as t c ∷ ms)) ≡ map place_of (unheld new (t ∷ ts))
one_missing t c new ms ts h =
    cases (not (is_held t.line.start new))
  where
    cases : (b : Bool) → map place_missing (cond b (missing_as t c ∷ filter (is_missing new) ms) (filter (is_missing new) ms)) ≡ map place_of (cond b (t ∷ unheld new ts) (unheld new ts))
    cases true = ap (λ (ps : List (ℕ × ℕ × ℕ)). place_of t ∷ ps) h
    cases false = h

one_held : (t : ToldLine) (new : List Segment) (ts : List ToldLine) → is_held t.line.start new ≡ true → unheld new (t ∷ ts) ≡ unheld new ts
one_held t new ts h = ap (λ (b : Bool). cond b (t ∷ unheld new ts) (unheld new ts)) (not_from_true (is_held t.line.start new) h)

one_outcome : (calls : List PeerCall) (new : List Segment) (t : ToldLine) (o : Option Cause) (os : List LineOutcome) (ts : List ToldLine) → IsOutcome calls new t o
    → map place_missing (filter (is_missing new) (lines_stopped os)) ≡ map place_of (unheld new ts)
    → map place_missing (filter (is_missing new) (lines_stopped (record { told = t; stopped = o } ∷ os))) ≡ map place_of (unheld new (t ∷ ts))
one_outcome calls new t None os ts out h = h ∙ ap (map place_of) (sym (one_held t new ts out))
one_outcome calls new t (Some c) os ts out h = one_missing t c new (lines_stopped os) ts h

pub missing_are : (calls : List PeerCall) (new : List Segment) (os : List LineOutcome) → All (λ o. IsOutcome calls new o.told o.stopped) os
    → map place_missing (filter (is_missing new) (lines_stopped os)) ≡ map place_of (unheld new (map (λ o. o.told) os))
missing_are calls new [] h = refl
missing_are calls new (o ∷ os) h =
    one_outcome calls new o.told o.stopped os (map (λ (x : LineOutcome). x.told) os) (All-head (λ (x : LineOutcome). IsOutcome calls new x.told x.stopped) o os h)
    (missing_are calls new os (All-tail (λ (x : LineOutcome). IsOutcome calls new x.told x.stopped) o os h))

abbrev StopsAt : List PeerCall → Missing → Type 0
StopsAt calls m = IsStopped m.node m.start m.end calls m.cause

one_stop : (calls : List PeerCall) (new : List Segment) (t : ToldLine) (o : Option Cause) (os : List LineOutcome) → IsOutcome calls new t o → All (StopsAt calls) (lines_stopped os)
    → All (StopsAt calls) (lines_stopped (record { told = t; stopped = o } ∷ os))
one_stop calls new t None os out h = h
one_stop calls new t (Some c) os out h = All-cons (StopsAt calls) (missing_as t c) (lines_stopped os) out h

stops_are : (calls : List PeerCall) (new : List Segment) (os : List LineOutcome) → All (λ o. IsOutcome calls new o.told o.stopped) os → All (StopsAt calls) (lines_stopped os)
stops_are calls new [] h = All-nil (StopsAt calls)
stops_are calls new (o ∷ os) h =
    one_stop calls new o.told o.stopped os (All-head (λ (x : LineOutcome). IsOutcome calls new x.told x.stopped) o os h)
    (stops_are calls new os (All-tail (λ (x : LineOutcome). IsOutcome calls new x.told x.stopped) o os h))

pub is_synced : (nodes : ℕ) (before after : List PeerCall) (old new : List Segment) (stopped : List Missing) (s : Synced) → NodesTaken (numbered 1 s.heard.items) before after old new stopped
    → length s.heard.items ≡ nodes → s.missing.items ≡ filter (is_missing new) stopped → length new ≡ length old + s.begun → IsSynced nodes before after old new s
is_synced nodes before after old new stopped s h all is begun = record {
  passes = h.passes;
  asked = h.asked_are;
  all = all;
  each_line = h.each_line;
  missing = ap (λ (ms : List Missing). map place_missing ms) (is ∙ ap (filter (is_missing new)) h.stops)
      ∙ missing_are h.passes.added new h.passes.outcomes h.passes.takes.each ∙ ap (λ (ts : List ToldLine). map place_of (unheld new ts)) h.each_line;
  stopped = subst (λ (ms : List Missing). All (StopsAt h.passes.added) ms) (sym is)
      (All-filter (is_missing new) (StopsAt h.passes.added) stopped
      (subst (λ (ms : List Missing). All (StopsAt h.passes.added) ms) (sym h.stops) (stops_are h.passes.added new h.passes.outcomes h.passes.takes.each)));
  begun = begun;
}

-- ## Whose the bodies are
came_mirrored : (L : ℕ → List ℕ → Type 0) (told : List ToldLine) (calls : List PeerCall) (old : List Segment) (start txid : ℕ) (g : Segment) (body : List ℕ) → AgreeWith L calls → MirroredBy L old
    → HasAt g txid body → (find_segment start old ≡ Some g) ⊎ IsRead told calls g → L txid body
came_mirrored L told calls old start txid g body agree m has (inl e) = m start txid g body e has
came_mirrored L told calls old start txid g body agree m has (inr r) =
    let given : IsGiven r.node calls txid body = r.given txid body has in agree r.node txid (Read given.from) given.batch body given.call given.has

pub passes_mirrored : (L : ℕ → List ℕ → Type 0) (before after : List PeerCall) (old new : List Segment) (p : Passes before after old new) → AgreeWith L p.added → MirroredBy L old → MirroredBy L new
passes_mirrored L before after old new p agree m start txid g body e has =
    came_mirrored L _ p.added old start txid g body agree m has (p.takes.came start g e)

since_is : (before after added : List PeerCall) → after ≡ before ++ added → made_since before after ≡ added
since_is before after added e = ap (drop (length before)) e ∙ drop_at before added (length before) refl

pub since_mirrored : (L : ℕ → List ℕ → Type 0) (before after : List PeerCall) (old new : List Segment) (p : Passes before after old new) → AgreeWith L (made_since before after) → MirroredBy L old
    → MirroredBy L new
since_mirrored L before after old new p agree m =
    passes_mirrored L before after old new p (subst (λ (cs : List PeerCall). AgreeWith L cs) (since_is before after p.added p.calls) agree) m

-- ## Held or missing, and not both
place_there : (places : List (ℕ × ℕ × ℕ)) (new : List Segment) (ts : List ToldLine) (t : ToldLine) → places ≡ map place_of (unheld new ts) → Contains places (place_of t)
    → is_held t.line.start new ≡ false
place_there places new ts t e h =
    let P : ℕ × ℕ × ℕ → Type 0 = λ p. is_held p.1 new ≡ false in
    All-contains P places (place_of t)
    (subst (λ (ps : List (ℕ × ℕ × ℕ)). All P ps) (sym e)
    (All-map P place_of (unheld new ts) (All-weaker (λ (x : ToldLine). not (is_held x.line.start new) ≡ true) (λ (x : ToldLine). is_held x.line.start new ≡ false)
    (λ x q. not-true (is_held x.line.start new) q) (unheld new ts) (filter_passes (λ (x : ToldLine). not (is_held x.line.start new)) ts)))) h

kept_here : (p : ToldLine → Bool) (x t : ToldLine) (xs : List ToldLine) → p t ≡ true → x ≡ t → Contains (filter p (x ∷ xs)) t
kept_here p x t xs ok e = subst (λ (zs : List ToldLine). Contains zs t) (sym (cond-true (p x) (x ∷ filter p xs) (filter p xs) (ap p e ∙ ok))) (zero, omega arith, e)

kept_further : (p : ToldLine → Bool) (x t : ToldLine) (xs : List ToldLine) → Contains (filter p xs) t → Contains (filter p (x ∷ xs)) t
kept_further p x t xs c = cond_both (p x) (x ∷ filter p xs) (filter p xs) (λ zs. Contains zs t) (λ q. Contains-append_right (x ∷ []) (filter p xs) t c) (λ q. c)

kept_at : (p : ToldLine → Bool) (t : ToldLine) (xs : List ToldLine) (k : ℕ) → p t ≡ true → k < length xs → get_or xs k t ≡ t → Contains (filter p xs) t
kept_at p t [] k ok l e = absurd (omega arith)
kept_at p t (x ∷ xs) zero ok l e = kept_here p x t xs ok e
kept_at p t (x ∷ xs) (suc k) ok l e = kept_further p x t xs (kept_at p t xs k ok (omega arith) e)

kept_there : (p : ToldLine → Bool) (ts : List ToldLine) (t : ToldLine) → p t ≡ true → Contains ts t → Contains (filter p ts) t
kept_there p ts t ok h = kept_at p t ts h.0 ok h.1 h.2

mapped_there : (ts : List ToldLine) (t : ToldLine) → Contains ts t → Contains (map place_of ts) (place_of t)
mapped_there ts t h = (h.0, subst (λ (n : ℕ). h.0 < n) (sym (length-map ts place_of)) h.1, get_or-map place_of ts h.0 t (place_of t) h.1 ∙ ap place_of h.2)

pub held_or_missing : LinesAreHeldOrMissing
held_or_missing nodes before after old new s t synced told =
    elim (cases_Bool (is_held t.line.start new)) [
      | inl h ↦ inl (h, λ m. true≢false (sym h ∙ place_there (map place_missing s.missing.items) new (lines_told synced.passes.added) t synced.missing m))
      | inr h ↦ inr (
        h,
        subst (λ (ps : List (ℕ × ℕ × ℕ)). Contains ps (place_of t)) (sym synced.missing)
            (mapped_there (unheld new (lines_told synced.passes.added)) t
            (kept_there (λ (x : ToldLine). not (is_held x.line.start new)) (lines_told synced.passes.added) t (not_from_false (is_held t.line.start new) h) told)),
      )
    ]
