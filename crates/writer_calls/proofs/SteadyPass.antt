-- A pass over nodes that answer by their states: nothing is missing.
use Rattle.std.proofs.Common.{◌≡◌, ℕ, zero, suc, ◌+◌, ◌-◌, ◌<◌, ◌≤◌, ◌⊎◌, Bool, true, false, cond, List, [], ◌∷◌, ◌++◌, length, map, filter, slice_get, get_or, All}
use Rattle.std.proofs.Common.{Contains, Option, Some, None, refl, sym, ap, ◌∙◌, subst, inl, inr, arith, append-nil}
use Rattle.std.specs.List.{flat_map}
use Rattle.std.proofs.lemmas.Bool.{true≢false}
use Rattle.std.proofs.lemmas.Grind.{flat_map-append}
use Rattle.std.proofs.lemmas.List.{map-append}
use Rattle.std.proofs.lemmas.List.Elements.{All-nil, All-cons, All-head, All-tail, All-append, All-filter, All-contains, All-contains_itself, Contains-append_cases}
use Rattle.std.proofs.lemmas.List.Elements.{Contains-append_right, filter_passes}
use Rattle.journal_core.specs.Laws.{IsQuestion}
use Rattle.journal_core.specs.Segments.{end_of}
use Rattle.journal_core.specs.Limits.{limit_of}
use Rattle.journal_core.specs.Step.{node_step, unless_limited, unless_refused}
use Rattle.journal_core.specs.Views.{BatchView}
use Rattle.journal_core.specs.Reads.{edits_from}
use Rattle.journal_core.specs.declared.heard.Heard.{Heard}
use Rattle.journal_core.specs.declared.heard.Heard.TheVariants.{Answer}
use Rattle.journal_core.specs.declared.node_state.NodeState.{NodeState}
use Rattle.journal_core.specs.declared.peer_call.PeerCall.{PeerCall}
use Rattle.journal_core.specs.declared.refusal.Refusal.TheVariants.{Down}
use Rattle.journal_core.specs.declared.reply.Reply.{Reply}
use Rattle.journal_core.specs.declared.reply.Reply.TheVariants as reply
use Rattle.journal_core.specs.declared.request.Request.{Request}
use Rattle.journal_core.specs.declared.request.Request.TheVariants.{State, NewEpoch, Start, Journal, Finalize, Prepare, Fetch, Accept, Purge, Read, Manifest}
use Rattle.journal_core.specs.declared.segment.Segment.{Segment}
use Rattle.journal_core.specs.declared.segment_line.SegmentLine.{SegmentLine}
use Rattle.writer_core.specs.declared.cause.Cause.{Cause}
use Rattle.writer_calls.specs.declared.told.NodeTold.{NodeTold}
use Rattle.writer_calls.specs.declared.told.ToldLine.{ToldLine}
use Rattle.writer_calls.specs.Told.{counts, lines_heard, node_told, lines_in_call, lines_told, told_in_call, nodes_told, numbered}
use Rattle.writer_calls.specs.Fetching.{call_of, HasBody, IsStopped, gives_edits}
use Rattle.writer_calls.specs.Logs.{AgreeWith}
use Rattle.writer_calls.specs.Mirrors.{line_of, lines_of, LineOutcome, lines_read, lines_stopped, IsOutcome}
use Rattle.writer_calls.specs.States.{is_final_with_edit, finals_of, finals_at, told_at, Gives, IsGivenBy, IsTold, IsNumbered}
use Rattle.writer_calls.proofs.Manifests.{told_is, lines_are, final_given}
use Rattle.writer_calls.proofs.Steady.{IsAnsweredBy, at_place}

-- ## What the nodes tell
abbrev at_node : List (Option NodeState) → ℕ → Option NodeState
at_node states node = get_or states (node - 1) None

read_at : (states : List (Option NodeState)) (i : ℕ) (o : Option NodeState) → slice_get states i ≡ Some o → get_or states i None ≡ o
read_at [] i o e = cc
read_at (x ∷ states) zero o e = cc
read_at (x ∷ states) (suc i) o e = read_at states i o e

abbrev IsToldAt : List (Option NodeState) → ℕ × NodeTold → Type 0
IsToldAt states p = p.1 ≡ told_at (at_node states p.0)

numbered_in : (states : List (Option NodeState)) (i : ℕ) (s : NodeState) → All IsTold states → slice_get states i ≡ Some (Some s) → IsTold (Some s)
numbered_in states i s all e = at_place IsTold states i (Some s) all e

one_told : (states : List (Option NodeState)) (node : ℕ) (r : Request) (heard : Heard) → All IsTold states → IsQuestion r → IsAnsweredBy states (call_of node r heard)
    → All (IsToldAt states) (told_in_call node r heard)
one_told states node State heard told q a = All-nil (IsToldAt states)
one_told states node (Read from) heard told q a = All-nil (IsToldAt states)
one_told states node Manifest heard told q a =
    All-cons (IsToldAt states) (node, node_told heard) []
    (ap node_told a.2 ∙ told_is a.0 (numbered_in states (node - 1) a.0 told a.1) ∙ ap told_at (sym (read_at states (node - 1) (Some a.0) a.1)))
    (All-nil (IsToldAt states))
one_told states node (NewEpoch epoch) heard told q a = absurd q
one_told states node (Start head start) heard told q a = absurd q
one_told states node (Journal head start batch) heard told q a = absurd q
one_told states node (Finalize head start end) heard told q a = absurd q
one_told states node (Prepare head start) heard told q a = absurd q
one_told states node (Fetch head start from) heard told q a = absurd q
one_told states node (Accept head batch) heard told q a = absurd q
one_told states node (Purge head min) heard told q a = absurd q

abbrev Questions : List PeerCall → Type 0
Questions calls = All (λ (c : PeerCall). IsQuestion c.request) calls

all_told : (states : List (Option NodeState)) (calls : List PeerCall) → All IsTold states → Questions calls → All (IsAnsweredBy states) calls → All (IsToldAt states) (nodes_told calls)
all_told states [] told q a = All-nil (IsToldAt states)
all_told states (c ∷ calls) told q a =
    All-append (IsToldAt states) (told_in_call c.node c.request c.heard) (nodes_told calls)
    (one_told states c.node c.request c.heard told (All-head (λ (x : PeerCall). IsQuestion x.request) c calls q) (All-head (IsAnsweredBy states) c calls a))
    (all_told states calls told (All-tail (λ (x : PeerCall). IsQuestion x.request) c calls q) (All-tail (IsAnsweredBy states) c calls a))

-- the states from a place on
abbrev AreFrom : List (Option NodeState) → ℕ → List (Option NodeState) → Type 0
AreFrom states k rest = (j : ℕ) → get_or states (k + j) None ≡ get_or rest j None

from_next : (states : List (Option NodeState)) (k : ℕ) (o : Option NodeState) (rest : List (Option NodeState)) → AreFrom states k (o ∷ rest) → AreFrom states (k + 1) rest
from_next states k o rest f j = ap (λ (n : ℕ). get_or states n None) (omega arith) ∙ f (suc j)

at_first : (states : List (Option NodeState)) (k : ℕ) (o : Option NodeState) (rest : List (Option NodeState)) → AreFrom states k (o ∷ rest) → at_node states (k + 1) ≡ o
at_first states k o rest f = ap (λ (n : ℕ). get_or states n None) (omega arith) ∙ f 0

heard_from : (states : List (Option NodeState)) (k : ℕ) (rest : List (Option NodeState)) (heard : List NodeTold) → length heard ≡ length rest → AreFrom states k rest
    → All (IsToldAt states) (numbered (k + 1) heard) → heard ≡ map told_at rest
heard_from states k [] [] l f all = refl
heard_from states k [] (t ∷ heard) l f all = absurd (omega (arith, l))
heard_from states k (o ∷ rest) [] l f all = absurd (omega (arith, l))
heard_from states k (o ∷ rest) (t ∷ heard) l f all =
    let first : t ≡ told_at o = All-head (IsToldAt states) (k + 1, t) (numbered (k + 1 + 1) heard) all ∙ ap told_at (at_first states k o rest f) in
    let others : heard ≡ map told_at rest =
    heard_from states (k + 1) rest heard (omega (arith, l)) (from_next states k o rest f) (All-tail (IsToldAt states) (k + 1, t) (numbered (k + 1 + 1) heard) all) in
    ap (λ (x : NodeTold). x ∷ heard) first ∙ ap (λ (xs : List NodeTold). told_at o ∷ xs) others

pub heard_are : (states : List (Option NodeState)) (calls : List PeerCall) (heard : List NodeTold) → All IsTold states → Questions calls → All (IsAnsweredBy states) calls
    → nodes_told calls ≡ numbered 1 heard → length heard ≡ length states → heard ≡ map told_at states
heard_are states calls heard told q a asked l =
    heard_from states 0 states heard l (λ j. ap (λ (n : ℕ). get_or states n None) (omega arith))
    (subst (λ (ps : List (ℕ × NodeTold)). All (IsToldAt states) ps) asked (all_told states calls told q a))

-- ## Which lines they tell
abbrev as_told : ℕ → SegmentLine → ToldLine
as_told node l = record { node = node; line = l }

abbrev node_lines : List (Option NodeState) → ℕ → List ToldLine
node_lines states node = map (as_told node) (lines_of (finals_at (at_node states node)))

abbrev pair_lines : List (Option NodeState) → ℕ × NodeTold → List ToldLine
pair_lines states p = node_lines states p.0

one_lines : (states : List (Option NodeState)) (node : ℕ) (r : Request) (heard : Heard) → All IsTold states → IsQuestion r → IsAnsweredBy states (call_of node r heard)
    → lines_in_call node r heard ≡ flat_map (pair_lines states) (told_in_call node r heard)
one_lines states node State heard told q a = refl
one_lines states node (Read from) heard told q a = refl
one_lines states node Manifest heard told q a =
    ap (λ (h : Heard). map (as_told node) (filter counts (lines_heard h))) a.2
    ∙ ap (map (as_told node)) (lines_are a.0 (numbered_in states (node - 1) a.0 told a.1))
    ∙ ap (λ (o : Option NodeState). map (as_told node) (lines_of (finals_at o))) (sym (read_at states (node - 1) (Some a.0) a.1))
    ∙ sym (append-nil (node_lines states node))
one_lines states node (NewEpoch epoch) heard told q a = absurd q
one_lines states node (Start head start) heard told q a = absurd q
one_lines states node (Journal head start batch) heard told q a = absurd q
one_lines states node (Finalize head start end) heard told q a = absurd q
one_lines states node (Prepare head start) heard told q a = absurd q
one_lines states node (Fetch head start from) heard told q a = absurd q
one_lines states node (Accept head batch) heard told q a = absurd q
one_lines states node (Purge head min) heard told q a = absurd q

all_lines : (states : List (Option NodeState)) (calls : List PeerCall) → All IsTold states → Questions calls → All (IsAnsweredBy states) calls
    → lines_told calls ≡ flat_map (pair_lines states) (nodes_told calls)
all_lines states [] told q a = refl
all_lines states (c ∷ calls) told q a =
    ap (λ (ts : List ToldLine). ts ++ lines_told calls)
    (one_lines states c.node c.request c.heard told (All-head (λ (x : PeerCall). IsQuestion x.request) c calls q) (All-head (IsAnsweredBy states) c calls a))
    ∙ ap (λ (ts : List ToldLine). flat_map (pair_lines states) (told_in_call c.node c.request c.heard) ++ ts)
    (all_lines states calls told (All-tail (λ (x : PeerCall). IsQuestion x.request) c calls q) (All-tail (IsAnsweredBy states) c calls a))
    ∙ sym (flat_map-append (pair_lines states) (told_in_call c.node c.request c.heard) (nodes_told calls))

abbrev line_in : ToldLine → SegmentLine
line_in t = t.line

plain_lines : (node : ℕ) (ls : List SegmentLine) → map line_in (map (as_told node) ls) ≡ ls
plain_lines node [] = refl
plain_lines node (l ∷ ls) = ap (λ (xs : List SegmentLine). l ∷ xs) (plain_lines node ls)

lines_from : (states : List (Option NodeState)) (k : ℕ) (rest : List (Option NodeState)) (heard : List NodeTold) → length heard ≡ length rest → AreFrom states k rest
    → map line_in (flat_map (pair_lines states) (numbered (k + 1) heard)) ≡ lines_of (flat_map finals_at rest)
lines_from states k [] [] l f = refl
lines_from states k [] (t ∷ heard) l f = absurd (omega (arith, l))
lines_from states k (o ∷ rest) [] l f = absurd (omega (arith, l))
lines_from states k (o ∷ rest) (t ∷ heard) l f =
    map-append line_in (node_lines states (k + 1)) (flat_map (pair_lines states) (numbered (k + 1 + 1) heard))
    ∙ ap (λ (ls : List SegmentLine). ls ++ map line_in (flat_map (pair_lines states) (numbered (k + 1 + 1) heard))) (plain_lines (k + 1) (lines_of (finals_at (at_node states (k + 1)))))
    ∙ ap (λ (p : Option NodeState). lines_of (finals_at p) ++ map line_in (flat_map (pair_lines states) (numbered (k + 1 + 1) heard))) (at_first states k o rest f)
    ∙ ap (λ (ls : List SegmentLine). lines_of (finals_at o) ++ ls) (lines_from states (k + 1) rest heard (omega (arith, l)) (from_next states k o rest f))
    ∙ sym (map-append line_of (finals_at o) (flat_map finals_at rest))

pub lines_all : (states : List (Option NodeState)) (calls : List PeerCall) (heard : List NodeTold) → All IsTold states → Questions calls → All (IsAnsweredBy states) calls
    → nodes_told calls ≡ numbered 1 heard → length heard ≡ length states → map line_in (lines_told calls) ≡ lines_of (flat_map finals_at states)
lines_all states calls heard told q a asked l =
    ap (map line_in) (all_lines states calls told q a ∙ ap (flat_map (pair_lines states)) asked)
    ∙ lines_from states 0 states heard l (λ j. ap (λ (n : ℕ). get_or states n None) (omega arith))

-- ## None is missing
mapped_from : {X Y : Type 0} (f : X → Y) (xs : List X) (k : ℕ) (y : Y) → k < length (map f xs) → get_or (map f xs) k y ≡ y → (x : X) × Contains xs x × (f x ≡ y)
mapped_from f [] k y l e = absurd (omega arith)
mapped_from f (x ∷ xs) zero y l e = (x, (zero, omega arith, refl), e)
mapped_from f (x ∷ xs) (suc k) y l e = let r = mapped_from f xs k y (omega arith) e in (r.0, Contains-append_right (x ∷ []) xs r.0 r.1, r.2)

-- the line is that of a final segment with an edit, at its node, which is up
record IsFinalAt (states : List (Option NodeState)) (t : ToldLine) : Type 0 where
  s : NodeState
  g : Segment
  here : slice_get states (t.node - 1) ≡ Some (Some s)
  there : Contains s.segments g
  final : is_final_with_edit g ≡ true
  up : s.up ≡ true
  line_is : t.line ≡ line_of g

final_there : (states : List (Option NodeState)) (node : ℕ) (s : NodeState) (t : ToldLine) → slice_get states (node - 1) ≡ Some (Some s)
    → Contains (map (as_told node) (lines_of (finals_of s))) t → IsFinalAt states t
final_there states node s t here c = go s.up refl
  where
    go : (b : Bool) → s.up ≡ b → IsFinalAt states t
    go false e =
        let none : map (as_told node) (lines_of (finals_of s)) ≡ [] = ap (λ (b : Bool). map (as_told node) (lines_of (cond b (filter is_final_with_edit s.segments) []))) e in
        let empty : Contains [] t = subst (λ (ts : List ToldLine). Contains ts t) none c in
        absurd (omega (arith, empty.1))
    go true e =
        let some : map (as_told node) (lines_of (finals_of s)) ≡ map (as_told node) (lines_of (filter is_final_with_edit s.segments)) =
        ap (λ (b : Bool). map (as_told node) (lines_of (cond b (filter is_final_with_edit s.segments) []))) e in
        let full : Contains (map (as_told node) (lines_of (filter is_final_with_edit s.segments))) t = subst (λ (ts : List ToldLine). Contains ts t) some c in
        let l = mapped_from (as_told node) (lines_of (filter is_final_with_edit s.segments)) full.0 t full.1 full.2 in
        let g = mapped_from line_of (filter is_final_with_edit s.segments) l.1.0 l.0 l.1.1 l.1.2 in
        record {
          s = s;
          g = g.0;
          here = subst (λ (n : ℕ). slice_get states (n - 1) ≡ Some (Some s)) (ap (λ (x : ToldLine). x.node) l.2) here;
          there = All-contains (Contains s.segments) (filter is_final_with_edit s.segments) g.0
              (All-filter is_final_with_edit (Contains s.segments) s.segments (All-contains_itself s.segments)) g.1;
          final = All-contains (λ (x : Segment). is_final_with_edit x ≡ true) (filter is_final_with_edit s.segments) g.0 (filter_passes is_final_with_edit s.segments) g.1;
          up = e;
          line_is = ap (λ (x : ToldLine). x.line) (sym l.2) ∙ sym g.2;
        }

one_final : (states : List (Option NodeState)) (node : ℕ) (r : Request) (heard : Heard) (t : ToldLine) → All IsTold states → IsAnsweredBy states (call_of node r heard)
    → Contains (lines_in_call node r heard) t → IsFinalAt states t
one_final states node Manifest heard t told a c =
    let are : lines_in_call node Manifest heard ≡ map (as_told node) (lines_of (finals_of a.0)) =
    ap (λ (h : Heard). map (as_told node) (filter counts (lines_heard h))) a.2 ∙ ap (map (as_told node)) (lines_are a.0 (numbered_in states (node - 1) a.0 told a.1)) in
    final_there states node a.0 t a.1 (subst (λ (ts : List ToldLine). Contains ts t) are c)
one_final states node _ heard t told a c = absurd (omega (arith, c.1))

final_in : (states : List (Option NodeState)) (calls : List PeerCall) (t : ToldLine) → All IsTold states → All (IsAnsweredBy states) calls → Contains (lines_told calls) t → IsFinalAt states t
final_in states [] t told a c = absurd (omega (arith, c.1))
final_in states (x ∷ calls) t told a c =
    go (λ h. final_in states calls t told (All-tail (IsAnsweredBy states) x calls a) h) (Contains-append_cases (lines_in_call x.node x.request x.heard) (lines_told calls) t c)
  where
    go : (Contains (lines_told calls) t → IsFinalAt states t) → Contains (lines_in_call x.node x.request x.heard) t ⊎ Contains (lines_told calls) t → IsFinalAt states t
    go later (inl h) = one_final states x.node x.request x.heard t told (All-head (IsAnsweredBy states) x calls a) h
    go later (inr h) = later h

one_state : (o : Option (Option NodeState)) (s t : NodeState) → o ≡ Some (Some s) → o ≡ Some (Some t) → s ≡ t
one_state o s t e f = cc

no_stop : (states : List (Option NodeState)) (calls : List PeerCall) (t : ToldLine) (c : Cause) → All IsTold states → All (IsAnsweredBy states) calls → IsFinalAt states t
    → IsStopped t.node t.line.start t.line.end calls c → ⊥
no_stop states calls t c told a f h =
    let by = All-contains (IsAnsweredBy states) calls (call_of t.node (Read h.from) h.heard) a h.call in
    let same : by.0 ≡ f.s = one_state (slice_get states (t.node - 1)) by.0 f.s by.1 f.here in
    let heard : h.heard ≡ Answer (node_step f.s (Read h.from)).reply = by.2 ∙ ap (λ (s : NodeState). Answer (node_step s (Read h.from)).reply) same in
    let numbered_one : IsNumbered f.g =
    All-contains (λ (x : Segment). is_final_with_edit x ≡ true → IsNumbered x) f.s.segments f.g (numbered_in states (t.node - 1) f.s told f.here f.up) f.there f.final in
    let low : f.g.start ≤ h.from = omega (arith, h.low, ap (λ (l : SegmentLine). l.start) f.line_is) in
    let high : h.from ≤ end_of f.g = omega (arith, h.high, ap (λ (l : SegmentLine). l.end) f.line_is) in
    true≢false (sym (ap gives_edits heard ∙ final_given f.s f.g h.from f.there f.final f.up numbered_one low high) ∙ h.none)

abbrev Outcomes : List PeerCall → List Segment → List LineOutcome → Type 0
Outcomes calls held outcomes = All (λ (o : LineOutcome). IsOutcome calls held o.told o.stopped) outcomes

record AllRead (outcomes : List LineOutcome) : Type 0 where
  none : lines_stopped outcomes ≡ []
  all : lines_read outcomes ≡ map (λ o. o.told.line) outcomes

one_read : (states : List (Option NodeState)) (calls : List PeerCall) (held : List Segment) (t : ToldLine) (o : Option Cause) (os : List LineOutcome) → All IsTold states
    → All (IsAnsweredBy states) calls → IsFinalAt states t → IsOutcome calls held t o → AllRead os → AllRead (record { told = t; stopped = o } ∷ os)
one_read states calls held t None os told a f out h = record { none = h.none; all = ap (λ (ls : List SegmentLine). t.line ∷ ls) h.all }
one_read states calls held t (Some c) os told a f out h = absurd (no_stop states calls t c told a f out)

all_read : (states : List (Option NodeState)) (calls : List PeerCall) (held : List Segment) (os : List LineOutcome) → All IsTold states → All (IsAnsweredBy states) calls
    → ((t : ToldLine) → Contains (map (λ o. o.told) os) t → IsFinalAt states t) → Outcomes calls held os → AllRead os
all_read states calls held [] told a f each = record { none = refl; all = refl }
all_read states calls held (o ∷ os) told a f each =
    one_read states calls held o.told o.stopped os told a (f o.told (zero, omega arith, refl)) (All-head (λ (x : LineOutcome). IsOutcome calls held x.told x.stopped) o os each)
    (all_read states calls held os told a (λ t c. f t (Contains-append_right (o.told ∷ []) (map (λ (x : LineOutcome). x.told) os) t c))
    (All-tail (λ (x : LineOutcome). IsOutcome calls held x.told x.stopped) o os each))

told_lines : (os : List LineOutcome) → map (λ (o : LineOutcome). o.told.line) os ≡ map line_in (map (λ (o : LineOutcome). o.told) os)
told_lines [] = refl
told_lines (o ∷ os) = ap (λ (ls : List SegmentLine). o.told.line ∷ ls) (told_lines os)

-- of a pass over such nodes: nothing is missing, and each line was read or was held
pub record ReadAll (calls : List PeerCall) (outcomes : List LineOutcome) : Type 0 where
  pub none : lines_stopped outcomes ≡ []
  pub all : lines_read outcomes ≡ map line_in (lines_told calls)

pub reads_all : (states : List (Option NodeState)) (calls : List PeerCall) (held : List Segment) (os : List LineOutcome) → All IsTold states → All (IsAnsweredBy states) calls
    → map (λ o. o.told) os ≡ lines_told calls → Outcomes calls held os → ReadAll calls os
reads_all states calls held os told a each out =
    let h : AllRead os =
    all_read states calls held os told a (λ t c. final_in states calls t told a (subst (λ (ts : List ToldLine). Contains ts t) each c)) out in
    record { none = h.none; all = h.all ∙ told_lines os ∙ ap (map line_in) each }

-- ## What they give
abbrev reply_by : NodeState → Request → Bool → Option ℕ → Reply
reply_by s r up limit = (unless_refused s r (cond up (unless_limited limit None) (Some Down))).reply

read_edits : (s : NodeState) (from : ℕ) (batch : BatchView) (up : Bool) (limit : Option ℕ) → s.up ≡ up → reply.Edits batch ≡ reply_by s (Read from) up limit
    → (s.up ≡ true) × (edits_from s from ≡ reply.Edits batch)
read_edits s from batch false limit u e = cc
read_edits s from batch true (Some n) u e = cc
read_edits s from batch true None u e = (u, sym e)

state_edits : {P : Type 0} (s : NodeState) (batch : BatchView) (up : Bool) (limit : Option ℕ) → reply.Edits batch ≡ reply_by s State up limit → P
state_edits s batch false limit e = cc
state_edits s batch true (Some n) e = cc
state_edits s batch true None e = cc

manifest_edits : {P : Type 0} (s : NodeState) (batch : BatchView) (up : Bool) (limit : Option ℕ) → reply.Edits batch ≡ reply_by s Manifest up limit → P
manifest_edits s batch false limit e = cc
manifest_edits s batch true (Some n) e = cc
manifest_edits s batch true None e = cc

gives_body : (s : NodeState) (r : Request) (batch : BatchView) (txid : ℕ) (body : List ℕ) → IsQuestion r → reply.Edits batch ≡ (node_step s r).reply
    → HasBody batch.first batch.bodies txid body → Gives s txid body
unfolding node_step
gives_body s (Read from) batch txid body q e has =
    let h = read_edits s from batch s.up (limit_of (Read from)) refl e in record { up = h.0; from = from; batch = batch; edits = h.1; has = has }
gives_body s State batch txid body q e has = state_edits s batch s.up (limit_of State) e
gives_body s Manifest batch txid body q e has = manifest_edits s batch s.up (limit_of Manifest) e
gives_body s (NewEpoch epoch) batch txid body q e has = absurd q
gives_body s (Start head start) batch txid body q e has = absurd q
gives_body s (Journal head start other) batch txid body q e has = absurd q
gives_body s (Finalize head start end) batch txid body q e has = absurd q
gives_body s (Prepare head start) batch txid body q e has = absurd q
gives_body s (Fetch head start from) batch txid body q e has = absurd q
gives_body s (Accept head other) batch txid body q e has = absurd q
gives_body s (Purge head min) batch txid body q e has = absurd q

there_at : (states : List (Option NodeState)) (i : ℕ) (o : Option NodeState) → slice_get states i ≡ Some o → Contains states o
there_at [] i o e = cc
there_at (x ∷ states) zero o e = let same : x ≡ o = cc in (zero, omega arith, same)
there_at (x ∷ states) (suc i) o e = Contains-append_right (x ∷ []) states o (there_at states i o e)

one_answer : (x y : Reply) → Answer x ≡ Answer y → x ≡ y
one_answer x y e = cc

-- each edit that they give is given by a node
pub all_given : (states : List (Option NodeState)) (calls : List PeerCall) → Questions calls → All (IsAnsweredBy states) calls → AgreeWith (IsGivenBy states) calls
all_given states calls q a node txid r batch body c has =
    let by = All-contains (IsAnsweredBy states) calls (call_of node r (Answer (reply.Edits batch))) a c in
    let question : IsQuestion r = All-contains (λ (x : PeerCall). IsQuestion x.request) calls (call_of node r (Answer (reply.Edits batch))) q c in
    (by.0, there_at states (node - 1) (Some by.0) by.1, gives_body by.0 r batch txid body question (one_answer (reply.Edits batch) (node_step by.0 r).reply by.2) has)
