-- What comes of nodes, one after the other.
use Rattle.std.proofs.Common.{◌≡◌, ℕ, ◌+◌, ◌<◌, ◌≤◌, true, false, List, [], ◌∷◌, ◌++◌, length, map, filter, take, drop, get_or, refl, sym, ap, ◌∙◌, subst, arith, append-nil, append_assoc}
use Rattle.std.proofs.lemmas.Bool.{cond-true, cond-false}
use Rattle.std.proofs.lemmas.List.{map-append, take-append-drop, take_all}
use Rattle.std.proofs.lemmas.List.Elements.{All-cons, All-nil, filter-append, filter_more}
use Rattle.journal_core.specs.Laws.{IsQuestion}
use Rattle.journal_core.specs.declared.heard.Heard.{Heard}
use Rattle.journal_core.specs.declared.peer_call.PeerCall.{PeerCall}
use Rattle.journal_core.specs.declared.request.Request.TheVariants.{Manifest}
use Rattle.journal_core.specs.declared.segment.Segment.{Segment}
use Rattle.journal_core.specs.declared.segment_line.SegmentLine.{SegmentLine}
use Rattle.writer_calls.specs.declared.synced.Missing.{Missing}
use Rattle.writer_calls.specs.declared.told.NodeTold.{NodeTold}
use Rattle.writer_calls.specs.declared.told.ToldLine.{ToldLine}
use Rattle.writer_calls.specs.Told.{counts, lines_heard, node_told, lines_of_node, lines_told, nodes_told, numbered}
use Rattle.writer_calls.specs.Fetching.{call_of}
use Rattle.writer_calls.specs.Mirrors.{LineOutcome, lines_stopped, Takes, Passes}
use Rattle.writer_calls.specs.Passing.{LinesBegun, LinesTaken, NodesTaken}
use Rattle.writer_calls.proofs.CallLists.{lines_append, nodes_append, questions_on}
use Rattle.writer_calls.proofs.Taking.{takes_idle, takes_on, begun_on, begun_wider, taken_on, stops_append}

-- ## Lines of a node
abbrev pub as_told : ℕ → SegmentLine → ToldLine
as_told node line = record { node = node; line = line }

node_lines_append : (node : ℕ) (xs ys : List SegmentLine) → lines_of_node node (xs ++ ys) ≡ lines_of_node node xs ++ lines_of_node node ys
node_lines_append node xs ys = ap (map (as_told node)) (filter-append counts xs ys) ∙ map-append (as_told node) (filter counts xs) (filter counts ys)

pub one_counted : (node : ℕ) (xs : List SegmentLine) (i : ℕ) (d : SegmentLine) → i < length xs → counts (get_or xs i d) ≡ true
    → lines_of_node node (take (i + 1) xs) ≡ lines_of_node node (take i xs) ++ as_told node (get_or xs i d) ∷ []
one_counted node xs i d l c =
    ap (map (as_told node)) (filter_more counts xs i d l ∙ ap (λ (ys : List SegmentLine). filter counts (take i xs) ++ ys) (cond-true (counts (get_or xs i d)) (get_or xs i d ∷ []) [] c))
    ∙ map-append (as_told node) (filter counts (take i xs)) (get_or xs i d ∷ [])

pub one_skipped : (node : ℕ) (xs : List SegmentLine) (i : ℕ) (d : SegmentLine) → i < length xs → counts (get_or xs i d) ≡ false
    → lines_of_node node (take (i + 1) xs) ≡ lines_of_node node (take i xs)
one_skipped node xs i d l c =
    ap (map (as_told node))
    (filter_more counts xs i d l ∙ ap (λ (ys : List SegmentLine). filter counts (take i xs) ++ ys)
    (cond-false (counts (get_or xs i d)) (get_or xs i d ∷ []) [] c) ∙ append-nil (filter counts (take i xs)))

node_rest : (node i : ℕ) (xs : List SegmentLine) → lines_of_node node (take i xs) ++ lines_of_node node (drop i xs) ≡ lines_of_node node xs
node_rest node i xs = sym (node_lines_append node (take i xs) (drop i xs)) ∙ ap (lines_of_node node) (take-append-drop i xs)

-- the lines so far are some of all
pub begun_of_all : (node i : ℕ) (xs : List SegmentLine) (a b : List PeerCall) (old new : List Segment) → LinesBegun (lines_of_node node (take i xs)) a b old new
    → LinesBegun (lines_of_node node xs) a b old new
begun_of_all node i xs a b old new h =
    subst (λ (ts : List ToldLine). LinesBegun ts a b old new) (node_rest node i xs)
    (begun_wider (lines_of_node node (take i xs)) (lines_of_node node (drop i xs)) a b old new h)

-- one line more
pub lines_skip : (node i : ℕ) (xs : List SegmentLine) (d : SegmentLine) (a b : List PeerCall) (old new : List Segment) (stopped : List Missing) → i < length xs
    → counts (get_or xs i d) ≡ false → LinesTaken (lines_of_node node (take i xs)) a b old new stopped → LinesTaken (lines_of_node node (take (i + 1) xs)) a b old new stopped
lines_skip node i xs d a b old new stopped l c h = subst (λ (ts : List ToldLine). LinesTaken ts a b old new stopped) (sym (one_skipped node xs i d l c)) h

pub lines_more : (node i : ℕ) (xs : List SegmentLine) (d : SegmentLine) (a b c : List PeerCall) (old mid new : List Segment) (ms ns all : List Missing) → i < length xs
    → counts (get_or xs i d) ≡ true → LinesTaken (lines_of_node node (take i xs)) a b old mid ms → LinesTaken (as_told node (get_or xs i d) ∷ []) b c mid new ns → all ≡ ms ++ ns
    → LinesTaken (lines_of_node node (take (i + 1) xs)) a c old new all
lines_more node i xs d a b c old mid new ms ns all l ok h k e =
    subst (λ (ts : List ToldLine). LinesTaken ts a c old new all) (sym (one_counted node xs i d l ok))
    (taken_on (lines_of_node node (take i xs)) (as_told node (get_or xs i d) ∷ []) a b c old mid new ms ns all h k e)

pub begun_more : (node i : ℕ) (xs : List SegmentLine) (d : SegmentLine) (a b c : List PeerCall) (old mid new : List Segment) → i < length xs
    → counts (get_or xs i d) ≡ true → LinesBegun (lines_of_node node (take i xs)) a b old mid → LinesBegun (as_told node (get_or xs i d) ∷ []) b c mid new
    → LinesBegun (lines_of_node node xs) a c old new
begun_more node i xs d a b c old mid new l ok h k =
    begun_of_all node (i + 1) xs a c old new
    (subst (λ (ts : List ToldLine). LinesBegun ts a c old new) (sym (one_counted node xs i d l ok))
    (begun_on (lines_of_node node (take i xs)) (as_told node (get_or xs i d) ∷ []) a b c old mid new h k))

pub lines_all : (node i : ℕ) (xs : List SegmentLine) (a b : List PeerCall) (old new : List Segment) (stopped : List Missing) → length xs ≤ i
    → LinesTaken (lines_of_node node (take i xs)) a b old new stopped → LinesTaken (lines_of_node node xs) a b old new stopped
lines_all node i xs a b old new stopped l h = subst (λ (ys : List SegmentLine). LinesTaken (lines_of_node node ys) a b old new stopped) (take_all i xs l) h

-- ## One node
abbrev manifest_call : ℕ → Heard → PeerCall
manifest_call node heard = call_of node Manifest heard

pub node_lines : (node : ℕ) (heard : Heard) (calls : List PeerCall) → lines_told calls ≡ [] → lines_of_node node (lines_heard heard) ≡ lines_told (manifest_call node heard ∷ calls)
node_lines node heard calls none = sym (ap (λ (ts : List ToldLine). lines_of_node node (lines_heard heard) ++ ts) none ∙ append-nil (lines_of_node node (lines_heard heard)))

abbrev pub node_begun : (node : ℕ) (heard : Heard) (before mid after : List PeerCall) (old new : List Segment) → mid ≡ before ++ manifest_call node heard ∷ []
    → LinesBegun (lines_of_node node (lines_heard heard)) mid after old new → Passes before after old new
node_begun node heard before mid after old new e h = record {
  added = manifest_call node heard ∷ h.made.added;
  calls = h.made.calls ∙ ap (λ (cs : List PeerCall). cs ++ h.made.added) e ∙ append_assoc before (manifest_call node heard ∷ []) h.made.added;
  questions = All-cons (λ (c : PeerCall). IsQuestion c.request) (manifest_call node heard) h.made.added tt h.made.reads.questions;
  outcomes = h.outcomes;
  takes = subst (λ (ts : List ToldLine). Takes ts (manifest_call node heard ∷ h.made.added) h.outcomes old new) (node_lines node heard h.made.added h.made.reads.no_lines)
      (takes_on [] (lines_of_node node (lines_heard heard)) (manifest_call node heard ∷ []) h.made.added [] h.outcomes old old new
      (takes_idle [] (manifest_call node heard ∷ []) old) h.takes);
}

pub node_taken : (node : ℕ) (heard : Heard) (told : NodeTold) (before mid after : List PeerCall) (old new : List Segment) (stopped : List Missing)
    → mid ≡ before ++ manifest_call node heard ∷ [] → told ≡ node_told heard → LinesTaken (lines_of_node node (lines_heard heard)) mid after old new stopped
    → NodesTaken ((node, told) ∷ []) before after old new stopped
node_taken node heard told before mid after old new stopped e is h = record {
  passes = node_begun node heard before mid after old new e h.begun;
  asked_are = ap (λ (ns : List (ℕ × NodeTold)). (node, node_told heard) ∷ ns) h.begun.made.reads.no_nodes ∙ ap (λ (t : NodeTold). (node, t) ∷ []) (sym is);
  each_line = h.each_line ∙ node_lines node heard h.begun.made.added h.begun.made.reads.no_lines;
  stops = h.stops;
}

-- ## Nodes one after the other
abbrev pub passes_idle : (before after : List PeerCall) (old new : List Segment) → after ≡ before → new ≡ old → Passes before after old new
passes_idle before after old new e same = record {
  added = [];
  calls = e ∙ sym (append-nil before);
  questions = All-nil (λ (c : PeerCall). IsQuestion c.request);
  outcomes = [];
  takes = subst (λ (gs : List Segment). Takes [] [] [] old gs) (sym same) (takes_idle [] [] old);
}

abbrev pub passes_on : (a b c : List PeerCall) (old mid new : List Segment) → Passes a b old mid → Passes b c mid new → Passes a c old new
passes_on a b c old mid new h k = record {
  added = h.added ++ k.added;
  calls = k.calls ∙ ap (λ (cs : List PeerCall). cs ++ k.added) h.calls ∙ append_assoc a h.added k.added;
  questions = questions_on h.added k.added h.questions k.questions;
  outcomes = h.outcomes ++ k.outcomes;
  takes = subst (λ (ts : List ToldLine). Takes ts (h.added ++ k.added) (h.outcomes ++ k.outcomes) old new) (sym (lines_append h.added k.added))
      (takes_on (lines_told h.added) (lines_told k.added) h.added k.added h.outcomes k.outcomes old mid new h.takes k.takes);
}

pub nodes_none : (calls : List PeerCall) (gs : List Segment) (heard : List NodeTold) (stopped : List Missing) → heard ≡ [] → stopped ≡ [] → NodesTaken (numbered 1 heard) calls calls gs gs stopped
nodes_none calls gs heard stopped none empty = record {
  passes = passes_idle calls calls gs gs refl refl;
  asked_are = ap (numbered 1) (sym none);
  each_line = refl;
  stops = empty;
}

pub nodes_on : (a b : List (ℕ × NodeTold)) (before mid after : List PeerCall) (x y z : List Segment) (ms ns all : List Missing) → NodesTaken a before mid x y ms → NodesTaken b mid after y z ns
    → all ≡ ms ++ ns → NodesTaken (a ++ b) before after x z all
nodes_on a b before mid after x y z ms ns all h k e = record {
  passes = passes_on before mid after x y z h.passes k.passes;
  asked_are = nodes_append h.passes.added k.passes.added ∙ ap (λ (ps : List (ℕ × NodeTold)). ps ++ nodes_told k.passes.added) h.asked_are ∙ ap (λ (ps : List (ℕ × NodeTold)). a ++ ps) k.asked_are;
  each_line = map-append (λ (o : LineOutcome). o.told) h.passes.outcomes k.passes.outcomes
      ∙ ap (λ (ts : List ToldLine). ts ++ map (λ (o : LineOutcome). o.told) k.passes.outcomes) h.each_line
      ∙ ap (λ (ts : List ToldLine). lines_told h.passes.added ++ ts) k.each_line ∙ sym (lines_append h.passes.added k.passes.added);
  stops = e ∙ ap (λ (m : List Missing). m ++ ns) h.stops ∙ ap (λ (m : List Missing). lines_stopped h.passes.outcomes ++ m) k.stops ∙ sym (stops_append h.passes.outcomes k.passes.outcomes);
}

numbered_push : (node : ℕ) (xs : List NodeTold) (x : NodeTold) → numbered node (xs ++ x ∷ []) ≡ numbered node xs ++ (node + length xs, x) ∷ []
numbered_push node [] x = ap (λ (n : ℕ). (n, x) ∷ []) (omega arith)
numbered_push node (y ∷ ys) x =
    ap (λ (ps : List (ℕ × NodeTold)). (node, y) ∷ ps)
    (numbered_push (node + 1) ys x ∙ ap (λ (n : ℕ). numbered (node + 1) ys ++ (n, x) ∷ []) (omega arith))

-- one node more
pub nodes_more : (heard all : List NodeTold) (told : NodeTold) (node : ℕ) (before mid after : List PeerCall) (x y z : List Segment) (ms ns stops : List Missing)
    → NodesTaken (numbered 1 heard) before mid x y ms → length heard ≡ node → NodesTaken ((node + 1, told) ∷ []) mid after y z ns → all ≡ heard ++ told ∷ [] → stops ≡ ms ++ ns
    → NodesTaken (numbered 1 all) before after x z stops
nodes_more heard all told node before mid after x y z ms ns stops h count k e f =
    let next : 1 + length heard ≡ node + 1 = omega (arith, count) in
    let asked : numbered 1 heard ++ (node + 1, told) ∷ [] ≡ numbered 1 all =
    ap (λ (n : ℕ). numbered 1 heard ++ (n, told) ∷ []) (sym next) ∙ sym (numbered_push 1 heard told) ∙ ap (numbered 1) (sym e) in
    subst (λ (ps : List (ℕ × NodeTold)). NodesTaken ps before after x z stops) asked
    (nodes_on (numbered 1 heard) ((node + 1, told) ∷ []) before mid after x y z ms ns stops h k f)
