-- Where one order of all lines fits all lists of a mesh that agrees, its moving entries are a run.
use Rattle.std.proofs.Common.{◌≡◌, ℕ, ◌+◌, ◌-◌, ◌<◌, ◌≤◌, ◌==◌, inl, inr, List, [], ◌∷◌, ◌++◌, Bool, true, false, cond, filter, map, Contains, length}
use Rattle.std.proofs.Common.{refl, sym, ap, ◌∙◌, subst, arith, append_assoc, length-append, Option, Some, None}
use Rattle.std.specs.Prelude.{filter_map, ◌≢◌}
use Rattle.journal_history.specs.declared.history_line.HistoryLine.{HistoryLine}
use Rattle.journal_history.specs.Entries.{Entry}
use Rattle.journal_history.specs.Moving.{Placed, entry_at, entry_of, move_of, moving_of, falls}
use Rattle.run_safety.specs.Run.{IsRun}
use Rattle.run_safety.proofs.Slots.{true≢false}
use Rattle.mesh.specs.declared.whole.Mesh.{Mesh}
use Rattle.mesh.specs.Matches.{reached, lines_of}
use Rattle.mesh.specs.Agree.{Agrees, operator_of, history_at, record_of}
use Rattle.mesh.specs.Order.{is_muted, line_of_caller, placed_from, placed_at, entries_at}
use Rattle.mesh.specs.Traces.{history_of, IsInMesh, IsTrace}
use Rattle.mesh.proofs.Lists.{Alike, alike, same_test, other_test, append_none, contains_head, contains_tail}
use Rattle.mesh.proofs.Shared.{In}
use Rattle.mesh.proofs.Keys.{same_length}
use Rattle.mesh.proofs.Signs.{Sign, sign, entries, all_signs}
use Rattle.mesh.proofs.Rearranged.{Rivals, Stand}
use Rattle.mesh.proofs.Matching.{Cut, cut_filter, Matched, line_is, place_is, entry_here, place_here, history_noted, Listed, sign_listed}
use Rattle.mesh.proofs.OrderLaws.{StandAll, stand_keeps}
use Rattle.mesh.proofs.OrderRuns.{Arranged, arranged_runs}
use Rattle.mesh.proofs.Tied.{Tied, history_at as history_more, history_off}
use Rattle.mesh.proofs.InStep.{tied_of, Sent, sent_more, sent_at}

-- ## The signs of a trace: each moving line with its caller and its place in the caller's record
abbrev place_in : Mesh → List Placed → Placed → ℕ
place_in m past x = place_here m x.node (history_of x.node past) x.line

abbrev sign_first : Option Entry → ℕ → ℕ → List Sign → List Sign
sign_first None caller place ss = ss
sign_first (Some e) caller place ss = sign e caller place ∷ ss

unfoldable signs_on : Mesh → List Placed → List Placed → List Sign
signs_on m past [] = []
signs_on m past (x ∷ xs) = sign_first (entry_of x) x.line.caller (place_in m past x) (signs_on m (past ++ x ∷ []) xs)

entries_are : (m : Mesh) (past xs : List Placed) → entries (signs_on m past xs) ≡ filter_map entry_of xs
unfolding signs_on
entries_are m past [] = refl
entries_are m past (x ∷ xs) = by (entry_of x) refl (entries_are m (past ++ x ∷ []) xs)
  where
    by : (o : Option Entry) → entry_of x ≡ o → entries (signs_on m (past ++ x ∷ []) xs) ≡ filter_map entry_of xs
        → entries (sign_first (entry_of x) x.line.caller (place_in m past x) (signs_on m (past ++ x ∷ []) xs)) ≡ filter_map entry_of (x ∷ xs)
    by None e h = rw e h
    by (Some y) e h = rw e (ap (λ (l : List Entry). y ∷ l) h)

-- where a sign comes from
record From (m : Mesh) (past xs : List Placed) (s : Sign) : Type 0 where
  before : List Placed
  line : Placed
  after : List Placed
  whole : xs ≡ before ++ line ∷ after
  entry : entry_of line ≡ Some s.entry
  caller : line.line.caller ≡ s.caller
  place : place_in m (past ++ before) line ≡ s.place

from_out : (m : Mesh) (past xs : List Placed) (s : Sign) → In s (signs_on m past xs) → From m past xs s
unfolding signs_on In
from_out m past [] s i = absurd i
from_out m past (x ∷ xs) s i = by (entry_of x) refl i (λ j. from_out m (past ++ x ∷ []) xs s j)
  where
    later : From m (past ++ x ∷ []) xs s → From m past (x ∷ xs) s
    later w = record {
      before = x ∷ w.before;
      line = w.line;
      after = w.after;
      whole = ap (λ (l : List Placed). x ∷ l) w.whole;
      entry = w.entry;
      caller = w.caller;
      place = ap (λ (l : List Placed). place_in m l w.line) (sym (append_assoc past (x ∷ []) w.before)) ∙ w.place;
    }

    by : (o : Option Entry) → entry_of x ≡ o → In s (sign_first o x.line.caller (place_in m past x) (signs_on m (past ++ x ∷ []) xs))
        → (In s (signs_on m (past ++ x ∷ []) xs) → From m (past ++ x ∷ []) xs s) → From m past (x ∷ xs) s
    by None e j go = later (go j)
    by (Some y) e (inr j) go = later (go j)
    by (Some y) e (inl f) go = record {
      before = [];
      line = x;
      after = xs;
      whole = refl;
      entry = e ∙ ap (λ (z : Sign). Some z.entry) f;
      caller = ap (λ (z : Sign). z.caller) f;
      place = ap (λ (l : List Placed). place_in m l x) (append_none past) ∙ ap (λ (z : Sign). z.place) f;
    }

from_in : (m : Mesh) (past before after : List Placed) (x : Placed) (e : Entry) → entry_of x ≡ Some e
    → In (sign e x.line.caller (place_in m (past ++ before) x)) (signs_on m past (before ++ x ∷ after))
unfolding signs_on In
from_in m past [] after x e is = subst (λ (l : List Placed). In (sign e x.line.caller (place_in m l x)) (signs_on m past (x ∷ after))) (sym (append_none past)) (rw is (inl refl))
from_in m past (y ∷ before) after x e is = by (entry_of y)
    (subst (λ (l : List Placed). In (sign e x.line.caller (place_in m l x)) (signs_on m (past ++ y ∷ []) (before ++ x ∷ after)))
    (append_assoc past (y ∷ []) before) (from_in m (past ++ y ∷ []) before after x e is))
  where
    by : (o : Option Entry) → In (sign e x.line.caller (place_in m (past ++ y ∷ before) x)) (signs_on m (past ++ y ∷ []) (before ++ x ∷ after))
        → In (sign e x.line.caller (place_in m (past ++ y ∷ before) x)) (sign_first o y.line.caller (place_in m past y) (signs_on m (past ++ y ∷ []) (before ++ x ∷ after)))
    by None i = i
    by (Some z) i = inr i

-- ## Lists
in_between : (before after : List Placed) (x : Placed) → Contains (before ++ x ∷ after) x
in_between [] after x = contains_head x after x refl
in_between (y ∷ before) after x = contains_tail y (before ++ x ∷ after) x (in_between before after x)

history_between : (k : ℕ) (before after : List Placed) (x : Placed) → x.node ≡ k → history_of k before ++ x.line ∷ history_of k after ≡ history_of k (before ++ x ∷ after)
unfolding history_of
history_between k [] after x e = rw (same_test x.node k e) refl
history_between k (y ∷ before) after x e = by (y.node == k) (history_between k before after x e)
  where
    by : (b : Bool) → map (λ (z : Placed). z.line) (filter (λ (z : Placed). z.node == k) before) ++ x.line ∷ map (λ (z : Placed). z.line) (filter (λ (z : Placed). z.node == k) after)
        ≡ map (λ (z : Placed). z.line) (filter (λ (z : Placed). z.node == k) (before ++ x ∷ after))
        → map (λ (z : Placed). z.line) (cond b (y ∷ filter (λ (z : Placed). z.node == k) before) (filter (λ (z : Placed). z.node == k) before)) ++
        x.line ∷ map (λ (z : Placed). z.line) (filter (λ (z : Placed). z.node == k) after)
        ≡ map (λ (z : Placed). z.line) (cond b (y ∷ filter (λ (z : Placed). z.node == k) (before ++ x ∷ after)) (filter (λ (z : Placed). z.node == k) (before ++ x ∷ after)))
    by true h = ap (λ (l : List HistoryLine). y.line ∷ l) h
    by false h = h

-- a list of lines, cut where its history is cut
pub record Among (k : ℕ) (t : List Placed) (before : List HistoryLine) (h : HistoryLine) : Type 0 where
  pub past : List Placed
  pub line : Placed
  pub rest : List Placed
  pub whole : t ≡ past ++ line ∷ rest
  pub before_is : history_of k past ≡ before
  pub line_is : line.line ≡ h
  pub node_is : line.node ≡ k

record Unmapped (xs : List Placed) (before : List HistoryLine) (h : HistoryLine) : Type 0 where
  past : List Placed
  line : Placed
  rest : List Placed
  whole : xs ≡ past ++ line ∷ rest
  before_is : map (λ (z : Placed). z.line) past ≡ before
  line_is : line.line ≡ h

unmapped : (xs : List Placed) (before after : List HistoryLine) (h : HistoryLine) → before ++ h ∷ after ≡ map (λ (z : Placed). z.line) xs → Unmapped xs before h
unmapped [] [] after h e = absurd (cc e)
unmapped [] (g ∷ before) after h e = absurd (cc e)
unmapped (x ∷ xs) [] after h e = let same : h ≡ x.line = cc e in record { past = []; line = x; rest = xs; whole = refl; before_is = refl; line_is = sym same }
unmapped (x ∷ xs) (g ∷ before) after h e =
    let first : g ≡ x.line = cc e in
    let rest : before ++ h ∷ after ≡ map (λ (z : Placed). z.line) xs = cc e in
    let w : Unmapped xs before h = unmapped xs before after h rest in
    record {
      past = x ∷ w.past;
      line = w.line;
      rest = w.rest;
      whole = ap (λ (l : List Placed). x ∷ l) w.whole;
      before_is = ap (λ (l : List HistoryLine). x.line ∷ l) w.before_is ∙ ap (λ (z : HistoryLine). z ∷ before) (sym first);
      line_is = w.line_is;
    }

pub among : (k : ℕ) (t : List Placed) (before after : List HistoryLine) (h : HistoryLine) → before ++ h ∷ after ≡ history_of k t → Among k t before h
unfolding history_of Alike
among k t before after h e =
    let u : Unmapped (filter (λ (z : Placed). z.node == k) t) before h = unmapped (filter (λ (z : Placed). z.node == k) t) before after h e in
    let c : Cut (λ (z : Placed). z.node == k) t u.past u.line = cut_filter (λ (z : Placed). z.node == k) t u.past u.line u.rest u.whole in
    record {
      past = c.past;
      line = u.line;
      rest = c.rest;
      whole = sym c.whole;
      before_is = ap (map (λ (z : Placed). z.line)) c.before ∙ u.before_is;
      line_is = u.line_is;
      node_is = at u.line.node c.passes (alike u.line.node k);
    }
  where
    at : (j : ℕ) → (j == k) ≡ true → Alike j k → j ≡ k
    at j f (inl g) = g.1
    at j f (inr g) = true≢false (sym f ∙ g.0)

node_of : (x : Placed) (e : Entry) → entry_of x ≡ Some e → e.node ≡ x.node
unfolding entry_of
node_of x e is = by (move_of x.line.caller x.muted x.line.ask x.line.answer) is
  where
    by : (o : Option _) → entry_at x.node o ≡ Some e → e.node ≡ x.node
    by None f = absurd (cc f)
    by (Some v) f = let same : record { node = x.node; move = v } ≡ e = cc f in ap (λ (z : Entry). z.node) (sym same)

-- ## One line more, at its node and at another
history_next : (k : ℕ) (x : Placed) (xs : List Placed) → x.node ≡ k → history_of k (x ∷ xs) ≡ x.line ∷ history_of k xs
unfolding history_of
history_next k x xs e = rw (same_test x.node k e) refl

history_passed : (k : ℕ) (x : Placed) (xs : List Placed) → x.node ≢ k → history_of k (x ∷ xs) ≡ history_of k xs
unfolding history_of
history_passed k x xs e = rw (other_test x.node k e) refl

both_note : (k : ℕ) (x p : Placed) (xs ps : List Placed) (o : Option Entry) → entry_of x ≡ o → entry_of p ≡ o → ((e : Entry) → o ≡ Some e → e.node ≡ k)
    → entries_at k (filter_map entry_of xs) ≡ filter_map entry_of ps → entries_at k (filter_map entry_of (x ∷ xs)) ≡ filter_map entry_of (p ∷ ps)
both_note k x p xs ps None e f at h = rw (e, f) h
both_note k x p xs ps (Some y) e f at h = rw (e, f, same_test y.node k (at y refl)) (ap (λ (l : List Entry). y ∷ l) h)

none_notes : (k : ℕ) (x : Placed) (xs : List Placed) (es : List Entry) (o : Option Entry) → entry_of x ≡ o → ((e : Entry) → o ≡ Some e → e.node ≢ k)
    → entries_at k (filter_map entry_of xs) ≡ es → entries_at k (filter_map entry_of (x ∷ xs)) ≡ es
none_notes k x xs es None e off h = rw e h
none_notes k x xs es (Some y) e off h = rw (e, other_test y.node k (off y refl)) h

module _ (m : Mesh) (t : List Placed) (a : Agrees m) (tr : IsTrace m t) where
  -- a line of a node's history has its line in the record of its caller, which sent it
  matched_at : (c i : ℕ) (before : List Placed) (x : Placed) → x.line.caller ≡ c → x.node ≡ i + 1 → Sent c (record_of m c) before x → Matched m (i + 1) (history_of (i + 1) before) x.line
  unfolding Tied
  matched_at c i before x by at s = record {
    past = s.past;
    line = s.line;
    rest = s.rest;
    whole = sym s.whole ∙ ap (record_of m) (sym by);
    reach = s.event.reach (i + 1) ∙ same_test x.node (i + 1) at;
    count = same_length (reached (i + 1) s.past) (lines_of c (history_of (i + 1) before)) (tied_of (i + 1) c s.past before s.step)
        ∙ ap (λ (d : ℕ). length (lines_of d (history_of (i + 1) before))) (sym by);
    same = s.event.same;
  }

  -- its place in the record
  place_at : (c : ℕ) (before : List Placed) (x : Placed) → x.line.caller ≡ c → IsInMesh m x → (s : Sent c (record_of m c) before x) → place_in m before x ≡ length s.past + 1
  unfolding matched_at
  place_at c before x by w s =
      let at : x.node ≡ x.node - 1 + 1 = omega (arith, w.from_one) in
      ap (λ (k : ℕ). place_here m k (history_of k before) x.line) at ∙ place_is m (x.node - 1) (history_of (x.node - 1 + 1) before) x.line (matched_at c (x.node - 1) before x by at s)

  -- what it did to its node
  entry_at_node : (i : ℕ) (before : List Placed) (x : Placed) → x.node ≡ i + 1 → Sent x.line.caller (record_of m x.line.caller) before x
      → entry_here m (i + 1) (history_of (i + 1) before) x.line ≡ entry_of x
  unfolding entry_of matched_at
  entry_at_node i before x at s =
      let its : is_muted (line_of_caller m (i + 1) (history_of (i + 1) before) x.line) ≡ x.muted =
      ap is_muted (line_is m i (history_of (i + 1) before) x.line (matched_at x.line.caller i before x refl at s)) ∙ s.event.muted in
      ap (λ (b : Bool). entry_at (i + 1) (move_of x.line.caller b x.line.ask x.line.answer)) its ∙ ap (λ (k : ℕ). entry_at k (move_of x.line.caller x.muted x.line.ask x.line.answer)) (sym at)

  sent_of : (before after : List Placed) (x : Placed) → t ≡ before ++ x ∷ after → IsInMesh m x → Sent x.line.caller (record_of m x.line.caller) before x
  sent_of before after x whole w = sent_at x.line.caller (record_of m x.line.caller) t before after x (tr.records x.line.caller w.caller) whole refl

  in_mesh : (before after : List Placed) (x : Placed) → t ≡ before ++ x ∷ after → IsInMesh m x
  in_mesh before after x whole = tr.lines x (subst (λ (l : List Placed). Contains l x) (sym whole) (in_between before after x))

  -- ## Noted in the records exactly where listed in the trace
  trace_noted : (s : Sign) → In s (signs_on m [] t) → falls s.entry.move ≡ false → In s (all_signs m (operator_of m))
  trace_noted s i off =
      let f : From m [] t s = from_out m [] t s i in
      let w : IsInMesh m f.line = in_mesh f.before f.after f.line f.whole in
      let k : ℕ = f.line.node - 1 in
      let at : f.line.node ≡ k + 1 = omega (arith, w.from_one) in
      let in_ : k < m.nodes = omega (arith, w.from_one, w.up_to_n) in
      let whole : history_of (k + 1) f.before ++ f.line.line ∷ history_of (k + 1) f.after ≡ history_at m k =
      history_between (k + 1) f.before f.after f.line at ∙ ap (history_of (k + 1)) (sym f.whole) ∙ sym (tr.histories k in_) in
      let entry : entry_here m (k + 1) (history_of (k + 1) f.before) f.line.line ≡ Some s.entry = entry_at_node k f.before f.line at (sent_of f.before f.after f.line f.whole w) ∙ f.entry in
      let place : place_here m (k + 1) (history_of (k + 1) f.before) f.line.line ≡ s.place = ap (λ (j : ℕ). place_here m j (history_of j f.before) f.line.line) (sym at) ∙ f.place in
      subst (λ (p : ℕ). In (sign s.entry s.caller p) (all_signs m (operator_of m))) place
      (subst (λ (c : ℕ). In (sign s.entry c (place_here m (k + 1) (history_of (k + 1) f.before) f.line.line)) (all_signs m (operator_of m))) f.caller
      (history_noted m k (history_of (k + 1) f.before) (history_of (k + 1) f.after) f.line.line s.entry a in_ whole entry off))

  trace_all : (s : Sign) → In s (all_signs m (operator_of m)) → In s (signs_on m [] t)
  trace_all s i =
      let l : Listed m s = (sign_listed m s a i).0 in
      let w : Among (l.index + 1) t l.before l.line = among (l.index + 1) t l.before l.after l.line (l.whole ∙ tr.histories l.index l.in_nodes) in
      let sent : Sent w.line.line.caller (record_of m w.line.line.caller) w.past w.line = sent_of w.past w.rest w.line w.whole (in_mesh w.past w.rest w.line w.whole) in
      let here : entry_here m (l.index + 1) (history_of (l.index + 1) w.past) w.line.line ≡ entry_here m (l.index + 1) l.before l.line =
      ap (λ (hs : List HistoryLine). entry_here m (l.index + 1) hs w.line.line) w.before_is ∙ ap (entry_here m (l.index + 1) l.before) w.line_is in
      let entry : entry_of w.line ≡ Some s.entry = sym (entry_at_node l.index w.past w.line w.node_is sent) ∙ here ∙ l.entry in
      let place : place_in m w.past w.line ≡ s.place =
      ap (λ (k : ℕ). place_here m k (history_of k w.past) w.line.line) w.node_is
      ∙ ap (λ (hs : List HistoryLine). place_here m (l.index + 1) hs w.line.line) w.before_is
      ∙ ap (place_here m (l.index + 1) l.before) w.line_is
      ∙ l.place in
      let caller : w.line.line.caller ≡ s.caller = ap (λ (h : HistoryLine). h.caller) w.line_is ∙ l.caller in
      subst (λ (p : ℕ). In (sign s.entry s.caller p) (signs_on m [] t)) place
      (subst (λ (c : ℕ). In (sign s.entry c (place_in m w.past w.line)) (signs_on m [] t)) caller
      (subst (λ (xs : List Placed). In (sign s.entry w.line.line.caller (place_in m w.past w.line)) (signs_on m [] xs)) (sym w.whole) (from_in m [] w.past w.rest w.line s.entry entry)))

  trace_within : (s : Sign) → In s (signs_on m [] t) → (1 ≤ s.entry.node) × (s.entry.node ≤ m.nodes)
  trace_within s i =
      let f : From m [] t s = from_out m [] t s i in
      let w : IsInMesh m f.line = in_mesh f.before f.after f.line f.whole in
      let e : s.entry.node ≡ f.line.node = node_of f.line s.entry f.entry in
      (omega (arith, e, w.from_one), omega (arith, e, w.up_to_n))

  -- ## A caller's earlier line has a lower place
  lower_place : (before mid after : List Placed) (x y : Placed) → t ≡ (before ++ x ∷ mid) ++ y ∷ after → y.line.caller ≡ x.line.caller → place_in m before x < place_in m (before ++ x ∷ mid) y
  lower_place before mid after x y whole same =
      let c : ℕ = x.line.caller in
      let v : IsInMesh m y = in_mesh (before ++ x ∷ mid) after y whole in
      let u : IsInMesh m x = in_mesh before (mid ++ y ∷ after) x (whole ∙ append_assoc before (x ∷ mid) (y ∷ after)) in
      let s : Sent c (record_of m c) (before ++ x ∷ mid) y = sent_at c (record_of m c) t (before ++ x ∷ mid) after y (tr.records c u.caller) whole same in
      let r : Sent c s.past before x = sent_at c s.past (before ++ x ∷ mid) before mid x s.step refl refl in
      let first : place_in m before x ≡ length r.past + 1 = place_at c before x refl u (sent_more c s.past (record_of m c) (s.line ∷ s.rest) before x s.whole r) in
      let second : place_in m (before ++ x ∷ mid) y ≡ length s.past + 1 = place_at c (before ++ x ∷ mid) y same v s in
      let long : length s.past ≡ length r.past + length (r.line ∷ r.rest) = ap length r.whole ∙ length-append r.past (r.line ∷ r.rest) in
      omega (arith, first, second, long)

  stands : (past xs : List Placed) → t ≡ past ++ xs → StandAll (signs_on m past xs)
  unfolding StandAll signs_on
  stands past [] whole = tt
  stands past (x ∷ xs) whole = by (entry_of x) (stands (past ++ x ∷ []) xs (whole ∙ sym (append_assoc past (x ∷ []) xs)))
    where
      first : (e : Entry) (u : Sign) → In u (signs_on m (past ++ x ∷ []) xs) → (r : Rivals (sign e x.line.caller (place_in m past x)) u) → Stand (sign e x.line.caller (place_in m past x)) u r
      first e u i r =
          let f : From m (past ++ x ∷ []) xs u = from_out m (past ++ x ∷ []) xs u i in
          let lists : (past ++ x ∷ []) ++ f.before ≡ past ++ x ∷ f.before = append_assoc past (x ∷ []) f.before in
          let all : t ≡ (past ++ x ∷ f.before) ++ f.line ∷ f.after =
          whole ∙ ap (λ (l : List Placed). past ++ x ∷ l) f.whole ∙ sym (append_assoc past (x ∷ f.before) (f.line ∷ f.after)) in
          let lower : place_in m past x < place_in m (past ++ x ∷ f.before) f.line = lower_place past f.before f.after x f.line all (f.caller ∙ sym r.caller) in
          inl (subst (λ (p : ℕ). place_in m past x < p) (ap (λ (l : List Placed). place_in m l f.line) (sym lists) ∙ f.place) lower)

      by : (o : Option Entry) → StandAll (signs_on m (past ++ x ∷ []) xs) → StandAll (sign_first o x.line.caller (place_in m past x) (signs_on m (past ++ x ∷ []) xs))
      by None h = h
      by (Some e) h = (first e, h)

  -- ## At each node it has the node's moving entries
  at_node : (i : ℕ) (past xs : List Placed) → t ≡ past ++ xs → entries_at (i + 1) (filter_map entry_of xs) ≡ filter_map entry_of
      (placed_from m (i + 1) (history_of (i + 1) past) (history_of (i + 1) xs))
  unfolding Alike
  at_node i past [] whole = unfold history_of placed_from in refl
  at_node i past (x ∷ xs) whole = by (alike x.node (i + 1)) (at_node i (past ++ x ∷ []) xs (whole ∙ sym (append_assoc past (x ∷ []) xs)))
    where
      on : x.node ≡ i + 1 → entries_at (i + 1) (filter_map entry_of xs) ≡ filter_map entry_of (placed_from m (i + 1) (history_of (i + 1) past ++ x.line ∷ []) (history_of (i + 1) xs))
          → entries_at (i + 1) (filter_map entry_of (x ∷ xs)) ≡ filter_map entry_of (placed_from m (i + 1) (history_of (i + 1) past) (x.line ∷ history_of (i + 1) xs))
      on e h = unfold placed_from in both_note (i + 1) x (record { node = i + 1; line = x.line; muted = is_muted (line_of_caller m (i + 1) (history_of (i + 1) past) x.line) })
          xs (placed_from m (i + 1) (history_of (i + 1) past ++ x.line ∷ []) (history_of (i + 1) xs)) (entry_of x) refl
          (entry_at_node i past x e (sent_of past xs x whole (in_mesh past xs x whole))) (λ y f. node_of x y f ∙ e) h

      by : Alike x.node (i + 1) → entries_at (i + 1) (filter_map entry_of xs) ≡ filter_map entry_of (placed_from m (i + 1) (history_of (i + 1) (past ++ x ∷ [])) (history_of (i + 1) xs))
          → entries_at (i + 1) (filter_map entry_of (x ∷ xs)) ≡ filter_map entry_of (placed_from m (i + 1) (history_of (i + 1) past) (history_of (i + 1) (x ∷ xs)))
      by (inl e) h =
          subst (λ (hs : List HistoryLine). entries_at (i + 1) (filter_map entry_of (x ∷ xs)) ≡ filter_map entry_of
          (placed_from m (i + 1) (history_of (i + 1) past) hs)) (sym (history_next (i + 1) x xs e.1))
          (on e.1 (subst (λ (hs : List HistoryLine). entries_at (i + 1) (filter_map entry_of xs) ≡ filter_map entry_of
          (placed_from m (i + 1) hs (history_of (i + 1) xs))) (history_more (i + 1) past x e.1) h))
      by (inr e) h =
          none_notes (i + 1) x xs _ (entry_of x) refl (λ y f g. e.1 (sym (node_of x y f) ∙ g))
          (subst (λ (hs : List HistoryLine). entries_at (i + 1) (filter_map entry_of xs) ≡ filter_map entry_of
          (placed_from m (i + 1) (history_of (i + 1) past) hs)) (sym (history_passed (i + 1) x xs e.1))
          (subst (λ (hs : List HistoryLine). entries_at (i + 1) (filter_map entry_of xs) ≡ filter_map entry_of (placed_from m (i + 1) hs (history_of (i + 1) xs))) (history_off (i + 1) past x e.1) h))

  nodes_are : (i : ℕ) → i < m.nodes → entries_at (i + 1) (entries (signs_on m [] t)) ≡ moving_of (placed_at m i)
  unfolding moving_of history_of
  nodes_are i in_ =
      ap (entries_at (i + 1)) (entries_are m [] t) ∙ at_node i [] t refl ∙ ap (λ (hs : List HistoryLine). filter_map entry_of (placed_from m (i + 1) [] hs)) (sym (tr.histories i in_))

  arranged : Arranged m (signs_on m [] t)
  arranged = record { noted = trace_noted; all = trace_all; within = trace_within; keeps = stand_keeps (signs_on m [] t) (stands [] t refl); nodes = nodes_are }

pub trace_runs : (m : Mesh) (t : List Placed) → Agrees m → IsTrace m t → IsRun m.nodes (moving_of t)
unfolding moving_of
trace_runs m t a tr = subst (IsRun m.nodes) (entries_are m [] t) (arranged_runs m (signs_on m [] t) a (arranged m t a tr))

-- at each node these are the node's moving entries, in its order
pub trace_at_nodes : (m : Mesh) (t : List Placed) → Agrees m → IsTrace m t → (i : ℕ) → i < m.nodes → entries_at (i + 1) (moving_of t) ≡ moving_of (placed_at m i)
unfolding moving_of
trace_at_nodes m t a tr i in_ = sym (ap (entries_at (i + 1)) (entries_are m [] t)) ∙ nodes_are m t a tr i in_
