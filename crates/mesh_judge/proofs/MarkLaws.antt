-- A record that goes by a plan, line by line.
use Rattle.std.proofs.Common.{◌≡◌, ◌≢◌, ℕ, zero, suc, ◌+◌, ◌-◌, ◌<◌, ◌≤◌, ◌^◌, ◌==◌, List, [], ◌∷◌, ◌++◌, Bool, true, false, cond, not, Contains, Option, Some, None, length, refl}
use Rattle.std.proofs.Common.{sym, ap, ◌∙◌, subst, arith, get_or, set, take, drop, inl, inr, ◌⊎◌, Decides, length-append, append-nil, replicate, nat_lt}
use Rattle.std.specs.Prelude.{slice_get, ◌&&◌, ◌||◌}
use Rattle.std.specs.List.{count_by}
use Rattle.std.specs.Str.{bytes_eq}
use Rattle.std.specs.BTreeSet.{contains}
use Rattle.std.specs.Ordering.{nat_cmp}
use Rattle.std.proofs.lemmas.Bool.{true≢false, and_parts, and_from, cond-true, cond-false, cases_eq, cases_lt, eq-eqb, ne_eqb, eqb-true, ltb-true, lt-ltb}
use Rattle.std.proofs.lemmas.List.{take_more, drop_all, get_or-set_same, get_or-set_other, length-set, get_or-replicate, length-replicate, get_or_default}
use Rattle.std.proofs.lemmas.List.Sums.{count_by-le-length}
use Rattle.journal_core.specs.declared.request.Request.{Request}
use Rattle.writer_core.proofs.RoundLaws.{count_cons}
use Rattle.journal_history.specs.declared.node_ask.NodeAsk.{NodeAsk}
use Rattle.journal_history.specs.declared.record.Record.{Record}
use Rattle.journal_history.specs.declared.record.Record.TheVariants.{Call, Late, Operator, Outcome}
use Rattle.journal_history.specs.declared.record.Told.{Told}
use Rattle.journal_history.specs.declared.record.Told.TheVariants as told
use Rattle.journal_history.specs.declared.mark.Mark.{Mark}
use Rattle.journal_history.specs.declared.mark.MarkKind.{MarkKind}
use Rattle.journal_history.specs.declared.mark.MarkKind.TheVariants as kind
use Rattle.mesh.specs.Marks.{mark, same_kind, calls_to, next_number, asked_in, is_request, is_late_of, marked_late, is_copy_of, copies_of, IsAsMarked, IsCopy, IsMarked, AreCopied, is_marked}
use Rattle.mesh.proofs.Lists.{Alike, alike, contains_head, contains_tail}
use Rattle.mesh.proofs.CallLists.{calls_append}
use Rattle.mesh.proofs.MarkTests.{kind_is, marked_has, has_marked}
use Rattle.mesh.proofs.CopyLaws.{one_if, one_more, none_more, copy_named}
use Rattle.mesh_judge.specs.declared.counts.Counts.{Counts}
use Rattle.mesh_judge.specs.declared.marking.Numbers.{Numbers}
use Rattle.mesh_judge.specs.declared.marking.MarkTable.{MarkTable}
use Rattle.mesh_judge.specs.declared.marking.CallTable.{CallTable}
use Rattle.mesh_judge.specs.Keys.{is_ask, ask_key, call_key, count_of}
use Rattle.mesh_judge.specs.Marking.{as_marked, is_late_at, KnowsMarks, KnowsLate, KnowsPlan, KnowsNext, KnowsCalls, IsDue, LineIsMarked, LineIsCopied}
use Rattle.mesh_judge.proofs.Deciding.{front}
use Rattle.mesh_judge.proofs.KeyLaws.{call_tested}
use Rattle.mesh_judge.proofs.DueLaws.{none_of, marked_call, marked_stays, copies_more}

-- ## A call is told as it is marked
not_marked : (ms : List Mark) (k n : ℕ) (kd : MarkKind) → not (is_marked ms k n kd) ≡ true → Contains ms (mark k n kd) → ⊥
not_marked ms k n kd e h = true≢false (sym e ∙ ap not (has_marked k n kd ms h))

unmarked : (ms : List Mark) (k n : ℕ) (kd : MarkKind) → (Contains ms (mark k n kd) → ⊥) → not (is_marked ms k n kd) ≡ true
unmarked ms k n kd off = by (is_marked ms k n kd) refl
  where
    by : (b : Bool) → is_marked ms k n kd ≡ b → not (is_marked ms k n kd) ≡ true
    by true e = absurd (off (marked_has k n kd ms e))
    by false e = ap not e

-- a call of which something or nothing was heard
heard_marked : (plan : List Mark) (k n : ℕ) (t : Told) → t ≢ told.Dropped → t ≢ told.Muted
    → Decides (not (is_marked plan k n kind.Dropped) && not (is_marked plan k n kind.Muted)) (IsAsMarked plan k n t)
heard_marked plan k n t d m = (
  λ e. let p = and_parts (not (is_marked plan k n kind.Dropped)) (not (is_marked plan k n kind.Muted)) e in (
    (λ f. absurd (d f), λ h. absurd (not_marked plan k n kind.Dropped p.0 h)),
    λ off. (λ f. absurd (m f), λ h. absurd (not_marked plan k n kind.Muted p.1 h)),
  ),
  λ h. and_from (not (is_marked plan k n kind.Dropped)) (not (is_marked plan k n kind.Muted))
      (unmarked plan k n kind.Dropped (λ g. d (h.0.1 g))) (unmarked plan k n kind.Muted (λ g. m ((h.1 d).1 g))),
)

pub told_marked : (plan : List Mark) (k n : ℕ) (t : Told) → Decides (as_marked t (is_marked plan k n kind.Dropped) (is_marked plan k n kind.Muted)) (IsAsMarked plan k n t)
told_marked plan k n told.Dropped = (λ e. ((λ f. marked_has k n kind.Dropped plan e, λ h. refl), λ off. absurd (off refl)), λ h. has_marked k n kind.Dropped plan (h.0.0 refl))
told_marked plan k n told.Muted = (
  λ e. let p = and_parts (not (is_marked plan k n kind.Dropped)) (is_marked plan k n kind.Muted) e in (
    (λ (f : told.Muted ≡ told.Dropped). absurd (cc f), λ h. absurd (not_marked plan k n kind.Dropped p.0 h)),
    λ off. (λ f. marked_has k n kind.Muted plan p.1, λ h. refl),
  ),
  λ h. and_from (not (is_marked plan k n kind.Dropped)) (is_marked plan k n kind.Muted)
      (unmarked plan k n kind.Dropped (λ g. let f : told.Muted ≡ told.Dropped = h.0.1 g in cc f))
      (has_marked k n kind.Muted plan ((h.1 (λ (f : told.Muted ≡ told.Dropped). cc f)).0 refl)),
)
told_marked plan k n (told.Reply reply) = heard_marked plan k n (told.Reply reply) (λ (f : told.Reply reply ≡ told.Dropped). cc f) (λ (f : told.Reply reply ≡ told.Muted). cc f)
told_marked plan k n told.Silent = heard_marked plan k n told.Silent (λ (f : told.Silent ≡ told.Dropped). cc f) (λ (f : told.Silent ≡ told.Muted). cc f)

-- ## One mark more
or_none : (b : Bool) → (b || (false || false)) ≡ b
or_none true = refl
or_none false = refl

turned : (b c : Bool) → (b || c) ≡ (c || (b || false))
turned true true = refl
turned true false = refl
turned false true = refl
turned false false = refl

abbrev IsOf : Mark → MarkKind → ℕ → Type 0
IsOf m kd nodes = (m.kind ≡ kd) × (1 ≤ m.node) × (m.node ≤ nodes)

one_mark : (i : ℕ) (plan : List Mark) (m : Mark) → i < length plan → m ≡ get_or plan i m → take (i + 1) plan ≡ take i plan ++ m ∷ []
one_mark i plan m l is = take_more plan i m l ∙ ap (λ x. take i plan ++ x ∷ []) (sym is)

-- ## Calls so far
-- no more than there are lines
pub calls_fit : (k : ℕ) (xs : List Record) → length (calls_to k xs) ≤ length xs
unfolding calls_to
calls_fit k [] = omega arith
calls_fit k (Call i q t ∷ xs) = by (i == k) (calls_fit k xs)
  where
    by : (b : Bool) → length (calls_to k xs) ≤ length xs → length (cond b (q ∷ calls_to k xs) (calls_to k xs)) ≤ suc (length xs)
    by true h = omega (arith, h)
    by false h = omega (arith, h)
calls_fit k (Late i q ∷ xs) = let h = calls_fit k xs in omega (arith, h)
calls_fit k (Operator i a d ∷ xs) = let h = calls_fit k xs in omega (arith, h)
calls_fit k (Outcome x ∷ xs) = let h = calls_fit k xs in omega (arith, h)

own_call : (k node : ℕ) (q : Request) (t : Told) → node ≡ k → calls_to k (Call node q t ∷ []) ≡ q ∷ []
unfolding calls_to
own_call k node q t e = ap (λ b. cond b (q ∷ []) []) (eq-eqb node k e)

other_call : (k node : ℕ) (q : Request) (t : Told) → (node == k) ≡ false → calls_to k (Call node q t ∷ []) ≡ []
unfolding calls_to
other_call k node q t e = ap (λ b. cond b (q ∷ []) []) e

-- the number of the next call, after a call to this node, and after a line that is none
pub number_more : (k node : ℕ) (before : List Record) (q : Request) (t : Told) → node ≡ k → next_number k (before ++ Call node q t ∷ []) ≡ next_number k before + 1
number_more k node before q t e =
    ap (λ l. length l + 1) (calls_append k before (Call node q t ∷ []) ∙ ap (λ l. calls_to k before ++ l) (own_call k node q t e)) ∙ ap (λ n. n + 1) (length-append (calls_to k before) (q ∷ []))

pub number_stays : (k : ℕ) (before : List Record) (r : Record) → calls_to k (r ∷ []) ≡ [] → next_number k (before ++ r ∷ []) ≡ next_number k before
number_stays k before r e = ap (λ l. length l + 1) (calls_append k before (r ∷ []) ∙ ap (λ l. calls_to k before ++ l) e ∙ append-nil (calls_to k before))

pub number_fits : (nodes i most : ℕ) (plan : List Mark) (before : List Record) (calls : CallTable) → i < length calls.next.items
    → length before + 2 ≤ most → KnowsCalls nodes plan before calls → get_or calls.next.items i 0 + 1 ≤ most
number_fits nodes i most plan before calls low fits known =
    let low2 : i < nodes = omega (arith, low, known.count) in
    let is = known.next i low2 in let fit = calls_fit (i + 1) before in omega (arith, is, fit, fits)

-- ## A node's marks
at_node : (nodes node : ℕ) → (1 ≤ node) × (node ≤ nodes) → (node - 1 < nodes) × (node - 1 + 1 ≡ node)
at_node nodes node (low, high) = (omega (arith, low, high), omega (arith, low))

pub marked_at : (nodes node number n : ℕ) (plan : List Mark) (kd : MarkKind) (lists : List Numbers) (x : Numbers) → (1 ≤ node) × (node ≤ nodes)
    → KnowsMarks nodes plan kd lists → x ≡ get_or lists (node - 1) x → number ≡ n
    → contains nat_cmp x.set number ≡ is_marked plan node n kd
marked_at nodes node number n plan kd lists x low known is e =
    let a = at_node nodes node low in
    ap (λ (y : Numbers). contains nat_cmp y.set number) is ∙ known.each (node - 1) number x a.0 ∙ ap (λ k. is_marked plan k number kd) a.1 ∙ ap (λ m. is_marked plan node m kd) e

-- ## One more line
-- the number of the call that comes next to a node
pub number_at : (nodes node number : ℕ) (before : List Record) (next : List ℕ) → (1 ≤ node) × (node ≤ nodes) → number ≡ get_or next (node - 1) number → KnowsNext nodes before next
    → number ≡ next_number node before
number_at nodes node number before next low is known =
    let a = at_node nodes node low in let inside : node - 1 < length next = omega (arith, low.0, low.1, known.count) in
    is ∙ get_or_default next (node - 1) number 0 inside ∙ known.next (node - 1) a.0 ∙ ap (λ k. next_number k before) a.1

nexts : (nodes : ℕ) (plan : List Mark) (before : List Record) (calls : CallTable) → KnowsCalls nodes plan before calls → KnowsNext nodes before calls.next.items
nexts nodes plan before calls h = record { count = h.count; next = h.next }

pub number_is : (nodes node number : ℕ) (plan : List Mark) (before : List Record) (calls : CallTable) → (1 ≤ node) × (node ≤ nodes)
    → number ≡ get_or calls.next.items (node - 1) number → KnowsCalls nodes plan before calls → number ≡ next_number node before
number_is nodes node number plan before calls low is known = number_at nodes node number before calls.next.items low is (nexts nodes plan before calls known)

-- those of all nodes, after a call
pub next_add : (nodes node number : ℕ) (before : List Record) (p : Request) (t : Told) (old new : List ℕ) → (1 ≤ node) × (node ≤ nodes) → number ≡ get_or old (node - 1) number
    → new ≡ set old (node - 1) (number + 1) → KnowsNext nodes before old → KnowsNext nodes (before ++ Call node p t ∷ []) new
unfolding Alike
next_add nodes node number before p t old new low is grown known =
    record { count = ap length grown ∙ length-set old (node - 1) (number + 1) ∙ known.count; next = λ i less. next i less (alike node (i + 1)) }
  where
    inside : node - 1 < length old
    inside = omega (arith, low.0, low.1, known.count)

    next : (i : ℕ) → i < nodes → Alike node (i + 1) → get_or new i 0 ≡ next_number (i + 1) (before ++ Call node p t ∷ [])
    next i less (inl e) =
        let at : node - 1 ≡ i = omega (arith, e.1) in
        ap (λ l. get_or l i 0) grown ∙ subst (λ x. get_or (set old (node - 1) (number + 1)) x 0 ≡ number + 1) at (get_or-set_same old (node - 1) (number + 1) 0 inside)
        ∙ ap (λ n. n + 1) (number_at nodes node number before old low is known ∙ ap (λ k. next_number k before) e.1) ∙ sym (number_more (i + 1) node before p t e.1)
    next i less (inr e) =
        ap (λ l. get_or l i 0) grown ∙ get_or-set_other old (node - 1) i (number + 1) 0 (λ g. e.1 (omega (arith, g, low.0))) ∙ known.next i less
        ∙ sym (number_stays (i + 1) before (Call node p t) (other_call (i + 1) node p t e.0))

-- and after a line that is none
pub next_stays : (nodes : ℕ) (before : List Record) (r : Record) (next : List ℕ) → ((k : ℕ) → calls_to k (r ∷ []) ≡ []) → KnowsNext nodes before next → KnowsNext nodes (before ++ r ∷ []) next
next_stays nodes before r next none known = record { count = known.count; next = λ i less. known.next i less ∙ sym (number_stays (i + 1) before r (none (i + 1))) }

-- a call, of which as many copies are due as it has late marks
pub calls_add : (nodes node number many : ℕ) (plan : List Mark) (before : List Record) (p : Request) (t : Told) (old new : CallTable) (marks : MarkTable) → (1 ≤ node) × (node ≤ nodes)
    → number ≡ get_or old.next.items (node - 1) number → many ≡ count_of marks.late (call_key node number) → new.next.items ≡ set old.next.items (node - 1) (number + 1)
    → ((k : ℕ) (r : Request) → count_of new.due (ask_key k r) ≡ count_of old.due (ask_key k r) + cond (is_ask k r node p) many 0)
    → KnowsPlan nodes plan marks → KnowsCalls nodes plan before old → KnowsCalls nodes plan (before ++ Call node p t ∷ []) new
unfolding is_copy_of
calls_add nodes node number many plan before p t old new marks low is many_is grown more marked known = record {
  count = next.count;
  next = next.next;
  due = λ k q. due k q (more k q) (known.due k q) (marked_call plan k node p q t before) (none_more (is_copy_of k q) before (Call node p t) refl);
}
  where
    next : KnowsNext nodes (before ++ Call node p t ∷ []) new.next.items
    next = next_add nodes node number before p t old.next.items new.next.items low is grown (nexts nodes plan before old known)

    wanted : many ≡ count_by (is_late_at node (next_number node before)) plan
    wanted = many_is ∙ marked.late node number ∙ ap (λ (n : ℕ). count_by (is_late_at node n) plan) (number_is nodes node number plan before old low is known)

    due : (k : ℕ) (q : Request) → count_of new.due (ask_key k q) ≡ count_of old.due (ask_key k q) + cond (is_ask k q node p) many 0
        → count_of old.due (ask_key k q) + copies_of k q before ≡ marked_late plan k q before
        → marked_late plan k q (before ++ Call node p t ∷ []) ≡ marked_late plan k q before + cond (is_ask k q node p) (count_by (is_late_at node (next_number node before)) plan) 0
        → copies_of k q (before ++ Call node p t ∷ []) ≡ copies_of k q before
        → count_of new.due (ask_key k q) + copies_of k q (before ++ Call node p t ∷ []) ≡ marked_late plan k q (before ++ Call node p t ∷ [])
    due k q e f g h =
        let same : cond (is_ask k q node p) many 0 ≡ cond (is_ask k q node p) (count_by (is_late_at node (next_number node before)) plan) 0 =
        ap (λ (n : ℕ). cond (is_ask k q node p) n 0) wanted in
        omega (arith, e, f, g, h, same)

calls_stay : (nodes : ℕ) (plan : List Mark) (before : List Record) (r : Record) (calls : CallTable) → ((k : ℕ) → calls_to k (r ∷ []) ≡ [])
    → ((k : ℕ) (q : Request) → is_copy_of k q r ≡ false) → KnowsCalls nodes plan before calls → KnowsCalls nodes plan (before ++ r ∷ []) calls
calls_stay nodes plan before r calls none other h = record {
  count = h.count;
  next = (next_stays nodes before r calls.next.items none (nexts nodes plan before calls h)).next;
  due = λ k q. ap (λ (n : ℕ). count_of calls.due (ask_key k q) + n) (none_more (is_copy_of k q) before r (other k q)) ∙ h.due k q ∙ sym (marked_stays plan k q before r none);
}

-- a late copy, which was due
pub copy_taken : (nodes : ℕ) (plan : List Mark) (before : List Record) (node : ℕ) (r : Request) (old new : CallTable) → new.next.items ≡ old.next.items
    → ((k : ℕ) (q : Request) → count_of new.due (ask_key k q) + cond (is_ask k q node r) 1 0 ≡ count_of old.due (ask_key k q))
    → KnowsCalls nodes plan before old → KnowsCalls nodes plan (before ++ Late node r ∷ []) new
unfolding calls_to
copy_taken nodes plan before node r old new same less h = record {
  count = ap length same ∙ h.count;
  next = λ i low. ap (λ (l : List ℕ). get_or l i 0) same ∙ h.next i low ∙ sym (number_stays (i + 1) before (Late node r) refl);
  due = λ k q. due k q (less k q) (h.due k q) (copies_more k node r q before) (marked_stays plan k q before (Late node r) (λ i. refl));
}
  where
    due : (k : ℕ) (q : Request) → count_of new.due (ask_key k q) + one_if (is_ask k q node r) ≡ count_of old.due (ask_key k q)
        → count_of old.due (ask_key k q) + copies_of k q before ≡ marked_late plan k q before
        → copies_of k q (before ++ Late node r ∷ []) ≡ copies_of k q before + one_if (is_ask k q node r)
        → marked_late plan k q (before ++ Late node r ∷ []) ≡ marked_late plan k q before
        → count_of new.due (ask_key k q) + copies_of k q (before ++ Late node r ∷ []) ≡ marked_late plan k q (before ++ Late node r ∷ [])
    due k q e f g h = omega (arith, e, f, g, h)

-- lines that are neither
pub operator_stays : (nodes : ℕ) (plan : List Mark) (before : List Record) (node : ℕ) (ask : NodeAsk) (done : Bool) (calls : CallTable)
    → KnowsCalls nodes plan before calls → KnowsCalls nodes plan (before ++ Operator node ask done ∷ []) calls
unfolding calls_to is_copy_of
operator_stays nodes plan before node ask done calls h = calls_stay nodes plan before (Operator node ask done) calls (λ k. refl) (λ k q. refl) h

pub outcome_stays : (nodes : ℕ) (plan : List Mark) (before : List Record) (text : List ℕ) (calls : CallTable) → KnowsCalls nodes plan before calls
    → KnowsCalls nodes plan (before ++ Outcome text ∷ []) calls
unfolding calls_to is_copy_of
outcome_stays nodes plan before text calls h = calls_stay nodes plan before (Outcome text) calls (λ k. refl) (λ k q. refl) h

either : (b : Bool) (o : Option Request) → cond b o o ≡ o
either true o = refl
either false o = refl

nothing_asked : (k n : ℕ) → asked_in k n [] ≡ None
unfolding asked_in calls_to
nothing_asked k n = either (n == 0) None

nothing_late : (k : ℕ) (q : Request) (m : Mark) → is_late_of k q [] m ≡ false
unfolding is_late_of is_request
nothing_late k q m =
    ap (λ (o : Option Request). same_kind m.kind kind.Late && ((m.node == k) && is_request q o)) (nothing_asked m.node m.number) ∙ none_of (same_kind m.kind kind.Late) (m.node == k)

pub none_called : (plan : List Mark) (k : ℕ) (q : Request) → marked_late plan k q [] ≡ 0
none_called [] k q = refl
none_called (m ∷ plan) k q =
    let here : one_if (is_late_of k q [] m) ≡ 0 = ap one_if (nothing_late k q m) in
    omega (arith, here, none_called plan k q, count_cons (is_late_of k q []) m plan)

pub no_calls_yet : (nodes : ℕ) (plan : List Mark) (calls : CallTable) → calls.next.items ≡ replicate nodes 1 → ((key : List ℕ) → count_of calls.due key ≡ 0) → KnowsCalls nodes plan [] calls
unfolding calls_to
no_calls_yet nodes plan calls first none = record {
  count = ap length first ∙ length-replicate nodes 1;
  next = λ i less. ap (λ l. get_or l i 0) first ∙ get_or-replicate nodes i 1 0 less;
  due = λ k q. (let e : count_of calls.due (ask_key k q) ≡ 0 = none (ask_key k q) in omega (arith, e, none_called plan k q));
}

-- no more copies are due than there are marks
pub due_fits : (nodes : ℕ) (plan : List Mark) (before : List Record) (calls : CallTable) (k : ℕ) (q : Request) → KnowsCalls nodes plan before calls → count_of calls.due (ask_key k q) ≤ length plan
due_fits nodes plan before calls k q h = let e = h.due k q in omega (arith, e, count_by-le-length (is_late_of k q before) plan)

pub late_fits : (plan : List Mark) (late : Counts) (node number : ℕ) → KnowsLate plan late → count_of late (call_key node number) ≤ length plan
late_fits plan late node number h = let e = h node number in omega (arith, e, count_by-le-length (is_late_at node number) plan)

pub late_room : (plan : List Mark) (late : Counts) (node number : ℕ) → KnowsLate plan late → length plan + 1 < 2 ^ 64 → count_of late (call_key node number) + 1 < 2 ^ 64
late_room plan late node number h few = let e = late_fits plan late node number h in omega (arith, e, few)

pub late_next : (plan : List Mark) (i : ℕ) (d : Mark) (late : Counts) → i < length plan → KnowsLate (take i plan ++ get_or plan i d ∷ []) late → KnowsLate (take (i + 1) plan) late
late_next plan i d late l h = subst (λ ms. KnowsLate ms late) (sym (take_more plan i d l)) h

-- one more mark
late_counted : (plan : List Mark) (m : Mark) (old new : Counts) → m.kind ≡ kind.Late
    → ((key : List ℕ) → count_of new key ≡ cond (bytes_eq key (call_key m.node m.number)) (count_of old (call_key m.node m.number) + 1) (count_of old key))
    → KnowsLate plan old → KnowsLate (plan ++ m ∷ []) new
unfolding same_kind
late_counted plan m old new is more h node number =
    let test : bytes_eq (call_key node number) (call_key m.node m.number) ≡ ((m.node == node) && (m.number == number)) = call_tested node m.node number m.number in
    let late : is_late_at node number m ≡ ((m.node == node) && (m.number == number)) = ap (λ (x : MarkKind). same_kind x kind.Late && ((m.node == node) && (m.number == number))) is in
    by (((m.node == node) && (m.number == number))) refl test late (more (call_key node number)) (h node number) (one_more (is_late_at node number) plan m (is_late_at node number m) refl)
  where
    by : (b : Bool) → ((m.node == node) && (m.number == number)) ≡ b → bytes_eq (call_key node number) (call_key m.node m.number) ≡ ((m.node == node) && (m.number == number))
        → is_late_at node number m ≡ ((m.node == node) && (m.number == number))
        → count_of new (call_key node number) ≡ cond (bytes_eq (call_key node number) (call_key m.node m.number)) (count_of old (call_key m.node m.number) + 1) (count_of old (call_key node number))
        → count_of old (call_key node number) ≡ count_by (is_late_at node number) plan
        → count_by (is_late_at node number) (plan ++ m ∷ []) ≡ count_by (is_late_at node number) plan + one_if (is_late_at node number m)
        → count_of new (call_key node number) ≡ count_by (is_late_at node number) (plan ++ m ∷ [])
    by true b test late e f g =
        let parts = and_parts (m.node == node) (m.number == number) b in
        let a : m.node ≡ node = eqb-true m.node node parts.0 in
        let c : m.number ≡ number = eqb-true m.number number parts.1 in
        let there : count_of old (call_key m.node m.number) ≡ count_of old (call_key node number) =
        ap (λ (i : ℕ). count_of old (call_key i m.number)) a ∙ ap (λ (j : ℕ). count_of old (call_key node j)) c in
        let now : count_of new (call_key node number) ≡ count_of old (call_key m.node m.number) + 1 =
        e ∙ ap (λ (x : Bool). cond x (count_of old (call_key m.node m.number) + 1) (count_of old (call_key node number))) (test ∙ b) in
        let one : one_if (is_late_at node number m) ≡ 1 = ap one_if (late ∙ b) in
        omega (arith, now, there, f, g, one)
    by false b test late e f g =
        let now : count_of new (call_key node number) ≡ count_of old (call_key node number) =
        e ∙ ap (λ (x : Bool). cond x (count_of old (call_key m.node m.number) + 1) (count_of old (call_key node number))) (test ∙ b) in
        let none : one_if (is_late_at node number m) ≡ 0 = ap one_if (late ∙ b) in
        omega (arith, now, f, g, none)

pub late_set : (plan : List Mark) (m : Mark) (old new : Counts) (key : List ℕ) (count : ℕ) → m.kind ≡ kind.Late → key ≡ call_key m.node m.number → count ≡ count_of old key
    → ((q : List ℕ) → count_of new q ≡ cond (bytes_eq q key) (count + 1) (count_of old q)) → KnowsLate plan old → KnowsLate (plan ++ m ∷ []) new
late_set plan m old new key count is at was set h = late_counted plan m old new is more h
  where
    more : (q : List ℕ) → count_of new q ≡ cond (bytes_eq q (call_key m.node m.number)) (count_of old (call_key m.node m.number) + 1) (count_of old q)
    more q = set q ∙ ap (λ (x : List ℕ). cond (bytes_eq q x) (count + 1) (count_of old q)) at
        ∙ ap (λ (n : ℕ). cond (bytes_eq q (call_key m.node m.number)) (n + 1) (count_of old q)) (was ∙ ap (count_of old) at)

pub late_passed : (plan : List Mark) (m : Mark) (late : Counts) → m.kind ≢ kind.Late → KnowsLate plan late → KnowsLate (plan ++ m ∷ []) late
late_passed plan m late off h node number = h node number ∙ sym (none_more (is_late_at node number) plan m (by (same_kind m.kind kind.Late) refl))
  where
    by : (b : Bool) → same_kind m.kind kind.Late ≡ b → (b && ((m.node == node) && (m.number == number))) ≡ false
    by true e = absurd (off (kind_is m.kind kind.Late e))
    by false e = refl

-- ## One line by the lists of its node
pub call_marked : (nodes node number : ℕ) (plan : List Mark) (before : List Record) (calls : CallTable) (marks : MarkTable) (r : Request) (t : Told) (drops mutes : Numbers) (b : Bool)
    → (1 ≤ node) × (node ≤ nodes) → drops ≡ get_or marks.dropped.items (node - 1) drops → mutes ≡ get_or marks.muted.items (node - 1) mutes → number ≡ get_or calls.next.items (node - 1) number
    → b ≡ as_marked t (contains nat_cmp drops.set number) (contains nat_cmp mutes.set number) → KnowsPlan nodes plan marks
    → KnowsCalls nodes plan before calls → Decides b (LineIsMarked plan before (Call node r t))
call_marked nodes node number plan before calls marks r t drops mutes b low is_drops is_mutes num e marked known =
    let n = number_is nodes node number plan before calls low num known in
    let d = marked_at nodes node number (next_number node before) plan kind.Dropped marks.dropped.items drops low marked.dropped is_drops n in
    let m = marked_at nodes node number (next_number node before) plan kind.Muted marks.muted.items mutes low marked.muted is_mutes n in
    subst (λ x. Decides x (IsAsMarked plan node (next_number node before) t))
    (sym (e ∙ ap (λ x. as_marked t x (contains nat_cmp mutes.set number)) d ∙ ap (λ x. as_marked t (is_marked plan node (next_number node before) kind.Dropped) x) m))
    (told_marked plan node (next_number node before) t)

-- ## Line by line
-- the lines up to this place go by the plan, just where all do
unfoldable pub Marked : List Mark → ℕ → List Record → Type 0
Marked plan i rs = (IsMarked plan (take i rs) (drop i rs) → IsMarked plan [] rs) × (IsMarked plan [] rs → IsMarked plan (take i rs) (drop i rs))

first_line : (plan : List Mark) (before : List Record) (r : Record) (rs : List Record) → IsMarked plan before (r ∷ rs) → LineIsMarked plan before r × IsMarked plan (before ++ r ∷ []) rs
unfolding IsMarked
first_line plan before (Call k q t) rs h = h
first_line plan before (Late k q) rs h = h
first_line plan before (Operator k a d) rs h = (tt, h)
first_line plan before (Outcome x) rs h = (tt, h)

line_more : (plan : List Mark) (before : List Record) (r : Record) (rs : List Record) → LineIsMarked plan before r → IsMarked plan (before ++ r ∷ []) rs → IsMarked plan before (r ∷ rs)
unfolding IsMarked
line_more plan before (Call k q t) rs a h = (a, h)
line_more plan before (Late k q) rs a h = (a, h)
line_more plan before (Operator k a d) rs b h = h
line_more plan before (Outcome x) rs b h = h

pub marked_begin : (plan : List Mark) (rs : List Record) → Marked plan 0 rs
unfolding Marked
marked_begin plan rs = (λ h. h, λ h. h)

pub one_line : (i : ℕ) (rs : List Record) (r : Record) → i < length rs → r ≡ get_or rs i r → take (i + 1) rs ≡ take i rs ++ r ∷ []
one_line i rs r l is = take_more rs i r l ∙ ap (λ x. take i rs ++ x ∷ []) (sym is)

pub marked_more : (plan : List Mark) (i : ℕ) (rs : List Record) (r : Record) → i < length rs → r ≡ get_or rs i r → LineIsMarked plan (take i rs) r → Marked plan i rs → Marked plan (i + 1) rs
unfolding Marked
marked_more plan i rs r l is a f =
    let e = front i rs r l is in let t = one_line i rs r l is in (
      λ h. f.0 (subst (IsMarked plan (take i rs)) (sym e) (line_more plan (take i rs) r (drop (i + 1) rs) a (subst (λ x. IsMarked plan x (drop (i + 1) rs)) t h))),
      λ h. subst (λ x. IsMarked plan x (drop (i + 1) rs)) (sym t) (first_line plan (take i rs) r (drop (i + 1) rs) (subst (IsMarked plan (take i rs)) e (f.1 h))).1,
    )

pub marked_fails : (plan : List Mark) (i : ℕ) (rs : List Record) (r : Record) → i < length rs → r ≡ get_or rs i r → (LineIsMarked plan (take i rs) r → ⊥) → Marked plan i rs → IsMarked plan [] rs → ⊥
unfolding Marked
marked_fails plan i rs r l is off f h = off (first_line plan (take i rs) r (drop (i + 1) rs) (subst (IsMarked plan (take i rs)) (front i rs r l is) (f.1 h))).0

pub marked_ends : (plan : List Mark) (i : ℕ) (rs : List Record) → length rs ≤ i → Marked plan i rs → IsMarked plan [] rs
unfolding Marked IsMarked
marked_ends plan i rs l f = f.0 (subst (IsMarked plan (take i rs)) (sym (drop_all i rs l)) tt)

-- ## Each late mark has a copy of its own
-- a copy is due just where it may come
pub due_decided : (nodes : ℕ) (plan : List Mark) (before : List Record) (calls : CallTable) (k : ℕ) (q : Request) (b : Bool) → b ≡ nat_lt 0 (count_of calls.due (ask_key k q))
    → KnowsCalls nodes plan before calls → Decides b (IsCopy plan before k q)
due_decided nodes plan before calls k q b is h =
    let e = h.due k q in (
      λ t. (let some : 0 < count_of calls.due (ask_key k q) = ltb-true 0 (count_of calls.due (ask_key k q)) (sym is ∙ t) in omega (arith, e, some)),
      λ c. is ∙ lt-ltb 0 (count_of calls.due (ask_key k q)) (omega (arith, e, c)),
    )

pub is_due : (nodes : ℕ) (plan : List Mark) (before : List Record) (calls : CallTable) (r : Record) → LineIsMarked plan before r → KnowsCalls nodes plan before calls → IsDue calls r
is_due nodes plan before calls (Late k q) m h = let e = h.due k q in omega (arith, e, m)
is_due nodes plan before calls (Call k q t) m h = tt
is_due nodes plan before calls (Operator k a d) m h = tt
is_due nodes plan before calls (Outcome x) m h = tt

-- none is due just where all came
pub none_due : (nodes : ℕ) (plan : List Mark) (lines : List Record) (calls : CallTable) (k : ℕ) (q : Request) (t : Told) (b : Bool) → b ≡ (count_of calls.due (ask_key k q) == 0)
    → KnowsCalls nodes plan lines calls → Decides b (LineIsCopied plan lines (Call k q t))
none_due nodes plan lines calls k q t b is h =
    let e = h.due k q in (
      λ y. (let none : count_of calls.due (ask_key k q) ≡ 0 = eqb-true (count_of calls.due (ask_key k q)) 0 (sym is ∙ y) in omega (arith, e, none)),
      λ c. is ∙ eq-eqb (count_of calls.due (ask_key k q)) 0 (omega (arith, e, c)),
    )

-- where nothing is due all came
pub nothing_due : (nodes : ℕ) (plan : List Mark) (lines : List Record) (calls : CallTable) (line : Record) → ((key : List ℕ) → count_of calls.due key ≡ 0)
    → KnowsCalls nodes plan lines calls → Decides true (LineIsCopied plan lines line)
nothing_due nodes plan lines calls (Call k q t) none h = none_due nodes plan lines calls k q t true (sym (ap (λ (n : ℕ). n == 0) (none (ask_key k q)))) h
nothing_due nodes plan lines calls (Late k q) none h = (λ y. tt, λ c. refl)
nothing_due nodes plan lines calls (Operator k a d) none h = (λ y. tt, λ c. refl)
nothing_due nodes plan lines calls (Outcome x) none h = (λ y. tt, λ c. refl)

-- a request that is marked was asked by a call of the record
abbrev Calls : List Record → ℕ → Request → Type 0
Calls rs k q = (t : Told) × Contains rs (Call k q t)

called_line : (rs : List Record) (k i : ℕ) (q : Request) → slice_get (calls_to k rs) i ≡ Some q → Calls rs k q
unfolding calls_to
called_line [] k i q e = absurd (cc e)
called_line (Call j p t ∷ rs) k i q e = by (cases_eq j k) (λ n f. called_line rs k n q f)
  where
    later : Calls rs k q → Calls (Call j p t ∷ rs) k q
    later c = (c.0, contains_tail (Call j p t) rs (Call k q c.0) c.1)

    own : (n : ℕ) → slice_get (p ∷ calls_to k rs) n ≡ Some q → j ≡ k → ((n : ℕ) → slice_get (calls_to k rs) n ≡ Some q → Calls rs k q) → Calls (Call j p t ∷ rs) k q
    own zero f at go = (let same : p ≡ q = cc f in (t, contains_head (Call j p t) rs (Call k q t) (ap (λ (n : ℕ). Call n p t) at ∙ ap (λ (x : Request). Call k x t) same)))
    own (suc n) f at go = later (go n f)

    by : (j ≡ k) ⊎ (j ≢ k) → ((n : ℕ) → slice_get (calls_to k rs) n ≡ Some q → Calls rs k q) → Calls (Call j p t ∷ rs) k q
    by (inl at) go = own i (subst (λ (l : List Request). slice_get l i ≡ Some q) (cond-true (j == k) (p ∷ calls_to k rs) (calls_to k rs) (eq-eqb j k at)) e) at go
    by (inr off) go = later (go i (subst (λ (l : List Request). slice_get l i ≡ Some q) (cond-false (j == k) (p ∷ calls_to k rs) (calls_to k rs) (ne_eqb j k off)) e))
called_line (Late j p ∷ rs) k i q e = let c = called_line rs k i q e in (c.0, contains_tail (Late j p) rs (Call k q c.0) c.1)
called_line (Operator j a d ∷ rs) k i q e = let c = called_line rs k i q e in (c.0, contains_tail (Operator j a d) rs (Call k q c.0) c.1)
called_line (Outcome x ∷ rs) k i q e = let c = called_line rs k i q e in (c.0, contains_tail (Outcome x) rs (Call k q c.0) c.1)

-- so all are copied where each call's line is
pub copied_ends : (plan : List Mark) (rs : List Record) → ((r : Record) → Contains rs r → LineIsCopied plan rs r) → AreCopied plan rs
copied_ends plan rs each k q = by (cases_lt (copies_of k q rs) (marked_late plan k q rs))
  where
    by : (copies_of k q rs < marked_late plan k q rs) ⊎ (marked_late plan k q rs ≤ copies_of k q rs) → marked_late plan k q rs ≤ copies_of k q rs
    by (inl lt) =
        let named = copy_named plan rs k q lt in
        let line = called_line rs k (named.0 - 1) q named.2.1 in
        let all : marked_late plan k q rs ≤ copies_of k q rs = each (Call k q line.0) line.1 in all
    by (inr le) = le

pub line_copied : (plan : List Mark) (rs : List Record) (r : Record) → AreCopied plan rs → LineIsCopied plan rs r
line_copied plan rs (Call k q t) all = all k q
line_copied plan rs (Late k q) all = tt
line_copied plan rs (Operator k a d) all = tt
line_copied plan rs (Outcome x) all = tt
