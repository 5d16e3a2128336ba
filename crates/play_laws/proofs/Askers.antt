-- Each request of a linear order was made by an actor: the call stands in its record.
use Rattle.std.proofs.Common.{◌≡◌, ℕ, zero, suc, ◌+◌, ◌-◌, ◌<◌, ◌≤◌, List, [], ◌∷◌, ◌++◌, reverse, Option, Some, None, Bool, true, false, cond, refl}
use Rattle.std.proofs.Common.{sym, ap, ◌∙◌, subst, arith, append_assoc, ◌⊎◌, inl, inr, ◌==◌}
use Rattle.std.specs.Prelude.{slice_get, filter_map}
use Rattle.std.specs.List.{cons_option}
use Rattle.std.proofs.lemmas.Bool.Decides.{nat_tests}
use Rattle.std.proofs.lemmas.List.{reverse-append}
use Rattle.journal_core.specs.declared.request.Request.{Request}
use Rattle.journal_history.specs.declared.node_ask.NodeAsk.{NodeAsk}
use Rattle.journal_history.specs.declared.node_ask.NodeAsk.TheVariants.{Act, Kill, Restart, Arm}
use Rattle.journal_history.specs.declared.node_ask.NodeAnswer.{NodeAnswer}
use Rattle.journal_history.specs.declared.node_ask.NodeAnswer.TheVariants as answer
use Rattle.journal_history.specs.declared.history_line.HistoryLine.{HistoryLine}
use Rattle.journal_history.specs.declared.mark.Mark.{Mark}
use Rattle.journal_history.specs.declared.record.Record.{Record}
use Rattle.journal_history.specs.declared.record.Record.TheVariants.{Call, Late, Operator, Outcome}
use Rattle.journal_history.specs.declared.record.Told.{Told}
use Rattle.journal_history.specs.Entries.{Entry, Move, Answer, Stop, Kill as KillMove, Restart as RestartMove, Earlier, now, before as earlier_one}
use Rattle.journal_history.specs.Moving.{Placed, moves, way_of, move_of, entry_of, moving_of}
use Rattle.run_safety.specs.Run.{IsNextEntry}
use Rattle.run_safety.specs.Safe.{IsOf}
use Rattle.run_safety.proofs.Places.{next_of}
use Rattle.mesh.specs.declared.whole.Mesh.{Mesh}
use Rattle.mesh.specs.Agree.{operator_of, record_of, history_at, plan_of, ListsAgree}
use Rattle.mesh.specs.Marks.{calls_to, IsMarked}
use Rattle.mesh.specs.Matches.{reaches, reached, lines_of, IsSame}
use Rattle.mesh.specs.Order.{placed_from, placed_at}
use Rattle.mesh.proofs.CopyLaws.{copy_named}
use Rattle.mesh.proofs.Shared.{In}
use Rattle.ns_edits.proofs.Splits.{some_is, none≢some}
use Rattle.play_laws.specs.Linear.{IsLinear}
use Rattle.play_laws.proofs.ReadLaws.{in_filter, of_filter}
use Rattle.mesh.proofs.OrderSigns.{in_left, in_either}
use Rattle.mesh.proofs.Heads.{operator_acts, within_in, same_in}
use Rattle.mesh.proofs.Keys.{entry_move}

-- ## Members
in_only : {A : Type 0} (x y : A) → In x (y ∷ []) → y ≡ x
unfolding In
in_only x y (inl e) = e
in_only x y (inr i) = absurd i

of_reverse : (e : Entry) (xs : List Entry) → In e (reverse xs) → In e xs
unfolding In
of_reverse e [] i = i
of_reverse e (x ∷ xs) i = by (in_either e (reverse xs) (x ∷ []) (subst (λ (l : List Entry). In e l) (reverse-append (x ∷ []) xs) i)) (λ j. of_reverse e xs j)
  where
    by : In e (reverse xs) ⊎ In e (x ∷ []) → (In e (reverse xs) → In e xs) → (x ≡ e) ⊎ In e xs
    by (inl j) go = inr (go j)
    by (inr j) go = inl (in_only e x j)

member_of : (e : Entry) (old : List Entry) {xs past : List Entry} → Earlier xs past → xs ≡ e ∷ old → In e past
unfolding In
member_of e old now is = subst (λ (l : List Entry). In e l) (sym is) (inl refl)
member_of e old (earlier_one p) is = inr (member_of e old p is)

earlier_member : (e : Entry) (old past : List Entry) → Earlier (e ∷ old) past → In e past
earlier_member e old past p = member_of e old p refl

-- ## From an entry to a line of a history
of_moving : (e : Entry) (xs : List Placed) → In e (moving_of xs) → (x : Placed) × In x xs × (entry_of x ≡ Some e)
unfolding In moving_of
of_moving e [] i = absurd i
of_moving e (y ∷ xs) i = by (entry_of y) refl i (λ j. unfold moving_of in of_moving e xs j)
  where
    by : (o : Option Entry) → entry_of y ≡ o → In e (cons_option o (filter_map entry_of xs)) → (In e (filter_map entry_of xs) → (x : Placed) × In x xs × (entry_of x ≡ Some e))
        → (x : Placed) × ((y ≡ x) ⊎ In x xs) × (entry_of x ≡ Some e)
    by None is i go = let r : (x : Placed) × In x xs × (entry_of x ≡ Some e) = go i in (r.0, inr r.1, r.2)
    by (Some z) is (inl s) go = (y, inl refl, is ∙ ap (λ (w : Entry). Some w) s)
    by (Some z) is (inr i) go = let r : (x : Placed) × In x xs × (entry_of x ≡ Some e) = go i in (r.0, inr r.1, r.2)

of_placed : (m : Mesh) (node : ℕ) (acc hs : List HistoryLine) (x : Placed) → In x (placed_from m node acc hs) → In x.line hs
unfolding In placed_from
of_placed m node acc [] x i = absurd i
of_placed m node acc (h ∷ hs) x (inl e) = inl (ap (λ (z : Placed). z.line) e)
of_placed m node acc (h ∷ hs) x (inr i) = inr (of_placed m node (acc ++ h ∷ []) hs x i)

asked_by : Request → Move → Request
asked_by d (Answer caller way q r) = q
asked_by d (Stop caller late q keep) = q
asked_by d KillMove = d
asked_by d RestartMove = d

-- the move is of this request
abbrev IsMoveOf : Move → Request → Type 0
IsMoveOf (Answer caller way r reply) q = r ≡ q
IsMoveOf (Stop caller late r keep) q = r ≡ q
IsMoveOf KillMove q = ⊥
IsMoveOf RestartMove q = ⊥

of_move : (e : Entry) (q : Request) → IsOf e q → IsMoveOf e.move q
of_move e q (inl x) = subst (λ (z : Move). IsMoveOf z q) (sym x.3) refl
of_move e q (inr x) = subst (λ (z : Move). IsMoveOf z q) (sym x.3) refl

move_asks : (caller : ℕ) (muted : Bool) (ask : NodeAsk) (a : NodeAnswer) (mv : Move) (q : Request) → move_of caller muted ask a ≡ Some mv → IsMoveOf mv q → (late : Bool) × (ask ≡ Act late q)
unfolding move_of
move_asks caller muted (Act late r) (answer.Replied reply) mv q e is = by (moves r reply) e
  where
    by : (b : Bool) → cond b (Some (Answer caller (way_of late muted) r reply)) None ≡ Some mv → (l : Bool) × (Act late r ≡ Act l q)
    by true e = (late, ap (λ (z : Request). Act late z) (subst (λ (z : Move). IsMoveOf z q) (sym (some_is (Answer caller (way_of late muted) r reply) mv e)) is))
    by false e = none≢some mv e
move_asks caller muted (Act late r) (answer.Stopped keep) mv q e is = (late, ap (λ (z : Request). Act late z) (subst (λ (z : Move). IsMoveOf z q) (sym (some_is (Stop caller late r keep) mv e)) is))
move_asks caller muted (Act late r) answer.Done mv q e is = none≢some mv e
move_asks caller muted (Act late r) answer.Idle mv q e is = none≢some mv e
move_asks caller muted (Act late r) (answer.NotOpened fail) mv q e is = none≢some mv e
move_asks caller muted Kill answer.Done mv q e is = absurd (subst (λ (z : Move). IsMoveOf z q) (sym (some_is KillMove mv e)) is)
move_asks caller muted Kill _ mv q e is = none≢some mv e
move_asks caller muted Restart answer.Done mv q e is = absurd (subst (λ (z : Move). IsMoveOf z q) (sym (some_is RestartMove mv e)) is)
move_asks caller muted Restart _ mv q e is = none≢some mv e
move_asks caller muted (Arm calls stop) _ mv q e is = none≢some mv e

-- ## From a line of a history to a call of a record
called_in : (k i : ℕ) (q : Request) (rs : List Record) → slice_get (calls_to k rs) i ≡ Some q → (t : Told) × In (Call k q t) rs
unfolding calls_to In
called_in k i q [] e = none≢some q e
called_in k i q (Call j r t ∷ rs) e = by (j == k) refl i e (λ n f. unfold calls_to in called_in k n q rs f)
  where
    deeper : (t2 : Told) × In (Call k q t2) rs → (t2 : Told) × In (Call k q t2) (Call j r t ∷ rs)
    deeper y = (y.0, inr y.1)

    by : (b : Bool) → (j == k) ≡ b → (n : ℕ) → slice_get (cond b (r ∷ calls_to k rs) (calls_to k rs)) n ≡ Some q → ((n : ℕ) → slice_get (calls_to k rs) n ≡ Some q → (t2 : Told) × In (Call k q t2) rs)
        → (t2 : Told) × In (Call k q t2) (Call j r t ∷ rs)
    by true is zero e go =
        let node : j ≡ k = grind (arith, nat_tests, is) in
        let same : r ≡ q = some_is r q e in
        (t, inl (λ i. Call (node i) (same i) t))
    by true is (suc n) e go = deeper (go n e)
    by false is n e go = deeper (go n e)
called_in k i q (Late j r ∷ rs) e = let y : (t : Told) × In (Call k q t) rs = called_in k i q rs e in (y.0, inr y.1)
called_in k i q (Operator j ask done ∷ rs) e = let y : (t : Told) × In (Call k q t) rs = called_in k i q rs e in (y.0, inr y.1)
called_in k i q (Outcome x ∷ rs) e = let y : (t : Told) × In (Call k q t) rs = called_in k i q rs e in (y.0, inr y.1)

-- a late copy is of a call that stands before it
copy_of : (plan : List Mark) (before rs : List Record) (k : ℕ) (q : Request) → IsMarked plan before rs → In (Late k q) rs → (t : Told) × In (Call k q t) (before ++ rs)
unfolding IsMarked In
copy_of plan before [] k q m x = absurd x
copy_of plan before (Late j r ∷ rs) k q m (inl e) =
    let same : (j ≡ k) × (r ≡ q) = (ap (λ (z : Record). node_in z) e, ap (λ (z : Record). request_in z) e) in
    let c = copy_named plan before j r m.0 in
    let y : (t : Told) × In (Call j r t) before = called_in j (c.0 - 1) r before c.2.1 in
    (y.0, in_left (Call k q y.0) before (Late j r ∷ rs) (subst (λ (z : Request). In (Call k z y.0) before) same.1 (subst (λ (n : ℕ). In (Call n r y.0) before) same.0 y.1)))
  where
    node_in : Record → ℕ
    node_in (Late n p) = n
    node_in _ = j

    request_in : Record → Request
    request_in (Late n p) = p
    request_in _ = r
copy_of plan before (Late j r ∷ rs) k q m (inr i) = let y : (t : Told) × In (Call k q t) ((before ++ Late j r ∷ []) ++ rs) =
    copy_of plan (before ++ Late j r ∷ []) rs k q m.1 i in (
      y.0,
      subst (λ (l : List Record). In (Call k q y.0) l)
          (append_assoc before (Late j r ∷ []) rs) y.1,
    )
copy_of plan before (Call j r t ∷ rs) k q m (inl e) = absurd (cc e)
copy_of plan before (Call j r t ∷ rs) k q m (inr i) = let y : (u : Told) × In (Call k q u) ((before ++ Call j r t ∷ []) ++ rs) =
    copy_of plan (before ++ Call j r t ∷ []) rs k q m.1 i in (
      y.0,
      subst (λ (l : List Record). In (Call k q y.0) l)
          (append_assoc before (Call j r t ∷ []) rs) y.1,
    )
copy_of plan before (Operator j ask done ∷ rs) k q m (inl e) = absurd (cc e)
copy_of plan before (Operator j ask done ∷ rs) k q m (inr i) = let y : (u : Told) × In (Call k q u) ((before ++ Operator j ask done ∷ []) ++ rs) =
    copy_of plan (before ++ Operator j ask done ∷ []) rs k q m i in (
      y.0,
      subst (λ (l : List Record). In (Call k q y.0) l) (append_assoc before (Operator j ask done ∷ []) rs) y.1,
    )
copy_of plan before (Outcome x ∷ rs) k q m (inl e) = absurd (cc e)
copy_of plan before (Outcome x ∷ rs) k q m (inr i) = let y : (u : Told) × In (Call k q u) ((before ++ Outcome x ∷ []) ++ rs) =
    copy_of plan (before ++ Outcome x ∷ []) rs k q m i in (
      y.0,
      subst (λ (l : List Record). In (Call k q y.0) l)
          (append_assoc before (Outcome x ∷ []) rs) y.1,
    )

-- no operation stands in the record
unfoldable pub NoOperation : List Record → Type 0
NoOperation [] = Unit {0}
NoOperation (Operator k ask done ∷ rs) = ⊥
NoOperation (_ ∷ rs) = NoOperation rs

no_operation : (rs : List Record) (k : ℕ) (ask : NodeAsk) (done : Bool) → NoOperation rs → In (Operator k ask done) rs → ⊥
unfolding NoOperation In
no_operation [] k ask done n i = i
no_operation (Operator j a d ∷ rs) k ask done n i = n
no_operation (Call j r t ∷ rs) k ask done n (inl e) = cc e
no_operation (Call j r t ∷ rs) k ask done n (inr i) = no_operation rs k ask done n i
no_operation (Late j r ∷ rs) k ask done n (inl e) = cc e
no_operation (Late j r ∷ rs) k ask done n (inr i) = no_operation rs k ask done n i
no_operation (Outcome x ∷ rs) k ask done n (inl e) = cc e
no_operation (Outcome x ∷ rs) k ask done n (inr i) = no_operation rs k ask done n i

-- a line of an actor's record that is a request at a node was called
line_called : (plan : List Mark) (rs : List Record) (r : Record) (h : HistoryLine) (late : Bool) (q : Request) → IsMarked plan [] rs → NoOperation rs
    → In r rs → IsSame r h → h.ask ≡ Act late q → (k : ℕ) × (t : Told) × In (Call k q t) rs
unfolding IsSame
line_called plan rs (Call k p t) h late q m n i s a = (k, t, subst (λ (z : Request). In (Call k z t) rs) (act_is (sym s.0 ∙ a)) i)
  where
    act_is : Act false p ≡ Act late q → p ≡ q
    act_is e = ap request_in e
      where
        request_in : NodeAsk → Request
        request_in (Act l z) = z
        request_in _ = p
line_called plan rs (Late k p) h late q m n i s a =
    let same : p ≡ q = act_is (sym s ∙ a) in
    let y : (t : Told) × In (Call k q t) rs = copy_of plan [] rs k q m (subst (λ (z : Request). In (Late k z) rs) same i) in
    (k, y.0, y.1)
  where
    act_is : Act true p ≡ Act late q → p ≡ q
    act_is e = ap request_in e
      where
        request_in : NodeAsk → Request
        request_in (Act l z) = z
        request_in _ = p
line_called plan rs (Operator k ask done) h late q m n i s a = absurd (no_operation rs k ask done n i)
line_called plan rs (Outcome x) h late q m n i s a = absurd s

-- ## Each request of the order
pub record Asker (m : Mesh) (q : Request) : Type 0 where
  pub caller : ℕ
  pub below : caller < operator_of m
  pub node : ℕ
  pub told : Told
  pub called : In (Call node q told) (record_of m caller)

pub asker : (m : Mesh) (entries : List Entry) → ListsAgree m → IsLinear m entries → ((c : ℕ) → c < operator_of m → NoOperation (record_of m c))
    → (old : List Entry) (e : Entry) (q : Request) → Earlier (e ∷ old) (reverse entries) → IsOf e q → Asker m q
asker m entries lists lin none old e q p is = by (below_or (operator_of m) h.caller (within_in (operator_of m) (history_at m i) h (lists.callers i small) in_history))
  where
    next : IsNextEntry m.nodes lin.run.0 old e
    next = next_of m.nodes lin.run.0 p lin.run.1

    i : ℕ
    i = e.node - 1

    node_is : e.node ≡ i + 1
    node_is = let one : 1 ≤ e.node = next.from_one in omega (arith, one)

    small : i < m.nodes
    small = let one : 1 ≤ e.node = next.from_one in let up : e.node ≤ m.nodes = next.up_to_n in omega (arith, one, up)

    here : (e.node == (i + 1)) ≡ true
    here = grind (arith, nat_tests, node_is)

    listed : In e (moving_of (placed_at m i))
    listed = subst (λ (l : List Entry). In e l) (lin.at_nodes i small) (in_filter (λ z. z.node == (i + 1)) e entries (of_reverse e entries (earlier_member e old (reverse entries) p)) here)

    x : (y : Placed) × In y (placed_at m i) × (entry_of y ≡ Some e)
    x = of_moving e (placed_at m i) listed

    h : HistoryLine
    h = x.0.line

    in_history : In h (history_at m i)
    in_history = of_placed m (i + 1) [] (history_at m i) x.0 x.1

    asks : (late : Bool) × (h.ask ≡ Act late q)
    asks = move_asks h.caller x.0.muted h.ask h.answer e.move q (unfold entry_of in entry_move x.0.node (move_of h.caller x.0.muted h.ask h.answer) e x.2) (of_move e q is)

    c : ℕ
    c = h.caller

    own : (c == c) ≡ true
    own = grind (arith, nat_tests)

    mine : In h (lines_of c (history_at m i))
    mine = unfold lines_of in in_filter (λ (z : HistoryLine). z.caller == c) h (history_at m i) in_history own

    r : (z : Record) × In z (reached (i + 1) (record_of m c)) × IsSame z h
    r = same_in (reached (i + 1) (record_of m c)) (lines_of c (history_at m i)) h (lists.same i c small (within_in (operator_of m) (history_at m i) h (lists.callers i small) in_history)) mine

    in_record : In r.0 (record_of m c)
    in_record = let y : In r.0 (record_of m c) × (reaches (i + 1) r.0 ≡ true) = unfold reached in of_filter (reaches (i + 1)) r.0 (record_of m c) r.1 in y.0

    below_or : (a b : ℕ) → b ≤ a → (b < a) ⊎ (b ≡ a)
    below_or a b le = grind (arith, le)

    by : (c < operator_of m) ⊎ (c ≡ operator_of m) → Asker m q
    by (inl below) =
        let y : (k : ℕ) × (t : Told) × In (Call k q t) (record_of m c) = line_called (plan_of m c) (record_of m c) r.0 h asks.0 q (lists.marked c below) (none c below) in_record r.2 asks.1 in
        record { caller = c; below = below; node = y.0; told = y.1; called = y.2 }
    by (inr same) = absurd (operator_acts (record_of m (operator_of m)) r.0 h asks.0 q lists.operated (subst (λ (k : ℕ). In r.0 (record_of m k)) same in_record) r.2 asks.1)
