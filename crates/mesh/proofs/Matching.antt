-- A line of a node's history and the line of its caller's record that is the same event, with what
-- stands before both.
use Rattle.std.proofs.Common.{◌≡◌, ℕ, zero, suc, ◌+◌, ◌-◌, ◌<◌, ◌≤◌, ◌==◌, inl, inr, List, [], ◌∷◌, ◌++◌, Bool, true, false, cond, filter, length, refl, sym, ap, ◌∙◌, subst, arith, Option, Some, None}
use Rattle.std.specs.Prelude.{slice_get}
use Rattle.journal_core.specs.declared.request.Request.{Request}
use Rattle.journal_history.specs.declared.node_ask.NodeAsk.{NodeAsk}
use Rattle.journal_history.specs.declared.node_ask.NodeAsk.TheVariants.{Act}
use Rattle.journal_history.specs.declared.node_ask.NodeAnswer.{NodeAnswer}
use Rattle.journal_history.specs.declared.node_ask.NodeAnswer.TheVariants.{Replied, Stopped, Done, Idle, NotOpened}
use Rattle.journal_history.specs.declared.history_line.HistoryLine.{HistoryLine}
use Rattle.journal_history.specs.declared.record.Record.{Record}
use Rattle.journal_history.specs.declared.record.Record.TheVariants.{Call, Late, Operator, Outcome}
use Rattle.journal_history.specs.declared.record.Told.TheVariants as told
use Rattle.journal_history.specs.Cell.{fresh_cell}
use Rattle.journal_history.specs.Entries.{Move, Answer, Stop, Entry}
use Rattle.journal_history.specs.Moving.{moves, way_of, move_of, entry_at, entry_of, falls}
use Rattle.mesh.specs.declared.whole.Mesh.{Mesh}
use Rattle.mesh.specs.Makers.{IsOperators}
use Rattle.mesh.specs.Matches.{reaches, reached, lines_of, IsSame, AreSame, IsWithin, AreWithin}
use Rattle.mesh.specs.Agree.{Agrees, operator_of, history_at, record_of}
use Rattle.mesh.specs.Order.{is_muted, line_of_caller, place_of}
use Rattle.mesh.proofs.Lists.{Alike, alike, same_test}
use Rattle.mesh.proofs.Shared.{In}
use Rattle.mesh.proofs.Heads.{operator_acts, made_operator, in_middle, within_in}
use Rattle.mesh.proofs.Signs.{Sign, sign, entry_by, line_for, all_signs}
use Rattle.mesh.proofs.SignLists.{requests, caller_of, Signed}
use Rattle.mesh.proofs.Diaries.{HasRequest, line_request, reached_at, LineOf, line_of}
use Rattle.mesh.proofs.Noting.{IsAsking, Noted, sign_out, sign_in}

-- ## A list, cut at an item that passes a test
pub record Cut {A : Type 0} (test : A → Bool) (xs : List A) (kept : List A) (x : A) : Type 0 where
  pub past : List A
  pub rest : List A
  pub whole : past ++ x ∷ rest ≡ xs
  pub before : filter test past ≡ kept
  pub passes : test x ≡ true

cut_more : {A : Type 0} (test : A → Bool) (y : A) (xs kept : List A) (x : A) → test y ≡ false → Cut test xs kept x → Cut test (y ∷ xs) kept x
cut_more test y xs kept x off c = record { past = y ∷ c.past; rest = c.rest; whole = ap (λ (l : List _). y ∷ l) c.whole; before = rw off c.before; passes = c.passes }

cut_kept : {A : Type 0} (test : A → Bool) (y : A) (xs kept : List A) (x : A) → test y ≡ true → Cut test xs kept x → Cut test (y ∷ xs) (y ∷ kept) x
cut_kept test y xs kept x on c = record { past = y ∷ c.past; rest = c.rest; whole = ap (λ (l : List _). y ∷ l) c.whole; before = rw on (ap (λ (l : List _). y ∷ l) c.before); passes = c.passes }

pub cut_filter : {A : Type 0} (test : A → Bool) (xs kept : List A) (x : A) (more : List A) → filter test xs ≡ kept ++ x ∷ more → Cut test xs kept x
cut_filter test [] [] x more e = absurd (cc e)
cut_filter test [] (k ∷ kept) x more e = absurd (cc e)
cut_filter {A} test (y ∷ xs) kept x more e = by (test y) refl kept e (λ ks f. cut_filter test xs ks x more f)
  where
    by : (b : Bool) → test y ≡ b → (ks : List A) → cond b (y ∷ filter test xs) (filter test xs) ≡ ks ++ x ∷ more
        → ((l : List A) → filter test xs ≡ l ++ x ∷ more → Cut test xs l x) → Cut test (y ∷ xs) ks x
    by false off ks f go = cut_more test y xs ks x off (go ks f)
    by true on [] f go = let same : y ≡ x = cc f in record { past = []; rest = xs; whole = ap (λ (z : A). z ∷ xs) (sym same); before = refl; passes = ap test (sym same) ∙ on }
    by true on (k ∷ ks) f go =
        let same : y ≡ k = cc f in
        let rest : filter test xs ≡ ks ++ x ∷ more = cc f in
        subst (λ (z : A). Cut test (y ∷ xs) (z ∷ ks) x) same (cut_kept test y xs ks x on (go ks rest))

-- ## An event of one list stands in the other
lines_at : (c : ℕ) (before rest : List HistoryLine) (h : HistoryLine) → h.caller ≡ c → lines_of c (before ++ h ∷ rest) ≡ lines_of c before ++ h ∷ lines_of c rest
unfolding lines_of
lines_at c [] rest h e = rw (same_test h.caller c e) refl
lines_at c (x ∷ before) rest h e = by (x.caller == c) (lines_at c before rest h e)
  where
    by : (b : Bool) → filter (λ (z : HistoryLine). z.caller == c) (before ++ h ∷ rest) ≡ filter (λ (z : HistoryLine). z.caller == c) before ++ h ∷ filter (λ (z : HistoryLine). z.caller == c) rest
        → cond b (x ∷ filter (λ (z : HistoryLine). z.caller == c) (before ++ h ∷ rest)) (filter (λ (z : HistoryLine). z.caller == c) (before ++ h ∷ rest))
        ≡ cond b (x ∷ filter (λ (z : HistoryLine). z.caller == c) before) (filter (λ (z : HistoryLine). z.caller == c) before) ++ h ∷ filter (λ (z : HistoryLine). z.caller == c) rest
    by true g = ap (λ (l : List HistoryLine). x ∷ l) g
    by false g = g

record Back (rs : List Record) (xs : List HistoryLine) (h : HistoryLine) : Type 0 where
  past : List Record
  line : Record
  rest : List Record
  whole : rs ≡ past ++ line ∷ rest
  count : length past ≡ length xs
  same : IsSame line h

same_back : (rs : List Record) (xs : List HistoryLine) (h : HistoryLine) (ys : List HistoryLine) → AreSame rs (xs ++ h ∷ ys) → Back rs xs h
unfolding AreSame
same_back [] [] h ys s = absurd s
same_back [] (x ∷ xs) h ys s = absurd s
same_back (r ∷ rs) [] h ys s = record { past = []; line = r; rest = rs; whole = refl; count = refl; same = s.0 }
same_back (r ∷ rs) (x ∷ xs) h ys s =
    let b : Back rs xs h = same_back rs xs h ys s.1 in
    record { past = r ∷ b.past; line = b.line; rest = b.rest; whole = ap (λ (l : List Record). r ∷ l) b.whole; count = ap suc b.count; same = b.same }

-- the line of the record of a line of the node k = i + 1
pub record Matched (m : Mesh) (k : ℕ) (before : List HistoryLine) (h : HistoryLine) : Type 0 where
  pub past : List Record
  pub line : Record
  pub rest : List Record
  pub whole : past ++ line ∷ rest ≡ record_of m h.caller
  pub reach : reaches k line ≡ true
  pub count : length (reached k past) ≡ length (lines_of h.caller before)
  pub same : IsSame line h

pub matched : (m : Mesh) (i : ℕ) (before after : List HistoryLine) (h : HistoryLine) → Agrees m → i < m.nodes → before ++ h ∷ after ≡ history_at m i → Matched m (i + 1) before h
unfolding reached
matched m i before after h a in_ whole =
    let here : In h (history_at m i) = subst (In h) whole (in_middle before after h) in
    let caller : h.caller ≤ operator_of m = within_in (operator_of m) (history_at m i) h (a.lists.callers i in_) here in
    let s : AreSame (reached (i + 1) (record_of m h.caller)) (lines_of h.caller before ++ h ∷ lines_of h.caller after) =
    subst (AreSame (reached (i + 1) (record_of m h.caller))) (ap (lines_of h.caller) (sym whole) ∙ lines_at h.caller before after h refl) (a.lists.same i h.caller in_ caller) in
    let b : Back (reached (i + 1) (record_of m h.caller)) (lines_of h.caller before) h = same_back (reached (i + 1) (record_of m h.caller)) (lines_of h.caller before) h (lines_of h.caller after) s in
    let c : Cut (reaches (i + 1)) (record_of m h.caller) b.past b.line = cut_filter (reaches (i + 1)) (record_of m h.caller) b.past b.line b.rest b.whole in
    record { past = c.past; line = b.line; rest = c.rest; whole = c.whole; reach = c.passes; count = ap length c.before ∙ b.count; same = b.same }

-- ## What is noted on both sides
get_at : {A : Type 0} (xs : List A) (x : A) (ys : List A) → slice_get (xs ++ x ∷ ys) (length xs) ≡ Some x
get_at [] x ys = refl
get_at (z ∷ xs) x ys = get_at xs x ys

pub place_at : (k j p : ℕ) (past rest : List Record) (r : Record) → reaches k r ≡ true → length (reached k past) ≡ j → place_of k j p (past ++ r ∷ rest) ≡ p + length past
unfolding place_of reached
place_at k zero p [] rest r on e = rw on (omega arith)
place_at k (suc j) p [] rest r on e = absurd (omega (arith, e))
place_at k zero p (x ∷ past) rest r on e = by (reaches k x) e (λ f. place_at k zero (p + 1) past rest r on f)
  where
    by : (b : Bool) → length (cond b (x ∷ filter (reaches k) past) (filter (reaches k) past)) ≡ 0
        → (length (filter (reaches k) past) ≡ 0 → place_of k zero (p + 1) (past ++ r ∷ rest) ≡ p + 1 + length past)
        → cond b p (place_of k zero (p + 1) (past ++ r ∷ rest)) ≡ p + suc (length past)
    by true f go = absurd (omega (arith, f))
    by false f go = omega (arith, go f)
place_at k (suc j) p (x ∷ past) rest r on e = by (reaches k x) e (λ f. place_at k (suc j) (p + 1) past rest r on f) (λ f. place_at k j (p + 1) past rest r on f)
  where
    by : (b : Bool) → length (cond b (x ∷ filter (reaches k) past) (filter (reaches k) past)) ≡ suc j
        → (length (filter (reaches k) past) ≡ suc j → place_of k (suc j) (p + 1) (past ++ r ∷ rest) ≡ p + 1 + length past)
        → (length (filter (reaches k) past) ≡ j → place_of k j (p + 1) (past ++ r ∷ rest) ≡ p + 1 + length past)
        → cond b (place_of k j (p + 1) (past ++ r ∷ rest)) (place_of k (suc j) (p + 1) (past ++ r ∷ rest)) ≡ p + suc (length past)
    by true f go less = omega (arith, less (omega (arith, f)))
    by false f go less = omega (arith, go f)

-- the entry of a history's line, and its sign
abbrev pub entry_here : Mesh → ℕ → List HistoryLine → HistoryLine → Option Entry
entry_here m k before h = entry_of (record { node = k; line = h; muted = is_muted (line_of_caller m k before h) })

abbrev pub place_here : Mesh → ℕ → List HistoryLine → HistoryLine → ℕ
place_here m k before h = place_of k (length (lines_of h.caller before)) 1 (record_of m h.caller)

-- its record's line
pub line_is : (m : Mesh) (i : ℕ) (before : List HistoryLine) (h : HistoryLine) (x : Matched m (i + 1) before h) → line_of_caller m (i + 1) before h ≡ Some x.line
unfolding reached
line_is m i before h x =
    ap (λ (j : ℕ). slice_get (reached (i + 1) (record_of m h.caller)) j) (sym x.count)
    ∙ ap (λ (l : List Record). slice_get l (length (reached (i + 1) x.past))) (ap (reached (i + 1)) (sym x.whole) ∙ reached_at (i + 1) x.past x.rest x.line x.reach)
    ∙ get_at (reached (i + 1) x.past) x.line (reached (i + 1) x.rest)

-- its place there
pub place_is : (m : Mesh) (i : ℕ) (before : List HistoryLine) (h : HistoryLine) (x : Matched m (i + 1) before h) → place_here m (i + 1) before h ≡ length x.past + 1
place_is m i before h x =
    let place : place_of (i + 1) (length (lines_of h.caller before)) 1 (x.past ++ x.line ∷ x.rest) ≡ 1 + length x.past =
    place_at (i + 1) (length (lines_of h.caller before)) 1 x.past x.rest x.line x.reach x.count in
    let moved : place_here m (i + 1) before h ≡ place_of (i + 1) (length (lines_of h.caller before)) 1 (x.past ++ x.line ∷ x.rest) =
    ap (place_of (i + 1) (length (lines_of h.caller before)) 1) (sym x.whole) in
    omega (arith, place, moved)

both_note : (m : Mesh) (i : ℕ) (before after : List HistoryLine) (h : HistoryLine) → before ++ h ∷ after ≡ history_at m i → (x : Matched m (i + 1) before h)
    → (entry_by (i + 1) x.line (line_for m h.caller (i + 1) x.past) ≡ entry_here m (i + 1) before h) × (place_here m (i + 1) before h ≡ length x.past + 1)
both_note m i before after h whole x =
    let back : i + 1 - 1 ≡ i = omega arith in
    let there : line_for m h.caller (i + 1) x.past ≡ Some h =
    ap (λ (j : ℕ). slice_get (lines_of h.caller (history_at m j)) (length (reached (i + 1) x.past))) back
    ∙ ap (λ (j : ℕ). slice_get (lines_of h.caller (history_at m i)) j) x.count
    ∙ ap (λ (l : List HistoryLine). slice_get l (length (lines_of h.caller before))) (ap (lines_of h.caller) (sym whole) ∙ lines_at h.caller before after h refl)
    ∙ get_at (lines_of h.caller before) h (lines_of h.caller after) in (
      ap (entry_by (i + 1) x.line) there ∙ ap (λ (o : Option Record). entry_of (record { node = i + 1; line = h; muted = is_muted o })) (sym (line_is m i before h x)),
      place_is m i before h x,
    )

-- ## A history's line that did more than fall is noted
pub entry_moves : (k : ℕ) (h : HistoryLine) (muted : Bool) (e : Entry) → entry_of (record { node = k; line = h; muted = muted }) ≡ Some e
    → (move_of h.caller muted h.ask h.answer ≡ Some e.move) × (e.node ≡ k)
unfolding entry_of
entry_moves k h muted e f = by (move_of h.caller muted h.ask h.answer) f
  where
    by : (o : Option Move) → entry_at k o ≡ Some e → (o ≡ Some e.move) × (e.node ≡ k)
    by None g = absurd (cc g)
    by (Some x) g = let same : record { node = k; move = x } ≡ e = cc g in (ap (λ (z : Entry). Some z.move) same, ap (λ (z : Entry). z.node) (sym same))

in_record : (xs : List Record) (r : Record) (ys : List Record) → In r (xs ++ r ∷ ys)
unfolding In
in_record [] r ys = inl refl
in_record (x ∷ xs) r ys = inr (in_record xs r ys)

-- its request
pub line_asks : (m : Mesh) (i : ℕ) (before after : List HistoryLine) (h : HistoryLine) (muted : Bool) (e : Entry) → Agrees m → i < m.nodes → before ++ h ∷ after ≡ history_at m i
    → entry_of (record { node = i + 1; line = h; muted = muted }) ≡ Some e → falls e.move ≡ false → HasRequest h
line_asks m i before after h muted e a in_ whole is off =
    line_request fresh_cell (history_at m i) h h.caller muted e.move (a.lists.local i in_) (subst (In h) whole (in_middle before after h)) (entry_moves (i + 1) h muted e is).0 off

pub caller_acts : (m : Mesh) (i : ℕ) (before : List HistoryLine) (h : HistoryLine) → Agrees m → h.caller ≤ operator_of m → Matched m (i + 1) before h → HasRequest h → h.caller < operator_of m
unfolding Alike
caller_acts m i before h a le x q = by (alike h.caller (operator_of m))
  where
    by : Alike h.caller (operator_of m) → h.caller < operator_of m
    by (inr off) = grind (arith, off.1, le)
    by (inl on) =
        absurd (operator_acts (record_of m h.caller) x.line h q.late q.request (subst (λ (c : ℕ). IsOperators (record_of m c)) (sym on.1) a.lists.operated)
        (subst (In x.line) x.whole (in_record x.past x.line x.rest)) x.same q.asks)

asking : (m : Mesh) (c k : ℕ) (past rest : List Record) (r : Record) → Agrees m → c < operator_of m → past ++ r ∷ rest ≡ record_of m c → reaches k r ≡ true → IsAsking r
unfolding reaches
asking m c k past rest (Call j q t) a l whole on = tt
asking m c k past rest (Late j q) a l whole on = tt
asking m c k past rest (Operator j ask done) a l whole on =
    made_operator _ (record_of m c) j ask done (a.made c l).2 (subst (In (Operator j ask done)) whole (in_record past (Operator j ask done) rest))
asking m c k past rest (Outcome x) a l whole on = absurd (cc on)

pub history_noted : (m : Mesh) (i : ℕ) (before after : List HistoryLine) (h : HistoryLine) (e : Entry) → Agrees m → i < m.nodes → before ++ h ∷ after ≡ history_at m i
    → entry_here m (i + 1) before h ≡ Some e → falls e.move ≡ false → In (sign e h.caller (place_here m (i + 1) before h)) (all_signs m (operator_of m))
history_noted m i before after h e a in_ whole is off =
    let x : Matched m (i + 1) before h = matched m i before after h a in_ whole in
    let here : In h (history_at m i) = subst (In h) whole (in_middle before after h) in
    let q : HasRequest h = line_asks m i before after h (is_muted (line_of_caller m (i + 1) before h)) e a in_ whole is off in
    let mine : h.caller < operator_of m = caller_acts m i before h a (within_in (operator_of m) (history_at m i) h (a.lists.callers i in_) here) x q in
    let b = both_note m i before after h whole x in
    sign_in m (operator_of m) h.caller (sign e h.caller (place_here m (i + 1) before h)) mine
    (record {
      past = x.past;
      line = x.line;
      rest = x.rest;
      whole = x.whole;
      node = i + 1;
      asks = asking m h.caller (i + 1) x.past x.rest x.line a mine x.whole x.reach;
      reach = x.reach;
      entry = b.0 ∙ is;
      off = off;
      caller = refl;
      place = b.1;
    })

-- ## And what is noted is a history's line
pub record Listed (m : Mesh) (s : Sign) : Type 0 where
  pub index : ℕ
  pub in_nodes : index < m.nodes
  pub before : List HistoryLine
  pub line : HistoryLine
  pub after : List HistoryLine
  pub whole : before ++ line ∷ after ≡ history_at m index
  pub entry : entry_here m (index + 1) before line ≡ Some s.entry
  pub caller : line.caller ≡ s.caller
  pub place : place_here m (index + 1) before line ≡ s.place

within_at : (n k : ℕ) (past rest : List Record) (r : Record) → AreWithin n (past ++ r ∷ rest) → reaches k r ≡ true → (1 ≤ k) × (k ≤ n)
unfolding AreWithin reaches Alike
within_at n k (x ∷ past) rest r w on = within_at n k past rest r w.1 on
within_at n k [] rest r w on = by r w.0 on
  where
    number : (j : ℕ) → (j == k) ≡ true → (1 ≤ j) × (j ≤ n) → (1 ≤ k) × (k ≤ n)
    number j e h = go (alike j k)
      where
        go : Alike j k → (1 ≤ k) × (k ≤ n)
        go (inl f) = (omega (arith, f.1, h.0), omega (arith, f.1, h.1))
        go (inr f) = absurd (no (sym e ∙ f.0))
          where
            no : true ≡ false → ⊥
            no z = cc z

    no : false ≡ true → ⊥
    no z = cc z

    by : (x : Record) → IsWithin n x → reaches k x ≡ true → (1 ≤ k) × (k ≤ n)
    by (Call j q told.Dropped) y e = absurd (no e)
    by (Call j q (told.Reply z)) y e = number j e y
    by (Call j q told.Muted) y e = number j e y
    by (Call j q told.Silent) y e = number j e y
    by (Late j q) y e = number j e y
    by (Operator j ask done) y e = number j e y
    by (Outcome z) y e = absurd (no e)

get_split : {A : Type 0} (xs : List A) (j : ℕ) (x : A) → slice_get xs j ≡ Some x → (past : List A) × (rest : List A) × (xs ≡ past ++ x ∷ rest) × (length past ≡ j)
get_split [] j x e = absurd (cc e)
get_split {A} (y ∷ xs) zero x e = let same : y ≡ x = cc e in ([], xs, ap (λ (z : A). z ∷ xs) same, refl)
get_split {A} (y ∷ xs) (suc j) x e = let w = get_split xs j x e in (y ∷ w.0, w.1, ap (λ (l : List A). y ∷ l) w.2, ap suc w.3)

pub noted_listed : (m : Mesh) (c : ℕ) (s : Sign) → Agrees m → c < operator_of m → Noted m c s → Listed m s
unfolding lines_of
noted_listed m c s a mine x =
    let range : (1 ≤ x.node) × (x.node ≤ m.nodes) = within_at m.nodes x.node x.past x.rest x.line (subst (AreWithin m.nodes) (sym x.whole) (a.lists.within c (omega (arith, mine)))) x.reach in
    let i : ℕ = x.node - 1 in
    let back : x.node ≡ i + 1 = omega (arith, range.0) in
    let l : LineOf m c x.node x.past x.line = line_of m c x.node x.past x.rest x.line a (omega (arith, mine)) x.whole range.0 range.1 x.reach in
    let w = get_split (lines_of c (history_at m i)) (length (reached x.node x.past)) l.line l.there in
    let cut : Cut (λ (z : HistoryLine). z.caller == c) (history_at m i) w.0 l.line = cut_filter (λ (z : HistoryLine). z.caller == c) (history_at m i) w.0 l.line w.1 w.2 in
    let count : length (reached (i + 1) x.past) ≡ length (lines_of l.line.caller cut.past) =
    ap (λ (k : ℕ). length (reached k x.past)) (sym back) ∙ sym w.3 ∙ ap length (sym cut.before) ∙ ap (λ (d : ℕ). length (lines_of d cut.past)) (sym l.caller) in
    let both : Matched m (i + 1) cut.past l.line = record {
      past = x.past;
      line = x.line;
      rest = x.rest;
      whole = x.whole ∙ ap (record_of m) (sym l.caller);
      reach = subst (λ (k : ℕ). reaches k x.line ≡ true) back x.reach;
      count = count;
      same = l.same;
    } in
    let b = both_note m i cut.past cut.rest l.line cut.whole both in
    record {
      index = i;
      in_nodes = omega (arith, range.0, range.1);
      before = cut.past;
      line = l.line;
      after = cut.rest;
      whole = cut.whole;
      entry = sym b.0 ∙ ap (λ (d : ℕ). entry_by (i + 1) x.line (line_for m d (i + 1) x.past)) l.caller ∙ ap (λ (k : ℕ). entry_by k x.line (line_for m c k x.past)) (sym back) ∙ x.entry;
      caller = l.caller ∙ sym x.caller;
      place = b.1 ∙ sym x.place;
    }

-- ## What a sign of the records tells
pub move_tells : (c : ℕ) (muted late : Bool) (q : Request) (a : NodeAnswer) (v : Move) → move_of c muted (Act late q) a ≡ Some v → (requests v ≡ Some q) × (caller_of v ≡ Some c)
unfolding move_of
move_tells c muted late q (Replied x) v e = by (moves q x) e
  where
    by : (b : Bool) → cond b (Some (Answer c (way_of late muted) q x)) None ≡ Some v → (requests v ≡ Some q) × (caller_of v ≡ Some c)
    by true f = let same : Answer c (way_of late muted) q x ≡ v = cc f in (ap requests (sym same), ap caller_of (sym same))
    by false f = absurd (cc f)
move_tells c muted late q (Stopped kept) v e = let same : Stop c late q kept ≡ v = cc e in (ap requests (sym same), ap caller_of (sym same))
move_tells c muted late q Done v e = absurd (cc e)
move_tells c muted late q Idle v e = absurd (cc e)
move_tells c muted late q (NotOpened fail) v e = absurd (cc e)

pub listed_signed : (m : Mesh) (s : Sign) → Agrees m → falls s.entry.move ≡ false → Listed m s → Signed s
listed_signed m s a off l =
    let muted : Bool = is_muted (line_of_caller m (l.index + 1) l.before l.line) in
    let q : HasRequest l.line = line_asks m l.index l.before l.after l.line muted s.entry a l.in_nodes l.whole l.entry off in
    let moved : move_of l.line.caller muted (Act q.late q.request) l.line.answer ≡ Some s.entry.move =
    ap (λ (z : NodeAsk). move_of l.line.caller muted z l.line.answer) (sym q.asks) ∙ (entry_moves (l.index + 1) l.line muted s.entry l.entry).0 in
    let t = move_tells l.line.caller muted q.late q.request l.line.answer s.entry.move moved in
    record { off = off; request = q.request; asks = t.0; by = t.1 ∙ ap (λ (c : ℕ). Some c) l.caller; epoch = q.epoch; of = q.of }

pub sign_listed : (m : Mesh) (s : Sign) → Agrees m → In s (all_signs m (operator_of m)) → Listed m s × Signed s
sign_listed m s a i =
    let w : (d : ℕ) × (d < operator_of m) × Noted m d s = sign_out m (operator_of m) s i in
    let l : Listed m s = noted_listed m w.0 s a w.1 w.2 in
    (l, listed_signed m s a w.2.off l)
