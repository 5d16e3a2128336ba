-- In the epoch order the entries of one caller under one epoch stand by place, but for proposals of
-- others than the owner, which stand by node.
use Rattle.std.proofs.Common.{◌≡◌, ℕ, suc, ◌+◌, ◌<◌, ◌≤◌, ◌==◌, ◌⊎◌, inl, inr, List, [], ◌∷◌, ◌++◌, Bool, true, false, cond, length, reverse, get_or}
use Rattle.std.proofs.Common.{refl, sym, ap, ◌∙◌, subst, arith, append_assoc, Option, Some, None}
use Rattle.std.specs.Prelude.{nat_lt, ◌&&◌}
use Rattle.std.proofs.lemmas.List.{reverse-append}
use Rattle.std.proofs.lemmas.Bool.{lt-ltb, le-ltb, ltb-true, cases_Bool}
use Rattle.journal_core.specs.declared.request.Request.{Request}
use Rattle.journal_history.specs.declared.node_ask.NodeAsk.{NodeAsk}
use Rattle.journal_history.specs.declared.node_ask.NodeAsk.TheVariants.{Act}
use Rattle.journal_history.specs.declared.history_line.HistoryLine.{HistoryLine}
use Rattle.journal_history.specs.Cell.{Cell, cell_takes, fresh_cell, IsLocalRun}
use Rattle.journal_history.specs.Entries.{Entry}
use Rattle.journal_history.specs.Moving.{epoch_of, is_proposal, move_of, falls}
use Rattle.journal_history.proofs.Raised.{CellRaised, cell_raised}
use Rattle.journal_history.proofs.CellLaws.{promise}
use Rattle.mesh.specs.declared.whole.Mesh.{Mesh}
use Rattle.mesh.specs.Matches.{reached, lines_of}
use Rattle.mesh.specs.Agree.{Agrees, operator_of, history_at, record_of}
use Rattle.mesh.specs.Owners.{owns, HasOwners}
use Rattle.mesh.specs.Order.{Key, is_muted, line_of_caller, place_of, owners_place, key_of, is_below}
use Rattle.mesh.proofs.Lists.{Alike, alike, same_test}
use Rattle.mesh.proofs.Shared.{In}
use Rattle.mesh.proofs.OneOwner.{has_owners}
use Rattle.mesh.proofs.Keys.{at_least, places_rise, count_of, count_append, count_self, fits}
use Rattle.mesh.proofs.Signs.{Sign, entries, sign, all_signs}
use Rattle.mesh.proofs.SignLists.{Older, here, there, Signed, one_sign}
use Rattle.mesh.proofs.Rearranged.{Rivals, Stand, Keeps}
use Rattle.mesh.proofs.Noting.{signs_fall}
use Rattle.mesh.proofs.Matching.{entry_here, place_here, entry_moves, move_tells, history_noted}
use Rattle.mesh.proofs.OrderSigns.{Marked, mark_first, marks_of, SignBlock, first_onto, signs_of, with_rest, begun, marks_cut, front, signs_at}
use Rattle.mesh.proofs.OrderSigns.{signs_from, put_signs, in_order, signs_in, order_signs, in_either, put_out, order_out, signs_out, HasBlock}
use Rattle.mesh.proofs.OrderSigns.{block_out}

-- ## Keys
abbrev pub Lower : Key → Key → Type 0
Lower a b = (a.promise < b.promise) ⊎ ((a.promise ≡ b.promise) × (a.place < b.place))

abbrev pub Level : Key → Key → Type 0
Level a b = (a.promise ≡ b.promise) × (a.place ≡ b.place)

below_lower : (a b : Key) → is_below a b ≡ true → Lower a b
unfolding is_below Alike
below_lower a b e = by (cases a.promise b.promise)
  where
    cases : (x y : ℕ) → (x < y) ⊎ (y ≤ x)
    cases x y = grind arith

    by : (a.promise < b.promise) ⊎ (b.promise ≤ a.promise) → Lower a b
    by (inl l) = inl l
    by (inr l) = at (alike a.promise b.promise) (rw (le-ltb a.promise b.promise l) at e)
      where
        at : Alike a.promise b.promise → ((a.promise == b.promise) && nat_lt a.place b.place) ≡ true → Lower a b
        at (inl f) g = inr (f.1, ltb-true a.place b.place (rw f.0 at g))
        at (inr f) g = absurd (no (rw f.0 at g))
          where
            no : false ≡ true → ⊥
            no z = cc z

not_below : (a b : Key) → is_below a b ≡ false → Lower b a ⊎ Level b a
unfolding is_below
not_below a b e = by (cases b.promise a.promise) (cases b.place a.place)
  where
    cases : (x y : ℕ) → (x < y) ⊎ ((x ≡ y) ⊎ (y < x))
    cases x y = grind arith

    no : true ≡ false → ⊥
    no z = cc z

    by : (b.promise < a.promise) ⊎ ((b.promise ≡ a.promise) ⊎ (a.promise < b.promise)) → (b.place < a.place) ⊎ ((b.place ≡ a.place) ⊎ (a.place < b.place)) → Lower b a ⊎ Level b a
    by (inl l) y = inl (inl l)
    by (inr (inl f)) (inl l) = inl (inr (f, l))
    by (inr (inl f)) (inr (inl g)) = inr (f, g)
    by (inr (inl f)) (inr (inr l)) = absurd (no (sym (rw (le-ltb a.promise b.promise (omega (arith, f)), same_test a.promise b.promise (sym f), lt-ltb a.place b.place l) refl) ∙ e))
    by (inr (inr l)) y = absurd (no (sym (rw (lt-ltb a.promise b.promise l) refl) ∙ e))

lower_trans : (a b c : Key) → Lower a b ⊎ Level a b → Lower b c ⊎ Level b c → Lower a c ⊎ Level a c
lower_trans a b c (inl (inl l)) (inl (inl m)) = inl (inl (omega (arith, l, m)))
lower_trans a b c (inl (inl l)) (inl (inr m)) = inl (inl (omega (arith, l, m.0)))
lower_trans a b c (inl (inl l)) (inr m) = inl (inl (omega (arith, l, m.0)))
lower_trans a b c (inl (inr l)) (inl (inl m)) = inl (inl (omega (arith, l.0, m)))
lower_trans a b c (inl (inr l)) (inl (inr m)) = inl (inr (l.0 ∙ m.0, omega (arith, l.1, m.1)))
lower_trans a b c (inl (inr l)) (inr m) = inl (inr (l.0 ∙ m.0, omega (arith, l.1, m.1)))
lower_trans a b c (inr l) (inl (inl m)) = inl (inl (omega (arith, l.0, m)))
lower_trans a b c (inr l) (inl (inr m)) = inl (inr (l.0 ∙ m.0, omega (arith, l.1, m.1)))
lower_trans a b c (inr l) (inr m) = inr (l.0 ∙ m.0, l.1 ∙ m.1)

-- ## Blocks before and after they are put in order. A block of falls alone is above none.
abbrev IsFirst : SignBlock → Type 0
IsFirst b = (s : Sign) × (b.first ≡ Some s)

abbrev Ahead : SignBlock → SignBlock → Type 0
Ahead b c = IsFirst b → IsFirst c → (b.node < c.node) ⊎ Lower b.key c.key

abbrev Ordered : SignBlock → SignBlock → Type 0
Ordered b c = Lower b.key c.key ⊎ (Level b.key c.key × (IsFirst b → IsFirst c → b.node < c.node))

unfoldable Pairs : (SignBlock → SignBlock → Type 0) → List SignBlock → Type 0
Pairs R [] = Unit {0}
Pairs R (b ∷ bs) = ((c : SignBlock) → In c bs → R b c) × Pairs R bs

ordered_low : (b c : SignBlock) → Ordered b c → Lower b.key c.key ⊎ Level b.key c.key
ordered_low b c (inl l) = inl l
ordered_low b c (inr l) = inr l.0

ordered_by : (b c : SignBlock) → Lower b.key c.key ⊎ Level b.key c.key → Ahead b c → Ordered b c
ordered_by b c (inl l) a = inl l
ordered_by b c (inr l) a = inr (l, λ f g. by (a f g))
  where
    by : (b.node < c.node) ⊎ Lower b.key c.key → b.node < c.node
    by (inl n) = n
    by (inr (inl m)) = absurd (omega (arith, l.0, m))
    by (inr (inr m)) = absurd (omega (arith, l.1, m.1))

put_ordered : (b : SignBlock) (cs : List SignBlock) → ((c : SignBlock) → In c cs → Ahead b c) → Pairs Ordered cs → Pairs Ordered (put_signs b cs)
unfolding put_signs Pairs In
put_ordered b [] h o = ((λ c i. absurd i), tt)
put_ordered b (c ∷ cs) h o = by (is_below c.key b.key) refl (put_ordered b cs (λ d i. h d (inr i)) o.1)
  where
    by : (f : Bool) → is_below c.key b.key ≡ f → Pairs Ordered (put_signs b cs) → Pairs Ordered (cond f (c ∷ put_signs b cs) (b ∷ c ∷ cs))
    by true e g = ((λ d i. later d (put_out d b cs i)), g)
      where
        later : (d : SignBlock) → (b ≡ d) ⊎ In d cs → Ordered c d
        later d (inl same) = subst (Ordered c) same (inl (below_lower c.key b.key e))
        later d (inr i) = o.0 d i
    by false e g = ((λ d i. first d i), o)
      where
        low : Lower b.key c.key ⊎ Level b.key c.key
        low = not_below c.key b.key e

        first : (d : SignBlock) → (c ≡ d) ⊎ In d cs → Ordered b d
        first d (inl same) = subst (Ordered b) same (ordered_by b c low (h c (inl refl)))
        first d (inr i) = ordered_by b d (lower_trans b.key c.key d.key low (ordered_low c d (o.0 d i))) (h d (inr i))

all_ordered : (bs : List SignBlock) → Pairs Ahead bs → Pairs Ordered (in_order bs)
unfolding in_order Pairs
all_ordered [] h = tt
all_ordered (b ∷ bs) h = put_ordered b (in_order bs) (λ c i. h.0 c (order_out c bs i)) (all_ordered bs h.1)

-- ## What is known of the first sign of a block
record Known (m : Mesh) (k : ℕ) (key : Key) (s : Sign) : Type 0 where
  node : s.entry.node ≡ k
  noted : In s (all_signs m (operator_of m))
  promise : (x : Signed s) → key.promise ≡ x.epoch
  place : key.place ≡ owners_place (owns m s.caller key.promise) s.place
  heads : (x : Signed s) → is_proposal x.request ≡ false → owns m s.caller key.promise ≡ true

abbrev IsKnown : Mesh → ℕ → Marked → Type 0
IsKnown m k t = (t.sign.entry.node ≡ k) × (falls t.sign.entry.move ≡ false → Known m k t.key t.sign)

abbrev IsAbove : Key → Marked → Type 0
IsAbove key t = falls t.sign.entry.move ≡ false → Lower key t.key

unfoldable AllKnown : Mesh → ℕ → List Marked → Type 0
AllKnown m k [] = Unit {0}
AllKnown m k (t ∷ ts) = IsKnown m k t × AllKnown m k ts

unfoldable AllAbove : Key → List Marked → Type 0
AllAbove key [] = Unit {0}
AllAbove key (t ∷ ts) = IsAbove key t × AllAbove key ts

unfoldable Rises : List Marked → Type 0
Rises [] = Unit {0}
Rises (t ∷ ts) = (falls t.sign.entry.move ≡ false → AllAbove t.key ts) × Rises ts

first_known : (m : Mesh) (k : ℕ) (o : Option Entry) (c p : ℕ) (key : Key) (ts : List Marked)
    → ((e : Entry) → o ≡ Some e → (e.node ≡ k) × (falls e.move ≡ false → Known m k key (sign e c p))) → AllKnown m k ts
    → AllKnown m k (mark_first o c p key ts)
unfolding AllKnown
first_known m k None c p key ts f h = h
first_known m k (Some e) c p key ts f h = (f e refl, h)

first_above : (low : Key) (o : Option Entry) (c p : ℕ) (key : Key) (ts : List Marked)
    → ((e : Entry) → o ≡ Some e → falls e.move ≡ false → Lower low key) → AllAbove low ts → AllAbove low (mark_first o c p key ts)
unfolding AllAbove
first_above low None c p key ts f h = h
first_above low (Some e) c p key ts f h = ((λ (off : falls e.move ≡ false). f e refl off), h)

first_rises : (o : Option Entry) (c p : ℕ) (key : Key) (ts : List Marked) → ((e : Entry) → o ≡ Some e → falls e.move ≡ false → AllAbove key ts) → Rises ts → Rises (mark_first o c p key ts)
unfolding Rises
first_rises None c p key ts f h = h
first_rises (Some e) c p key ts f h = ((λ (off : falls e.move ≡ false). f e refl off), h)

line_raised : (m : Mesh) (k : ℕ) (past : List HistoryLine) (h : HistoryLine) (cell : Cell) (e : Entry) → h.answer ≡ (cell_takes cell h.ask).answer
    → entry_here m k past h ≡ Some e → falls e.move ≡ false → CellRaised cell h.ask
line_raised m k past h cell e run is off =
    let muted : Bool = is_muted (line_of_caller m k past h) in
    cell_raised cell h.ask h.caller muted e.move (ap (move_of h.caller muted h.ask) (sym run) ∙ (entry_moves k h muted e is).0) off

-- ## The lines of one node
module _ (m : Mesh) (a : Agrees m) (i : ℕ) (in_ : i < m.nodes) where
  abbrev k : ℕ
  k = i + 1

  own : HasOwners m
  own = has_owners m a

  place_less : (c d e x y : ℕ) (b : Bool) → b ≡ true → 1 ≤ y → (owns m c e ≡ true → x < y) → owners_place (owns m c e) x < owners_place b y
  place_less c d e x y b is one h = rw is (by (owns m c e) h)
    where
      by : (f : Bool) → (f ≡ true → x < y) → owners_place f x < y
      by true g = g refl
      by false g = omega (arith, one)

  later : (past after : List HistoryLine) (h : HistoryLine) (cell : Cell) (c j e : ℕ) → past ++ h ∷ after ≡ history_at m i → (w : CellRaised cell h.ask) → e ≤ cell.state.promised → j < count_of c past
      → Lower (record { promise = e; place = owners_place (owns m c e) (place_of k j 1 (record_of m c)) }) (key_of m k (cell_takes cell h.ask).cell.state.promised past h)
  unfolding key_of count_of
  later past after h cell c j e whole w low less = by (cases e (cell_takes cell h.ask).cell.state.promised)
    where
      grown : cell.state.promised ≤ (cell_takes cell h.ask).cell.state.promised
      grown = promise cell h.ask

      cases : (x y : ℕ) → (x < y) ⊎ (y ≤ x)
      cases x y = grind arith

      by : (e < (cell_takes cell h.ask).cell.state.promised) ⊎ ((cell_takes cell h.ask).cell.state.promised ≤ e)
          → Lower (record { promise = e; place = owners_place (owns m c e) (place_of k j 1 (record_of m c)) })
          (record {
            promise = (cell_takes cell h.ask).cell.state.promised;
            place = owners_place (owns m h.caller (cell_takes cell h.ask).cell.state.promised)
                (place_of k (length (lines_of h.caller past)) 1 (record_of m h.caller));
          })
      by (inl l) = inl l
      by (inr l) = at (cases_Bool (is_proposal w.request))
        where
          same : (cell_takes cell h.ask).cell.state.promised ≡ e
          same = omega (arith, l, low, grown)

          at : (is_proposal w.request ≡ true) ⊎ (is_proposal w.request ≡ false)
              → Lower (record { promise = e; place = owners_place (owns m c e) (place_of k j 1 (record_of m c)) })
              (record {
                promise = (cell_takes cell h.ask).cell.state.promised;
                place = owners_place (owns m h.caller (cell_takes cell h.ask).cell.state.promised)
                    (place_of k (length (lines_of h.caller past)) 1 (record_of m h.caller));
              })
          at (inl p) = let up : cell.state.promised < w.raised.epoch =
              w.raised.rises p in let is : (cell_takes cell h.ask).cell.state.promised ≡ w.raised.epoch =
              w.raised.is in absurd (omega (arith, up, is, low, same))
          at (inr p) =
              let owner : owns m h.caller (cell_takes cell h.ask).cell.state.promised ≡ true = ap (owns m h.caller) w.raised.is
              ∙ own.heads i past after h w.late w.request w.raised.epoch in_ (sym whole) w.asks w.raised.of p in
              inr (
                sym same,
                place_less c h.caller e (place_of k j 1 (record_of m c)) (place_of k (length (lines_of h.caller past)) 1 (record_of m h.caller))
                    (owns m h.caller (cell_takes cell h.ask).cell.state.promised) owner
                    (at_least k (length (lines_of h.caller past)) 1 (record_of m h.caller))
                    (λ (mine : owns m c e ≡ true).
                    let one : c ≡ h.caller = own.one c h.caller e mine (ap (owns m h.caller) (sym same) ∙ owner) in
                    let total : count_of h.caller (history_at m i) ≡ count_of h.caller past + suc (count_of h.caller after) =
                    ap (count_of h.caller) (sym whole) ∙ (count_append h.caller past (h ∷ after) ∙ ap (λ (x : ℕ). count_of h.caller past + x) (count_self h after)) in
                    let fit : count_of h.caller past < length (reached k (record_of m h.caller)) = fits m a i in_ h.caller (count_of h.caller past) (omega (arith, total)) in
                    let rise : place_of k j 1 (record_of m h.caller) < place_of k (length (lines_of h.caller past)) 1 (record_of m h.caller) =
                    places_rise k j (length (lines_of h.caller past)) 1 (record_of m h.caller) (subst (λ (x : ℕ). j < count_of x past) one less) fit in
                    let moved : place_of k j 1 (record_of m c) ≡ place_of k j 1 (record_of m h.caller) = ap (λ (x : ℕ). place_of k j 1 (record_of m x)) one in
                    omega (arith, rise, moved)),
              )

  above_after : (past hs : List HistoryLine) (cell : Cell) (c j e : ℕ) → past ++ hs ≡ history_at m i → IsLocalRun cell hs → e ≤ cell.state.promised → j < count_of c past
      → AllAbove (record { promise = e; place = owners_place (owns m c e) (place_of k j 1 (record_of m c)) }) (marks_of m k cell past hs)
  unfolding marks_of IsLocalRun AllAbove
  above_after past [] cell c j e whole run low less = tt
  above_after past (h ∷ hs) cell c j e whole run low less =
      let grown : cell.state.promised ≤ (cell_takes cell h.ask).cell.state.promised = promise cell h.ask in
      first_above (record { promise = e; place = owners_place (owns m c e) (place_of k j 1 (record_of m c)) }) (entry_here m k past h) h.caller (place_here m k past h)
      (key_of m k (cell_takes cell h.ask).cell.state.promised past h) (marks_of m k (cell_takes cell h.ask).cell (past ++ h ∷ []) hs)
      (λ x is off. later past hs h cell c j e whole (line_raised m k past h cell x run.0 is off) low less)
      (above_after (past ++ h ∷ []) hs (cell_takes cell h.ask).cell c j e (append_assoc past (h ∷ []) hs ∙ whole) run.1 (omega (arith, low, grown)) (omega (arith, less, count_append c past (h ∷ []))))

  marks_rise : (past hs : List HistoryLine) (cell : Cell) → past ++ hs ≡ history_at m i → IsLocalRun cell hs → Rises (marks_of m k cell past hs)
  unfolding marks_of IsLocalRun Rises key_of
  marks_rise past [] cell whole run = tt
  marks_rise past (h ∷ hs) cell whole run =
      first_rises (entry_here m k past h) h.caller (place_here m k past h) (key_of m k (cell_takes cell h.ask).cell.state.promised past h)
      (marks_of m k (cell_takes cell h.ask).cell (past ++ h ∷ []) hs)
      (λ x is off. above_after (past ++ h ∷ []) hs (cell_takes cell h.ask).cell h.caller (length (lines_of h.caller past))
      (cell_takes cell h.ask).cell.state.promised (append_assoc past (h ∷ []) hs ∙ whole) run.1 (omega arith)
      (unfold count_of in omega (arith, count_append h.caller past (h ∷ []), count_self h [])))
      (marks_rise (past ++ h ∷ []) hs (cell_takes cell h.ask).cell (append_assoc past (h ∷ []) hs ∙ whole) run.1)

  mark_known : (past after : List HistoryLine) (h : HistoryLine) (cell : Cell) (e : Entry) → past ++ h ∷ after ≡ history_at m i
      → h.answer ≡ (cell_takes cell h.ask).answer → entry_here m k past h ≡ Some e → falls e.move ≡ false
      → Known m k (key_of m k (cell_takes cell h.ask).cell.state.promised past h) (sign e h.caller (place_here m k past h))
  unfolding key_of
  mark_known past after h cell e whole run is off =
      let muted : Bool = is_muted (line_of_caller m k past h) in
      let w : CellRaised cell h.ask = line_raised m k past h cell e run is off in
      let moved : move_of h.caller muted (Act w.late w.request) h.answer ≡ Some e.move = ap (λ (z : NodeAsk). move_of h.caller muted z h.answer) (sym w.asks) ∙ (entry_moves k h muted e is).0 in
      let t = move_tells h.caller muted w.late w.request h.answer e.move moved in
      record {
        node = (entry_moves k h muted e is).1;
        noted = history_noted m i past after h e a in_ whole is off;
        promise = λ x. w.raised.is ∙ epoch_same (sym w.raised.of ∙ ap epoch_of (request_same (sym t.0 ∙ x.asks)) ∙ x.of);
        place = refl;
        heads = λ x p. ap (owns m h.caller) w.raised.is ∙ own.heads i past after h w.late w.request w.raised.epoch in_ (sym whole) w.asks w.raised.of
            (ap is_proposal (request_same (sym t.0 ∙ x.asks)) ∙ p);
      }
    where
      request_same : {x y : Request} → Some x ≡ Some y → x ≡ y
      request_same f = cc f

      epoch_same : {x y : ℕ} → Some x ≡ Some y → x ≡ y
      epoch_same f = cc f

  marks_known : (past hs : List HistoryLine) (cell : Cell) → past ++ hs ≡ history_at m i → IsLocalRun cell hs → AllKnown m k (marks_of m k cell past hs)
  unfolding marks_of IsLocalRun AllKnown
  marks_known past [] cell whole run = tt
  marks_known past (h ∷ hs) cell whole run =
      first_known m k (entry_here m k past h) h.caller (place_here m k past h) (key_of m k (cell_takes cell h.ask).cell.state.promised past h)
      (marks_of m k (cell_takes cell h.ask).cell (past ++ h ∷ []) hs)
      (λ x is. ((entry_moves k h (is_muted (line_of_caller m k past h)) x is).1, λ off. mark_known past hs h cell x whole run.0 is off))
      (marks_known (past ++ h ∷ []) hs (cell_takes cell h.ask).cell (append_assoc past (h ∷ []) hs ∙ whole) run.1)

-- ## Blocks of one node
record Fits (m : Mesh) (k : ℕ) (b : SignBlock) : Type 0 where
  node : b.node ≡ k
  first : (s : Sign) → b.first ≡ Some s → (falls s.entry.move ≡ false) × Known m b.node b.key s
  rest : (s : Sign) → In s b.rest → (falls s.entry.move ≡ true) × (s.entry.node ≡ k)

in_last : (s : Sign) (ss : List Sign) (t : Sign) → In s (ss ++ t ∷ []) → In s ss ⊎ (t ≡ s)
unfolding In
in_last s ss t i = by (in_either s ss (t ∷ []) i)
  where
    by : In s ss ⊎ ((t ≡ s) ⊎ ⊥) → In s ss ⊎ (t ≡ s)
    by (inl j) = inl j
    by (inr (inl e)) = inr e
    by (inr (inr x)) = absurd x

cut_fits : (m : Mesh) (k : ℕ) (ts : List Marked) (b : SignBlock) → Fits m k b → AllKnown m k ts → (c : SignBlock) → In c (marks_cut b ts) → Fits m k c
unfolding marks_cut AllKnown In
cut_fits m k [] b f h c (inl e) = subst (Fits m k) e f
cut_fits m k [] b f h c (inr i) = absurd i
cut_fits m k (t ∷ ts) b f h c i = by (falls t.sign.entry.move) refl i (λ g j. cut_fits m k ts (with_rest b t.sign) g h.1 c j) (λ g j. cut_fits m k ts (begun b.node t) g h.1 c j)
  where
    fallen : falls t.sign.entry.move ≡ true → Fits m k (with_rest b t.sign)
    fallen e = record { node = f.node; first = f.first; rest = λ s j. at s (in_last s b.rest t.sign j) }
      where
        at : (s : Sign) → In s b.rest ⊎ (t.sign ≡ s) → (falls s.entry.move ≡ true) × (s.entry.node ≡ k)
        at s (inl j) = f.rest s j
        at s (inr g) = (ap (λ (z : Sign). falls z.entry.move) (sym g) ∙ e, ap (λ (z : Sign). z.entry.node) (sym g) ∙ h.0.0)

    starts : falls t.sign.entry.move ≡ false → Fits m k (begun b.node t)
    starts e = record {
      node = f.node;
      first = λ s g. let same : t.sign ≡ s = cc g in
          subst (λ (z : Sign). (falls z.entry.move ≡ false) × Known m b.node t.key z) same (e, subst (λ (j : ℕ). Known m j t.key t.sign) (sym f.node) (h.0.1 e));
      rest = λ s j. absurd j;
    }

    by : (x : Bool) → falls t.sign.entry.move ≡ x → In c (cond x (marks_cut (with_rest b t.sign) ts) (b ∷ marks_cut (begun b.node t) ts))
        → (Fits m k (with_rest b t.sign) → In c (marks_cut (with_rest b t.sign) ts) → Fits m k c) → (Fits m k (begun b.node t) → In c (marks_cut (begun b.node t) ts) → Fits m k c) → Fits m k c
    by true e j go on = go (fallen e) j
    by false e (inl same) go on = subst (Fits m k) same f
    by false e (inr j) go on = on (starts e) j

cut_above : (key : Key) (ts : List Marked) (b : SignBlock) → (IsFirst b → Lower key b.key) → AllAbove key ts → (c : SignBlock) → In c (marks_cut b ts) → IsFirst c → Lower key c.key
unfolding marks_cut AllAbove In
cut_above key [] b l h c (inl e) f = subst (λ (z : SignBlock). IsFirst z → Lower key z.key) e l f
cut_above key [] b l h c (inr i) f = absurd i
cut_above key (t ∷ ts) b l h c i f = by (falls t.sign.entry.move) refl i (λ j. cut_above key ts (with_rest b t.sign) l h.1 c j f) (λ g j. cut_above key ts (begun b.node t) g h.1 c j f)
  where
    by : (x : Bool) → falls t.sign.entry.move ≡ x → In c (cond x (marks_cut (with_rest b t.sign) ts) (b ∷ marks_cut (begun b.node t) ts))
        → (In c (marks_cut (with_rest b t.sign) ts) → Lower key c.key) → ((IsFirst (begun b.node t) → Lower key t.key) → In c (marks_cut (begun b.node t) ts) → Lower key c.key) → Lower key c.key
    by true e j go on = go j
    by false e (inl same) go on = subst (λ (z : SignBlock). IsFirst z → Lower key z.key) same l f
    by false e (inr j) go on = on (λ g. h.0 e) j

cut_ahead : (ts : List Marked) (b : SignBlock) → (IsFirst b → AllAbove b.key ts) → Rises ts → Pairs Ahead (marks_cut b ts)
unfolding marks_cut Pairs Rises AllAbove In
cut_ahead [] b h r = ((λ c i. absurd i), tt)
cut_ahead (t ∷ ts) b h r = by (falls t.sign.entry.move) refl (cut_ahead ts (with_rest b t.sign) (λ f. (h f).1) r.1) (λ e. cut_ahead ts (begun b.node t) (λ f. r.0 e) r.1)
  where
    by : (x : Bool) → falls t.sign.entry.move ≡ x → Pairs Ahead (marks_cut (with_rest b t.sign) ts) → (falls t.sign.entry.move ≡ false → Pairs Ahead (marks_cut (begun b.node t) ts))
        → Pairs Ahead (cond x (marks_cut (with_rest b t.sign) ts) (b ∷ marks_cut (begun b.node t) ts))
    by true e go on = go
    by false e go on = ((λ c i f g. inr (cut_above b.key ts (begun b.node t) (λ x. (h f).0 e) (h f).1 c i g)), on e)

-- ## All nodes
pairs_append : (xs ys : List SignBlock) → Pairs Ahead xs → Pairs Ahead ys → ((b c : SignBlock) → In b xs → In c ys → Ahead b c) → Pairs Ahead (xs ++ ys)
unfolding Pairs In
pairs_append [] ys h g f = g
pairs_append (x ∷ xs) ys h g f = ((λ c i. by c (in_either c xs ys i)), pairs_append xs ys h.1 g (λ b c i j. f b c (inr i) j))
  where
    by : (c : SignBlock) → In c xs ⊎ In c ys → Ahead x c
    by c (inl i) = h.0 c i
    by c (inr i) = f x c (inl refl) i

front_fits : (m : Mesh) (k : ℕ) → Fits m k (front k)
unfolding In
front_fits m k = record { node = refl; first = λ s e. absurd (cc e); rest = λ s i. absurd i }

no_first : (k : ℕ) → IsFirst (front k) → ⊥
no_first k f = cc f.1

node_fits : (m : Mesh) (a : Agrees m) (i : ℕ) → i < m.nodes → (c : SignBlock) → In c (signs_at m (i + 1) (history_at m i)) → Fits m (i + 1) c
node_fits m a i in_ c j = cut_fits m (i + 1) (marks_of m (i + 1) fresh_cell [] (history_at m i)) (front (i + 1)) (front_fits m (i + 1))
    (marks_known m a i in_ [] (history_at m i) fresh_cell refl (a.lists.local i in_)) c j

from_fits : (m : Mesh) (a : Agrees m) (c : SignBlock) → In c (signs_from m 1 m.histories) → (i : ℕ) × (i < m.nodes) × Fits m (i + 1) c
from_fits m a c j =
    let w : HasBlock m 1 m.histories c = block_out m 1 m.histories c j in
    let in_ : w.0 < m.nodes = omega (arith, w.1, a.histories) in
    (w.0, in_, node_fits m a w.0 in_ c (subst (λ (x : ℕ). In c (signs_at m x (history_at m w.0))) (omega arith) w.2))

node_ahead : (m : Mesh) (a : Agrees m) (i : ℕ) → i < m.nodes → Pairs Ahead (signs_at m (i + 1) (history_at m i))
node_ahead m a i in_ = cut_ahead (marks_of m (i + 1) fresh_cell [] (history_at m i)) (front (i + 1)) (λ f. absurd (no_first (i + 1) f))
    (marks_rise m a i in_ [] (history_at m i) fresh_cell refl (a.lists.local i in_))

-- each block of a node has its number
cut_node : (ts : List Marked) (b : SignBlock) (c : SignBlock) → In c (marks_cut b ts) → c.node ≡ b.node
unfolding marks_cut In
cut_node [] b c (inl e) = ap (λ (z : SignBlock). z.node) (sym e)
cut_node [] b c (inr i) = absurd i
cut_node (t ∷ ts) b c i = by (falls t.sign.entry.move) i (λ j. cut_node ts (with_rest b t.sign) c j) (λ j. cut_node ts (begun b.node t) c j)
  where
    by : (x : Bool) → In c (cond x (marks_cut (with_rest b t.sign) ts) (b ∷ marks_cut (begun b.node t) ts))
        → (In c (marks_cut (with_rest b t.sign) ts) → c.node ≡ b.node) → (In c (marks_cut (begun b.node t) ts) → c.node ≡ b.node) → c.node ≡ b.node
    by true j go on = go j
    by false (inl e) go on = ap (λ (z : SignBlock). z.node) (sym e)
    by false (inr j) go on = on j

from_ahead : (m : Mesh) (k : ℕ) (hss : List (List HistoryLine)) → ((i : ℕ) → i < length hss → Pairs Ahead (signs_at m (k + i) (get_or hss i []))) → Pairs Ahead (signs_from m k hss)
unfolding signs_from Pairs
from_ahead m k [] h = tt
from_ahead m k (hs ∷ hss) h =
    pairs_append (signs_at m k hs) (signs_from m (k + 1) hss) (subst (λ (x : ℕ). Pairs Ahead (signs_at m x hs)) (omega arith) (h 0 (omega arith)))
    (from_ahead m (k + 1) hss (λ i l. subst (λ (x : ℕ). Pairs Ahead (signs_at m x (get_or hss i []))) (omega arith) (h (suc i) (omega (arith, l)))))
    (λ b c i j f g.
    let w : HasBlock m (k + 1) hss c = block_out m (k + 1) hss c j in
    let low : b.node ≡ k = cut_node (marks_of m k fresh_cell [] hs) (front k) b i in
    let high : c.node ≡ k + 1 + w.0 = cut_node (marks_of m (k + 1 + w.0) fresh_cell [] (get_or hss w.0 [])) (front (k + 1 + w.0)) c w.2 in
    inl (omega (arith, low, high)))

abbrev blocks : Mesh → List SignBlock
blocks m = signs_from m 1 m.histories

blocks_ordered : (m : Mesh) → Agrees m → Pairs Ordered (in_order (blocks m))
blocks_ordered m a = all_ordered (blocks m) (from_ahead m 1 m.histories (λ i l.
    let in_ : i < m.nodes = omega (arith, l, a.histories) in
    subst (λ (x : ℕ). Pairs Ahead (signs_at m x (history_at m i))) (omega arith) (node_ahead m a i in_)))

-- ## Two signs of one caller and epoch
stands_by : (m : Mesh) (b c : SignBlock) (s t : Sign) (r : Rivals s t) → Known m b.node b.key s → Known m c.node c.key t → b.first ≡ Some s → c.first ≡ Some t → Ordered b c → Stand s t r
stands_by m b c s t r x y f g o = by o (cases_Bool (owns m s.caller b.key.promise))
  where
    promises : b.key.promise ≡ c.key.promise
    promises = x.promise r.first ∙ r.epoch ∙ sym (y.promise r.second)

    owner : owns m s.caller b.key.promise ≡ owns m t.caller c.key.promise
    owner = ap (λ (z : ℕ). owns m z b.key.promise) r.caller ∙ ap (owns m t.caller) promises

    clash : true ≡ false → ⊥
    clash z = cc z

    proposal_first : owns m s.caller b.key.promise ≡ false → is_proposal r.first.request ≡ true
    proposal_first e = at (cases_Bool (is_proposal r.first.request))
      where
        at : (is_proposal r.first.request ≡ true) ⊎ (is_proposal r.first.request ≡ false) → is_proposal r.first.request ≡ true
        at (inl p) = p
        at (inr p) = absurd (clash (sym (x.heads r.first p) ∙ e))

    proposal_second : owns m s.caller b.key.promise ≡ false → is_proposal r.second.request ≡ true
    proposal_second e = at (cases_Bool (is_proposal r.second.request))
      where
        at : (is_proposal r.second.request ≡ true) ⊎ (is_proposal r.second.request ≡ false) → is_proposal r.second.request ≡ true
        at (inl p) = p
        at (inr p) = absurd (clash (sym (y.heads r.second p) ∙ sym owner ∙ e))

    place_b : (o : Bool) → owns m s.caller b.key.promise ≡ o → b.key.place ≡ owners_place o s.place
    place_b o e = x.place ∙ ap (λ (z : Bool). owners_place z s.place) e

    place_c : (o : Bool) → owns m s.caller b.key.promise ≡ o → c.key.place ≡ owners_place o t.place
    place_c o e = y.place ∙ ap (λ (z : Bool). owners_place z t.place) (sym owner ∙ e)

    by : Ordered b c → (owns m s.caller b.key.promise ≡ true) ⊎ (owns m s.caller b.key.promise ≡ false) → Stand s t r
    by (inl (inl l)) e = absurd (omega (arith, promises, l))
    by (inl (inr l)) (inl e) = inl (omega (arith, l.1, place_b true e, place_c true e))
    by (inl (inr l)) (inr e) = absurd (omega (arith, l.1, place_b false e, place_c false e))
    by (inr l) (inr e) = let nodes : b.node < c.node = l.1 (s, f) (t, g) in inr (proposal_first e, proposal_second e, omega (arith, nodes, x.node, y.node))
    by (inr l) (inl e) =
        let nodes : b.node < c.node = l.1 (s, f) (t, g) in
        let places : s.place ≡ t.place = omega (arith, l.0.1, place_b true e, place_c true e) in
        let same : s ≡ t = one_sign s t (all_signs m (operator_of m)) (signs_fall m (operator_of m)) x.noted y.noted r.caller places in
        let one : s.entry.node ≡ t.entry.node = ap (λ (z : Sign). z.entry.node) same in
        absurd (omega (arith, nodes, x.node, y.node, one))

-- ## The order of the signs
-- each stands before all later ones
unfoldable pub StandAll : List Sign → Type 0
StandAll [] = Unit {0}
StandAll (s ∷ ss) = ((t : Sign) → In t ss → (r : Rivals s t) → Stand s t r) × StandAll ss

stand_append : (xs ys : List Sign) → StandAll xs → StandAll ys → ((s t : Sign) → In s xs → In t ys → (r : Rivals s t) → Stand s t r) → StandAll (xs ++ ys)
unfolding StandAll In
stand_append [] ys h g f = g
stand_append (x ∷ xs) ys h g f = ((λ t i r. by t (in_either t xs ys i) r), stand_append xs ys h.1 g (λ s t i j r. f s t (inr i) j r))
  where
    by : (t : Sign) → In t xs ⊎ In t ys → (r : Rivals x t) → Stand x t r
    by t (inl i) r = h.0 t i r
    by t (inr i) r = f x t (inl refl) i r

first_or : (s : Sign) (o : Option Sign) (ss : List Sign) → In s (first_onto o ss) → (o ≡ Some s) ⊎ In s ss
unfolding In
first_or s None ss i = inr i
first_or s (Some x) ss (inl e) = inl (ap (λ (z : Sign). Some z) e)
first_or s (Some x) ss (inr i) = inr i

both_ways : (s : Sign) → falls s.entry.move ≡ false → falls s.entry.move ≡ true → ⊥
both_ways s off on = by (sym off ∙ on)
  where
    by : false ≡ true → ⊥
    by z = cc z

falls_stand : (ss : List Sign) → ((s : Sign) → In s ss → falls s.entry.move ≡ true) → StandAll ss
unfolding StandAll In
falls_stand [] h = tt
falls_stand (s ∷ ss) h = ((λ t i r. absurd (both_ways s r.first.off (h s (inl refl)))), falls_stand ss (λ t i. h t (inr i)))

block_stands : (m : Mesh) (k : ℕ) (b : SignBlock) → Fits m k b → StandAll (signs_of b)
block_stands m k b f = by b.first
  where
    rest : (s : Sign) → In s b.rest → falls s.entry.move ≡ true
    rest s i = (f.rest s i).0

    by : (o : Option Sign) → StandAll (first_onto o b.rest)
    by None = falls_stand b.rest rest
    by (Some x) = unfold StandAll in ((λ t i r. absurd (both_ways t r.second.off (rest t i))), falls_stand b.rest rest)

blocks_stand : (m : Mesh) (bs : List SignBlock) → Pairs Ordered bs → ((b : SignBlock) → In b bs → (i : ℕ) × (i < m.nodes) × Fits m (i + 1) b) → StandAll (signs_in bs)
unfolding signs_in Pairs In StandAll
blocks_stand m [] p f = tt
blocks_stand m (b ∷ bs) p f =
    let w = f b (inl refl) in
    stand_append (signs_of b) (signs_in bs) (block_stands m (w.0 + 1) b w.2) (blocks_stand m bs p.1 (λ c i. f c (inr i)))
    (λ s t i j r. cross w.0 w.2 s t (first_or s b.first b.rest i) (signs_out t bs j) r)
  where
    cross : (k : ℕ) → Fits m (k + 1) b → (s t : Sign) → (b.first ≡ Some s) ⊎ In s b.rest → (c : SignBlock) × In c bs × In t (signs_of c) → (r : Rivals s t) → Stand s t r
    cross k fits s t (inr i) w r = absurd (both_ways s r.first.off (fits.rest s i).0)
    cross k fits s t (inl e) w r = at (first_or t w.0.first w.0.rest w.2) (f w.0 (inr w.1))
      where
        at : (w.0.first ≡ Some t) ⊎ In t w.0.rest → (i : ℕ) × (i < m.nodes) × Fits m (i + 1) w.0 → Stand s t r
        at (inr i) x = absurd (both_ways t r.second.off (x.2.rest t i).0)
        at (inl g) x = stands_by m b w.0 s t r (fits.first s e).1 (x.2.first t g).1 e g (p.0 w.0 w.1)

order_fits : (m : Mesh) → Agrees m → (b : SignBlock) → In b (in_order (blocks m)) → (i : ℕ) × (i < m.nodes) × Fits m (i + 1) b
order_fits m a b i = from_fits m a b (order_out b (blocks m) i)

signs_stand : (m : Mesh) → Agrees m → StandAll (order_signs m)
unfolding order_signs
signs_stand m a = blocks_stand m (in_order (blocks m)) (blocks_ordered m a) (order_fits m a)

-- what did more than fall is noted, and each is of one of the nodes
pub order_noted : (m : Mesh) → Agrees m → (s : Sign) → In s (order_signs m) → falls s.entry.move ≡ false → In s (all_signs m (operator_of m))
unfolding order_signs
order_noted m a s i off =
    let w = signs_out s (in_order (blocks m)) i in
    by w.0 (order_fits m a w.0 w.1) (first_or s w.0.first w.0.rest w.2)
  where
    by : (b : SignBlock) → (i : ℕ) × (i < m.nodes) × Fits m (i + 1) b → (b.first ≡ Some s) ⊎ In s b.rest → In s (all_signs m (operator_of m))
    by b f (inl e) = (f.2.first s e).1.noted
    by b f (inr j) = absurd (both_ways s off (f.2.rest s j).0)

pub order_within : (m : Mesh) → Agrees m → (s : Sign) → In s (order_signs m) → (1 ≤ s.entry.node) × (s.entry.node ≤ m.nodes)
unfolding order_signs
order_within m a s i =
    let w = signs_out s (in_order (blocks m)) i in
    by w.0 (order_fits m a w.0 w.1) (first_or s w.0.first w.0.rest w.2)
  where
    by : (b : SignBlock) → (i : ℕ) × (i < m.nodes) × Fits m (i + 1) b → (b.first ≡ Some s) ⊎ In s b.rest → (1 ≤ s.entry.node) × (s.entry.node ≤ m.nodes)
    by b f (inl e) = let n : s.entry.node ≡ b.node = (f.2.first s e).1.node in let k : b.node ≡ f.0 + 1 = f.2.node in (omega (arith, n, k), omega (arith, n, k, f.1))
    by b f (inr j) = let n : s.entry.node ≡ f.0 + 1 = (f.2.rest s j).1 in (omega (arith, n), omega (arith, n, f.1))

-- ## Newest first
unfoldable pub back_onto : {A : Type 0} → List A → List A → List A
back_onto [] past = past
back_onto (x ∷ xs) past = back_onto xs (x ∷ past)

unfoldable KeptOn : List Sign → Type 0
KeptOn [] = Unit {0}
KeptOn (t ∷ old) = ((s : Sign) → In s old → (r : Rivals s t) → Stand s t r) × KeptOn old

back_kept : (xs past : List Sign) → StandAll xs → KeptOn past → ((s t : Sign) → In s past → In t xs → (r : Rivals s t) → Stand s t r) → KeptOn (back_onto xs past)
unfolding back_onto StandAll KeptOn In
back_kept [] past h g f = g
back_kept (x ∷ xs) past h g f = back_kept xs (x ∷ past) h.1 ((λ s i r. f s x i (inl refl) r), g) (λ s t i j r. by s t i j r)
  where
    by : (s t : Sign) → (x ≡ s) ⊎ In s past → In t xs → (r : Rivals s t) → Stand s t r
    by s t (inl e) j r = at s e t j r
      where
        at : (z : Sign) → x ≡ z → (t : Sign) → In t xs → (r : Rivals z t) → Stand z t r
        at z e = subst (λ (z : Sign). (t : Sign) → In t xs → (r : Rivals z t) → Stand z t r) e h.0
    by s t (inr i) j r = f s t i (inr j) r

keeps_of : (ss : List Sign) → KeptOn ss → Keeps ss
unfolding KeptOn
keeps_of ss k s t old p i r = by ss k p
  where
    by : (l : List Sign) → KeptOn l → Older (t ∷ old) l → Stand s t r
    by l h here = h.0 s i r
    by (x ∷ l) h (there q) = by l h.1 q

pub stand_keeps : (ss : List Sign) → StandAll ss → Keeps (back_onto ss [])
stand_keeps ss h = keeps_of (back_onto ss []) (back_kept ss [] h (unfold KeptOn in tt) (λ s t i j r. absurd (unfold In in i)))

pub order_keeps : (m : Mesh) → Agrees m → Keeps (back_onto (order_signs m) [])
order_keeps m a = stand_keeps (order_signs m) (signs_stand m a)

pub back_in : {A : Type 0} (x : A) (xs past : List A) → In x xs ⊎ In x past → In x (back_onto xs past)
unfolding back_onto In
back_in x [] past (inl i) = absurd i
back_in x [] past (inr i) = i
back_in x (y ∷ xs) past (inl (inl e)) = back_in x xs (y ∷ past) (inr (inl e))
back_in x (y ∷ xs) past (inl (inr i)) = back_in x xs (y ∷ past) (inl i)
back_in x (y ∷ xs) past (inr i) = back_in x xs (y ∷ past) (inr (inr i))

pub back_out : {A : Type 0} (x : A) (xs past : List A) → In x (back_onto xs past) → In x xs ⊎ In x past
unfolding back_onto In
back_out x [] past i = inr i
back_out {A} x (y ∷ xs) past i = by (back_out x xs (y ∷ past) i)
  where
    by : In x xs ⊎ ((y ≡ x) ⊎ In x past) → ((y ≡ x) ⊎ In x xs) ⊎ In x past
    by (inl j) = inl (inr j)
    by (inr (inl e)) = inl (inl e)
    by (inr (inr j)) = inr j

pub back_entries : (xs past : List Sign) → entries (back_onto xs past) ≡ back_onto (entries xs) (entries past)
unfolding back_onto
back_entries [] past = refl
back_entries (x ∷ xs) past = back_entries xs (x ∷ past)

pub back_is : {A : Type 0} (xs past : List A) → back_onto xs past ≡ reverse xs ++ past
unfolding back_onto
back_is [] past = refl
back_is {A} (x ∷ xs) past =
    let turned : reverse (x ∷ xs) ≡ reverse xs ++ x ∷ [] = reverse-append (x ∷ []) xs in
    back_is xs (x ∷ past) ∙ sym (append_assoc (reverse xs) (x ∷ []) past) ∙ ap (λ (l : List A). l ++ past) (sym turned)
