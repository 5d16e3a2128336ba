-- What a caller finds of its own at its gates goes along with its record.
use Rattle.std.proofs.Common.{◌≡◌, ℕ, suc, ◌+◌, ◌-◌, ◌<◌, ◌≤◌, ◌==◌, List, [], ◌∷◌, ◌++◌, length, map, filter, Bool, true, false, cond, refl, sym, ap}
use Rattle.std.proofs.Common.{◌∙◌, subst, set, get_or, arith, inl, inr, append-nil, length-append}
use Rattle.std.specs.Prelude.{Result, Ok, Err, IfOk, OnErr}
use Rattle.std.proofs.lemmas.Bool.Decides.{eqb_tells}
use Rattle.std.proofs.lemmas.List.{length-set, length-map, map-append, get_or-set_same, get_or-set_other, get_or_default}
use Rattle.std.proofs.lemmas.List.Elements.{filter-append}
use Rattle.std.proofs.Math.Seq.{map-set_same}
use Rattle.std.proofs.Math.ListN.{get_or-map}
use Rattle.atomic_table.specs.Seated.{TableId}
use Rattle.journal_core.specs.declared.request.Request.{Request}
use Rattle.play_threads.specs.Board.{Begins, keep_if, places_from, places_of, Adds}
use Rattle.play_threads.proofs.Histories.{own_place}
use Rattle.journal_history.specs.declared.node_ask.NodeAsk.{NodeAsk}
use Rattle.journal_history.specs.declared.node_ask.NodeAsk.TheVariants.{Act, Kill, Restart, Arm}
use Rattle.journal_history.specs.declared.node_ask.NodeAnswer.{NodeAnswer}
use Rattle.journal_history.specs.declared.node_ask.NodeAnswer.TheVariants.{Replied, Stopped, Done, Idle, NotOpened}
use Rattle.journal_history.specs.declared.history_line.HistoryLine.{HistoryLine}
use Rattle.journal_history.specs.declared.record.Record.{Record}
use Rattle.journal_history.specs.declared.record.Record.TheVariants.{Call, Late, Operator, Outcome}
use Rattle.journal_history.specs.declared.record.Told.{Told}
use Rattle.journal_history.specs.declared.record.Told.TheVariants as told
use Rattle.journal_history.specs.NodeCells.{AnswerFits}
use Rattle.mesh.specs.Makers.{IsOperation}
use Rattle.mesh.specs.Matches.{reaches, reached, lines_of, IsSame, AreSame, StandsFor, done_or_idle}
use Rattle.mesh.proofs.Lists.{cond_true, same_test, other_test}
use Rattle.mesh.proofs.Tied.{reached_at, reached_off, same_snoc}
use Rattle.play_threads.specs.Entries.{Entry, line_of, own_lines, IsReplyOrStop, IsDoneOrIdle, FitsAsk}
use Rattle.play_calls.specs.declared.delivery.Delivery.TheVariants.{Delivered}
use Rattle.play_calls.specs.Deliveries.{told_of, is_done}
use Rattle.play_calls.specs.Logs.{LogView, with_line}
use Rattle.play_threads.specs.Seated.{Seat, AreSeated, IsTied, Goes}
use Rattle.play_threads.specs.GateWires.{AreAt}

-- ## Answers
pub if_ok : {A E : Type 0} {P Q : A → Type 0} (r : Result A E) → ((a : A) → P a → Q a) → IfOk r P → IfOk r Q
if_ok (Ok a) f h = f a h
if_ok (Err e) f h = tt

pub on_err : {A E : Type 0} {P Q : Type 0} (r : Result A E) → (P → Q) → OnErr r P → OnErr r Q
on_err (Ok a) f h = tt
on_err (Err e) f h = f h

-- ## The caller's own lines in what it has seen
length_kept : (b : Bool) (n : ℕ) (ns : List ℕ) (h : HistoryLine) (hs : List HistoryLine) → length ns ≡ length hs → length (keep_if b n ns) ≡ length (cond b (h ∷ hs) hs)
length_kept true n ns h hs e = ap suc e
length_kept false n ns h hs e = e

own_count : (c n : ℕ) (es : List Entry) → length (places_from c n es) ≡ length (own_lines c es)
unfolding lines_of
own_count c n [] = refl
own_count c n (e ∷ es) = length_kept (e.0 == c) n (places_from c (suc n) es) (line_of e) (own_lines c es) (unfold lines_of in own_count c (suc n) es)

own_append : (c : ℕ) (xs ys : List Entry) → own_lines c (xs ++ ys) ≡ own_lines c xs ++ own_lines c ys
unfolding lines_of
own_append c xs ys = ap (filter (λ (h : HistoryLine). h.caller == c)) (map-append line_of xs ys) ∙ filter-append (λ (h : HistoryLine). h.caller == c) (map line_of xs) (map line_of ys)

none_left : {A : Type 0} (l : List A) → length l ≡ 0 → l ≡ []
none_left [] e = refl
none_left (x ∷ xs) e = absurd (omega (arith, e))

-- as many places, so no line more
own_same : (c : ℕ) (xs ys : List Entry) → length (places_of c (xs ++ ys)) ≡ length (places_of c xs) → own_lines c (xs ++ ys) ≡ own_lines c xs
own_same c xs ys e =
    let a : length (places_of c (xs ++ ys)) ≡ length (own_lines c (xs ++ ys)) = own_count c 0 (xs ++ ys) in
    let b : length (places_of c xs) ≡ length (own_lines c xs) = own_count c 0 xs in
    let l : length (own_lines c (xs ++ ys)) ≡ length (own_lines c xs) + length (own_lines c ys) = ap length (own_append c xs ys) ∙ length-append (own_lines c xs) (own_lines c ys) in
    own_append c xs ys ∙ ap (λ (z : List HistoryLine). own_lines c xs ++ z) (none_left (own_lines c ys) (omega (arith, a, b, l, e))) ∙ append-nil (own_lines c xs)

own_one : (c : ℕ) (x : NodeAsk × NodeAnswer) → own_lines c ((c, x) ∷ []) ≡ line_of (c, x) ∷ []
unfolding lines_of
own_one c x = cond_true (c == c) (line_of (c, x) ∷ []) [] (same_test c c refl)

pub acted : (c : ℕ) (x : NodeAsk × NodeAnswer) (seen seen2 : List Entry) (places places2 : List ℕ) → places_of c seen ≡ places → places_of c seen2 ≡ places2
    → Adds seen places (c, x) seen2 places2 → own_lines c seen2 ≡ own_lines c seen ++ line_of (c, x) ∷ []
acted c x seen seen2 places places2 p q a =
    let zs : List Entry = seen ++ a.0 in
    let grown : length places2 ≡ length places + 1 = ap length a.2 ∙ length-append places (length zs ∷ []) in
    let one : length (places_of c (zs ++ (c, x) ∷ [])) ≡ length (places_of c zs) + 1 = ap length (own_place c zs x) ∙ length-append (places_of c zs) (length zs ∷ []) in
    let whole : length (places_of c (zs ++ (c, x) ∷ [])) ≡ length places2 = ap (λ l. length (places_of c l)) (sym a.1) ∙ ap length q in
    let before : length (places_of c seen) ≡ length places = ap length p in
    ap (own_lines c) a.1 ∙ own_append c zs ((c, x) ∷ []) ∙ ap (λ (l : List HistoryLine). own_lines c zs ++ l) (own_one c x)
    ∙ ap (λ (l : List HistoryLine). l ++ line_of (c, x) ∷ []) (own_same c seen a.0 (omega (arith, grown, one, whole, before)))

pub not_acted : (c : ℕ) (seen seen2 : List Entry) (places places2 : List ℕ) → places_of c seen ≡ places → places_of c seen2 ≡ places2 → Begins seen seen2 → places2 ≡ places
    → own_lines c seen2 ≡ own_lines c seen
not_acted c seen seen2 places places2 p q b e =
    ap (own_lines c) (sym b.1) ∙ own_same c seen b.0 (ap (λ l. length (places_of c l)) b.1 ∙ ap length (q ∙ e ∙ sym p))

-- ## A line of the record
pub tied_one : (k : ℕ) (r : Record) (h : HistoryLine) (own own2 : List HistoryLine) → reaches k r ≡ true → IsSame r h → own2 ≡ own ++ h ∷ [] → IsTied k r own own2
tied_one k r h own own2 e s is rs a =
    subst (λ l. AreSame l own2) (sym (reached_at k rs r e)) (subst (AreSame (reached k rs ++ r ∷ [])) (sym is) (same_snoc (reached k rs) own r h a s))

-- what reaches a node, by its kind
call_reaches : (i k : ℕ) (r : Request) (t : Told) → (t ≡ told.Dropped → ⊥) → reaches i (Call k r t) ≡ (k == i)
unfolding reaches
call_reaches i k r (told.Reply x) n = refl
call_reaches i k r told.Dropped n = absurd (n refl)
call_reaches i k r told.Muted n = refl
call_reaches i k r told.Silent n = refl

call_elsewhere : (i k : ℕ) (r : Request) (t : Told) → (k == i) ≡ false → reaches i (Call k r t) ≡ false
unfolding reaches
call_elsewhere i k r (told.Reply x) n = n
call_elsewhere i k r told.Dropped n = refl
call_elsewhere i k r told.Muted n = n
call_elsewhere i k r told.Silent n = n

-- what is told of an answer stands for it
plain_stands : (a : NodeAnswer) → IsReplyOrStop a → StandsFor (told_of Delivered a) a × (told_of Delivered a ≡ told.Dropped → ⊥)
unfolding told_of
plain_stands (Replied x) f = (refl, λ e. cc e)
plain_stands (Stopped k) f = (tt, λ e. cc e)
plain_stands Done f = absurd f
plain_stands Idle f = absurd f
plain_stands (NotOpened x) f = absurd f

pub tied_muted : (k c : ℕ) (r : Request) (a : NodeAnswer) (own own2 : List HistoryLine)
    → own2 ≡ own ++ record { caller = c; ask = Act false r; answer = a } ∷ [] → IsTied k (Call k r told.Muted) own own2
unfolding IsSame
tied_muted k c r a own own2 is =
    tied_one k (Call k r told.Muted) (record { caller = c; ask = Act false r; answer = a }) own own2 (call_reaches k k r told.Muted (λ e. cc e) ∙ same_test k k refl) (refl, tt) is

pub tied_heard : (k c : ℕ) (r : Request) (a : NodeAnswer) (t : Told) (own own2 : List HistoryLine) → t ≡ told_of Delivered a → IsReplyOrStop a
    → own2 ≡ own ++ record { caller = c; ask = Act false r; answer = a } ∷ []
    → IsTied k (Call k r t) own own2
unfolding IsSame
tied_heard k c r a t own own2 e f is =
    let p = plain_stands a f in
    subst (λ (x : Told). IsTied k (Call k r x) own own2) (sym e)
    (tied_one k (Call k r (told_of Delivered a)) (record { caller = c; ask = Act false r; answer = a }) own own2 (call_reaches k k r (told_of Delivered a) p.1 ∙ same_test k k refl) (refl, p.0) is)

pub tied_late : (k c : ℕ) (r : Request) (a : NodeAnswer) (own own2 : List HistoryLine) → own2 ≡ own ++ record { caller = c; ask = Act true r; answer = a } ∷ [] → IsTied k (Late k r) own own2
unfolding IsSame reaches
tied_late k c r a own own2 is = tied_one k (Late k r) (record { caller = c; ask = Act true r; answer = a }) own own2 (same_test k k refl) refl is

done_is : (a : NodeAnswer) → IsDoneOrIdle a → a ≡ done_or_idle (is_done a)
unfolding is_done
done_is (Replied x) f = absurd f
done_is (Stopped k) f = absurd f
done_is Done f = refl
done_is Idle f = refl
done_is (NotOpened x) f = absurd f

operated : (ask : NodeAsk) (a : NodeAnswer) → IsOperation ask → FitsAsk ask a → IsDoneOrIdle a
operated (Act late r) a o f = absurd o
operated Kill a o f = f
operated Restart a o f = f
operated (Arm calls stop) a o f = f

pub tied_operated : (k c : ℕ) (ask : NodeAsk) (a : NodeAnswer) (own own2 : List HistoryLine) → IsOperation ask → FitsAsk ask a → own2 ≡ own ++ record { caller = c; ask = ask; answer = a } ∷ []
    → IsTied k (Operator k ask (is_done a)) own own2
unfolding IsSame reaches
tied_operated k c ask a own own2 o f is =
    tied_one k (Operator k ask (is_done a)) (record { caller = c; ask = ask; answer = a }) own own2 (same_test k k refl) (refl, done_is a (operated ask a o f)) is

-- ## The log and the lines of one node
-- a line that reached this node alone
pub goes_line : (node : ℕ) (old new : LogView) (own own2 : List HistoryLine) (line : Record) → new.nodes ≡ old.nodes → new.whole ≡ old.whole → new.past ≡ old.past ++ line ∷ []
    → IsTied node line own own2 → ((k : ℕ) → (k ≡ node → ⊥) → reaches k line ≡ false) → Goes node old own new own2
goes_line node old new own own2 line n w more tied off = record {
  nodes = n;
  same = λ x. (sym w ∙ x, λ a. subst (λ l. AreSame (reached node l) own2) (sym more) (tied old.past a));
  others = λ x k apart. ap (reached k) more ∙ reached_off k old.past line (off k apart);
}

pub goes_with : (node : ℕ) (old new : LogView) (own own2 : List HistoryLine) (line : Record) → new ≡ with_line old line → IsTied node line own own2
    → ((k : ℕ) → (k ≡ node → ⊥) → reaches k line ≡ false)
    → Goes node old own new own2
goes_with node old new own own2 line e tied off = goes_line node old new own own2 line (ap (λ l. l.nodes) e) (ap (λ l. l.whole) e) (ap (λ l. l.past) e) tied off

pub call_apart : (k node : ℕ) (r : Request) (t : Told) → (k ≡ node → ⊥) → reaches k (Call node r t) ≡ false
call_apart k node r t off = call_elsewhere k node r t (other_test node k (λ e. off (sym e)))

pub late_apart : (k node : ℕ) (r : Request) → (k ≡ node → ⊥) → reaches k (Late node r) ≡ false
unfolding reaches
late_apart k node r off = other_test node k (λ e. off (sym e))

pub operator_apart : (k node : ℕ) (ask : NodeAsk) (d : Bool) → (k ≡ node → ⊥) → reaches k (Operator node ask d) ≡ false
unfolding reaches
operator_apart k node ask d off = other_test node k (λ e. off (sym e))

pub outcome_apart : (k : ℕ) (text : List ℕ) → reaches k (Outcome text) ≡ false
unfolding reaches
outcome_apart k text = refl

-- ## All seats
map_set_table : (seats : List Seat) (i : ℕ) (s d : Seat) → s.table ≡ (get_or seats i d).table → map (λ x. x.table) (set seats i s) ≡ map (λ x. x.table) seats
map_set_table seats i s d e = map-set_same (λ (x : Seat). x.table) seats i s d e

within_set : (seats : List Seat) (k i : ℕ) (t : Seat) → i < length (set seats k t) → i < length seats
within_set seats k i t l = let n = length-set seats k t in omega (arith, l, n)

at_set : (seats : List Seat) (node i : ℕ) (t d : Seat) → 1 ≤ node → node ≤ length seats → i ≡ node - 1 → get_or (set seats (node - 1) t) i d ≡ t
at_set seats node i t d low high e = ap (λ k. get_or (set seats (node - 1) t) k d) e ∙ get_or-set_same seats (node - 1) t d (omega (arith, low, high))

-- one of the seats is another of the same gate and caller
pub set_at : (c : ℕ) (tables : List TableId) (seats : List Seat) (node : ℕ) (s t : Seat) → 1 ≤ node → node ≤ length seats → AreAt c tables seats
    → s ≡ get_or seats (node - 1) s → t.table ≡ s.table → t.caller ≡ s.caller → AreAt c tables (set seats (node - 1) t)
set_at c tables seats node s t low high h is table caller = record {
  gates = map_set_table seats (node - 1) t s (table ∙ ap (λ (x : Seat). x.table) is) ∙ h.gates;
  callers = λ i d l. elim (eqb_tells i (node - 1)) [
    | inl same ↦ ap (λ (x : Seat). x.caller) (at_set seats node i t d low high same.1) ∙ caller ∙ ap (λ (x : Seat). x.caller) is ∙ h.callers (node - 1) s (omega (arith, low, high))
    | inr other ↦ ap (λ (x : Seat). x.caller) (get_or-set_other seats (node - 1) i t d other.1) ∙ h.callers i d (within_set seats (node - 1) i t l)
  ];
}

pub goes_seated : (c : ℕ) (tables : List TableId) (old new : LogView) (seats : List Seat) (node : ℕ) (s t : Seat) → 1 ≤ node → node ≤ old.nodes → AreSeated c tables old seats
    → s ≡ get_or seats (node - 1) s → t.table ≡ s.table → t.caller ≡ s.caller → Goes node old s.own new t.own → AreSeated c tables new (set seats (node - 1) t)
goes_seated c tables old new seats node s t low many h is table caller g =
    let high : node ≤ length seats = let n = h.count in omega (arith, many, n) in
    let at : AreAt c tables (set seats (node - 1) t) = set_at c tables seats node s t low high (record { gates = h.gates; callers = h.callers }) is table caller in
    record {
      count = length-set seats (node - 1) t ∙ h.count ∙ sym g.nodes;
      gates = at.gates;
      callers = at.callers;
      same = λ w i d l. elim (eqb_tells i (node - 1)) [
        | inl same ↦
            let e : node ≡ i + 1 = let x = same.1 in omega (arith, low, x) in
            let was : AreSame (reached ((node - 1) + 1) old.past) (get_or seats (node - 1) s).own = h.same (g.same w).0 (node - 1) s (omega (arith, low, high)) in
            let n : (node - 1) + 1 ≡ node = omega (arith, low) in
            let was2 : AreSame (reached node old.past) s.own = subst (λ (x : Seat). AreSame (reached node old.past) x.own) (sym is)
            (subst (λ k. AreSame (reached k old.past) (get_or seats (node - 1) s).own) n was) in
            subst (λ (x : Seat). AreSame (reached (i + 1) new.past) x.own) (sym (at_set seats node i t d low high same.1)) (subst (λ k. AreSame (reached k new.past) t.own) e ((g.same w).1 was2))
        | inr other ↦
            let apart : i + 1 ≡ node → ⊥ = λ e. other.1 (omega (arith, e)) in
            let was : AreSame (reached (i + 1) old.past) (get_or seats i d).own = h.same (g.same w).0 i d (within_set seats (node - 1) i t l) in
            subst (λ (x : Seat). AreSame (reached (i + 1) new.past) x.own) (sym (get_or-set_other seats (node - 1) i t d other.1))
            (subst (λ (rs : List Record). AreSame rs (get_or seats i d).own) (sym (g.others w (i + 1) apart)) was)
      ];
    }

-- a line or a mark that reaches no node
pub quiet_seated : (c : ℕ) (tables : List TableId) (old new : LogView) (seats : List Seat) → AreSeated c tables old seats → new.nodes ≡ old.nodes
    → (new.whole ≡ true → (old.whole ≡ true) × ((k : ℕ) → reached k new.past ≡ reached k old.past)) → AreSeated c tables new seats
quiet_seated c tables old new seats h n q = record {
  count = h.count ∙ sym n;
  gates = h.gates;
  callers = h.callers;
  same = λ w i d l. subst (λ rs. AreSame rs (get_or seats i d).own) (sym ((q w).1 (i + 1))) (h.same (q w).0 i d l);
}

-- ## The program's seats and gates, each shown as what it is known by
module _ {G S : Type 0} (table : G → TableId) (seat : S → Seat) where
  pub own_table : (gates : List G) (seats : List S) (node : ℕ) (s : S) (d : G) → 1 ≤ node → node ≤ length (map seat seats) → map (λ (x : Seat). x.table) (map seat seats) ≡ map table gates
      → s ≡ get_or seats (node - 1) s → (seat s).table ≡ table (get_or gates (node - 1) d)
  own_table gates seats node s d low high same is =
      let i : ℕ = node - 1 in
      let m : length (map (λ (x : Seat). x.table) (map seat seats)) ≡ length (map seat seats) = length-map (map seat seats) (λ (x : Seat). x.table) in
      let e : length (map (λ (x : Seat). x.table) (map seat seats)) ≡ length (map table gates) = ap length same in
      ap (λ x. (seat x).table) is
      ∙ ap (λ (x : Seat). x.table) (sym (get_or-map seat seats i s))
      ∙ sym (get_or-map (λ (x : Seat). x.table) (map seat seats) i (seat s))
      ∙ ap (λ l. get_or l i (seat s).table) same
      ∙ get_or_default (map table gates) i (seat s).table (table d) (omega (arith, low, high, m, e))
      ∙ get_or-map table gates i d

pub call_listed : (c : ℕ) (late : Bool) (q r : Request) (a : NodeAnswer) (own own2 : List HistoryLine) → q ≡ r → own2 ≡ own ++ record { caller = c; ask = Act late q; answer = a } ∷ []
    → own2 ≡ own ++ record { caller = c; ask = Act late r; answer = a } ∷ []
call_listed c late q r a own own2 e is = is ∙ ap (λ x. own ++ record { caller = c; ask = Act late x; answer = a } ∷ []) e

pub call_fits : (late : Bool) (q r : Request) (a : NodeAnswer) → q ≡ r → FitsAsk (Act late q) a → AnswerFits (Act late r) a
call_fits late q r a e f = subst (λ x. AnswerFits (Act late x) a) e f.1

pub ruleset calls = (call_listed, call_fits)
