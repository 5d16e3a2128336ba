-- An Ok that a caller heard stands in the order, as an answer that was heard; and what it
-- acknowledges is on the line.
use Rattle.std.proofs.Common.{◌≡◌, ℕ, ◌+◌, ◌-◌, ◌<◌, ◌≤◌, List, [], ◌∷◌, ◌++◌, length, reverse, drop, filter, Option, Some, None, Bool, true, false}
use Rattle.std.proofs.Common.{cond, refl, sym, ap, ◌∙◌, subst, arith, append_assoc, inl, inr, ◌==◌}
use Rattle.std.specs.Prelude.{slice_get, filter_map}
use Rattle.std.specs.List.{cons_option}
use Rattle.std.proofs.lemmas.Bool.Decides.{nat_tests}
use Rattle.std.proofs.lemmas.List.{reverse-append, append-nil}
use Rattle.journal_core.specs.Views.{HeadView, BatchView}
use Rattle.journal_core.specs.declared.request.Request.{Request}
use Rattle.journal_core.specs.declared.request.Request.TheVariants.{Journal}
use Rattle.journal_core.specs.declared.reply.Reply.TheVariants as reply
use Rattle.journal_history.specs.declared.node_ask.NodeAsk.TheVariants.{Act}
use Rattle.journal_history.specs.declared.node_ask.NodeAnswer.TheVariants.{Replied}
use Rattle.journal_history.specs.declared.history_line.HistoryLine.{HistoryLine}
use Rattle.journal_history.specs.declared.record.Record.{Record}
use Rattle.journal_history.specs.declared.record.Record.TheVariants.{Call}
use Rattle.journal_history.specs.declared.record.Told.TheVariants as told
use Rattle.journal_history.specs.Entries.{Entry, Answer, Heard, Earlier, now, before as earlier_one}
use Rattle.journal_history.specs.Moving.{Placed, epoch_of, moves, move_of, entry_of, moving_of}
use Rattle.run_safety.specs.Safe.{SaidOk}
use Rattle.mesh.specs.declared.whole.Mesh.{Mesh}
use Rattle.mesh.specs.Agree.{operator_of, record_of, history_at, ListsAgree}
use Rattle.mesh.specs.Matches.{reaches, reached, lines_of, IsSame, AreSame}
use Rattle.mesh.specs.Order.{is_muted, line_of_caller, placed_from, placed_at}
use Rattle.mesh.proofs.Shared.{In}
use Rattle.mesh.proofs.OrderSigns.{in_left, in_right}
use Rattle.play_laws.specs.Linear.{IsLinear}
use Rattle.play_laws.proofs.ReadLaws.{Place, place_of, in_filter, of_filter, within_in}

-- ## A caller's line and the node's line of it
-- the other line stands after as many others
pub record Mate (r : Record) (rb : List Record) (hs : List HistoryLine) : Type 0 where
  pub line : HistoryLine
  pub before : List HistoryLine
  pub after : List HistoryLine
  pub is : hs ≡ before ++ line ∷ after
  pub as_many : length before ≡ length rb
  pub same : IsSame r line

pub mate : (rb ra : List Record) (r : Record) (hs : List HistoryLine) → AreSame (rb ++ r ∷ ra) hs → Mate r rb hs
unfolding AreSame
mate [] ra r [] s = absurd s
mate [] ra r (h ∷ hs) s = record { line = h; before = []; after = hs; is = refl; as_many = refl; same = s.0 }
mate (x ∷ rb) ra r [] s = absurd s
mate (x ∷ rb) ra r (h ∷ hs) s =
    let m : Mate r rb hs = mate rb ra r hs s.1 in
    let more : length (h ∷ m.before) ≡ length (x ∷ rb) = (let l : length m.before ≡ length rb = m.as_many in omega (arith, l)) in
    record { line = m.line; before = h ∷ m.before; after = m.after; is = ap (λ (l : List HistoryLine). h ∷ l) m.is; as_many = more; same = m.same }

-- where it stands among all lines
pub record Whole (c : ℕ) (hs : List HistoryLine) (h : HistoryLine) (mine : List HistoryLine) : Type 0 where
  pub before : List HistoryLine
  pub after : List HistoryLine
  pub is : hs ≡ before ++ h ∷ after
  pub mine_before : lines_of c before ≡ mine
  pub caller : h.caller ≡ c

same_number : (a b : ℕ) → (a == b) ≡ true → a ≡ b
same_number a b e = grind (arith, nat_tests)

pub whole : (c : ℕ) (hs : List HistoryLine) (h : HistoryLine) (mine rest : List HistoryLine) → lines_of c hs ≡ mine ++ h ∷ rest → Whole c hs h mine
unfolding lines_of
whole c [] h [] rest e = absurd (cc e)
whole c [] h (m ∷ mine) rest e = absurd (cc e)
whole c (x ∷ hs) h mine rest e = by (x.caller == c) refl mine e (λ ms f. unfold lines_of in whole c hs h ms rest f)
  where
    head_is : (a b : HistoryLine) (as_ bs : List HistoryLine) → a ∷ as_ ≡ b ∷ bs → a ≡ b
    head_is a b as_ bs e = cc e

    tail_is : (a b : HistoryLine) (as_ bs : List HistoryLine) → a ∷ as_ ≡ b ∷ bs → as_ ≡ bs
    tail_is a b as_ bs e = ap (λ (l : List HistoryLine). drop 1 l) e

    rest_of : List HistoryLine
    rest_of = filter (λ z. z.caller == c) hs

    by : (t : Bool) → (x.caller == c) ≡ t → (ms : List HistoryLine) → cond t (x ∷ rest_of) rest_of ≡ ms ++ h ∷ rest
        → ((ns : List HistoryLine) → rest_of ≡ ns ++ h ∷ rest → Whole c hs h ns) → Whole c (x ∷ hs) h ms
    by true is [] e go =
        let same : x ≡ h = head_is x h rest_of rest e in
        record { before = []; after = hs; is = ap (λ (z : HistoryLine). z ∷ hs) same; mine_before = refl; caller = ap (λ (z : HistoryLine). z.caller) (sym same) ∙ same_number x.caller c is }
    by true is (m ∷ ms) e go =
        let w : Whole c hs h ms = go ms (tail_is x m rest_of (ms ++ h ∷ rest) e) in
        record {
          before = x ∷ w.before;
          after = w.after;
          is = ap (λ (l : List HistoryLine). x ∷ l) w.is;
          mine_before = rw is (ap (λ (l : List HistoryLine). x ∷ l) w.mine_before
              ∙ ap (λ (z : HistoryLine). z ∷ ms) (head_is x m rest_of (ms ++ h ∷ rest) e));
          caller = w.caller;
        }
    by false is ms e go =
        let w : Whole c hs h ms = go ms e in
        record { before = x ∷ w.before; after = w.after; is = ap (λ (l : List HistoryLine). x ∷ l) w.is; mine_before = rw is w.mine_before; caller = w.caller }

-- ## Lines of a history, as entries
get_middle : {A : Type 0} (xs ys : List A) (x : A) → slice_get (xs ++ x ∷ ys) (length xs) ≡ Some x
get_middle [] ys x = refl
get_middle (y ∷ xs) ys x = get_middle xs ys x

placed_in : (m : Mesh) (node : ℕ) (acc before after : List HistoryLine) (h : HistoryLine)
    → In (record { node = node; line = h; muted = is_muted (line_of_caller m node (acc ++ before) h) }) (placed_from m node acc (before ++ h ∷ after))
unfolding In placed_from
placed_in m node acc [] after h = inl (ap (λ (l : List HistoryLine). record { node = node; line = h; muted = is_muted (line_of_caller m node l h) }) (sym (append-nil acc)))
placed_in m node acc (x ∷ before) after h =
    inr (subst (λ (l : List HistoryLine). In (record { node = node; line = h; muted = is_muted (line_of_caller m node l h) }) (placed_from m node (acc ++ x ∷ []) (before ++ h ∷ after)))
    (append_assoc acc (x ∷ []) before) (placed_in m node (acc ++ x ∷ []) before after h))

in_moving : (x : Placed) (e : Entry) (xs : List Placed) → In x xs → entry_of x ≡ Some e → In e (moving_of xs)
unfolding In moving_of
in_moving x e [] i is = absurd i
in_moving x e (y ∷ xs) (inl s) is = rw (ap entry_of s ∙ is) (inl refl)
in_moving x e (y ∷ xs) (inr i) is = by (entry_of y) (unfold moving_of in in_moving x e xs i is)
  where
    by : (o : Option Entry) → In e (filter_map entry_of xs) → In e (cons_option o (filter_map entry_of xs))
    by None j = j
    by (Some z) j = inr j

-- a member of an order stands in it at some place
earlier_in : (e : Entry) (past : List Entry) → In e past → (old : List Entry) × Earlier (e ∷ old) past
unfolding In
earlier_in e [] i = absurd i
earlier_in e (x ∷ past) (inl s) = (past, subst (λ (z : Entry). Earlier (z ∷ past) (x ∷ past)) s now)
earlier_in e (x ∷ past) (inr i) = let y : (old : List Entry) × Earlier (e ∷ old) past = earlier_in e past i in (y.0, earlier_one y.1)

in_reverse : (e : Entry) (xs : List Entry) → In e xs → In e (reverse xs)
unfolding In
in_reverse e [] i = absurd i
in_reverse e (x ∷ xs) (inl s) = subst (λ (l : List Entry). In e l) (sym (reverse-append (x ∷ []) xs)) (in_right e (reverse xs) (x ∷ []) (inl s))
in_reverse e (x ∷ xs) (inr i) = subst (λ (l : List Entry). In e l) (sym (reverse-append (x ∷ []) xs)) (in_left e (reverse xs) (x ∷ []) (in_reverse e xs i))

-- ## An Ok that was heard
pub said_ok : (m : Mesh) (entries : List Entry) (c node : ℕ) (head : HeadView) (start : ℕ) (batch : BatchView) → ListsAgree m → IsLinear m entries → c < operator_of m
    → In (Call node (Journal head start batch) (told.Reply reply.Ok)) (record_of m c) → SaidOk (reverse entries) node (Journal head start batch)
unfolding reaches reached moves move_of entry_of epoch_of
said_ok m entries c node head start batch lists lin below listed = (y.0, e, y.1, sym node_is, (c, refl))
  where
    q : Request
    q = Journal head start batch

    r : Record
    r = Call node q (told.Reply reply.Ok)

    within : (1 ≤ node) × (node ≤ m.nodes)
    within = within_in m.nodes (record_of m c) r (lists.within c (omega (arith, below))) listed

    i : ℕ
    i = node - 1

    node_is : node ≡ i + 1
    node_is = omega (arith, within.0)

    small : i < m.nodes
    small = omega (arith, within.0, within.1)

    reaches_it : reaches (i + 1) r ≡ true
    reaches_it = grind (arith, nat_tests, node_is)

    place : Place r (reached (i + 1) (record_of m c))
    place = place_of r (reached (i + 1) (record_of m c)) (in_filter (reaches (i + 1)) r (record_of m c) listed reaches_it)

    t : Mate r place.before (lines_of c (history_at m i))
    t = mate place.before place.after r (lines_of c (history_at m i)) (subst (λ (l : List Record). AreSame l (lines_of c (history_at m i))) place.is (lists.same i c small (omega (arith, below))))

    h : HistoryLine
    h = t.line

    w : Whole c (history_at m i) h t.before
    w = whole c (history_at m i) h t.before t.after t.is

    same : (h.ask ≡ Act false q) × (h.answer ≡ Replied reply.Ok)
    same = unfold IsSame in t.same

    mine : line_of_caller m (i + 1) w.before h ≡ Some r
    mine =
        ap (λ (k : ℕ). slice_get (reached (i + 1) (record_of m k)) (length (lines_of k w.before))) w.caller
        ∙ ap (λ (l : List HistoryLine). slice_get (reached (i + 1) (record_of m c)) (length l)) w.mine_before
        ∙ ap (λ (k : ℕ). slice_get (reached (i + 1) (record_of m c)) k) t.as_many
        ∙ ap (λ (l : List Record). slice_get l (length place.before)) place.is
        ∙ get_middle place.before place.after r

    x : Placed
    x = record { node = i + 1; line = h; muted = is_muted (line_of_caller m (i + 1) w.before h) }

    e : Entry
    e = record { node = i + 1; move = Answer c Heard q reply.Ok }

    entry_is : entry_of x ≡ Some e
    entry_is =
        ap (λ (b : Bool). entry_of (record { node = i + 1; line = h; muted = b })) (ap is_muted mine)
        ∙ ap (λ (l : HistoryLine). entry_of (record { node = i + 1; line = l; muted = false })) line_is
      where
        line_is : h ≡ record { caller = c; ask = Act false q; answer = Replied reply.Ok }
        line_is = (λ i. record { caller = w.caller i; ask = same.0 i; answer = same.1 i })

    in_placed : In x (placed_at m i)
    in_placed = subst (λ (l : List HistoryLine). In x (placed_from m (i + 1) [] l)) (sym w.is) (placed_in m (i + 1) [] w.before w.after h)

    in_order : In e (reverse entries)
    in_order = in_reverse e entries (of_filter (λ z. z.node == (i + 1)) e entries
        (subst (λ (l : List Entry). In e l) (sym (lin.at_nodes i small)) (in_moving x e (placed_at m i) in_placed entry_is))).0

    y : (old : List Entry) × Earlier (e ∷ old) (reverse entries)
    y = earlier_in e (reverse entries) in_order
