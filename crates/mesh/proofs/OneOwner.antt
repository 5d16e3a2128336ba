-- An epoch of an agreeing mesh has one owner.
use Rattle.std.proofs.Common.{◌≡◌, ℕ, zero, suc, ◌+◌, ◌-◌, ◌*◌, ◌<◌, ◌≤◌, List, [], ◌∷◌, Bool, true, false, cond, filter, refl, sym, ap, ◌∙◌, subst, arith, length, get_or, ◌⊎◌, inl, inr}
use Rattle.std.specs.Prelude.{Option, Some, ◌==◌}
use Rattle.std.proofs.lemmas.Bool.{ltb-true}
use Rattle.journal_core.specs.declared.request.Request.{Request}
use Rattle.journal_core.specs.declared.request.Request.TheVariants as request
use Rattle.journal_core.specs.declared.reply.Reply.TheVariants as reply
use Rattle.journal_history.specs.declared.node_ask.NodeAsk.TheVariants.{Act}
use Rattle.journal_history.specs.declared.node_ask.NodeAnswer.TheVariants.{Replied}
use Rattle.journal_history.specs.declared.history_line.HistoryLine.{HistoryLine}
use Rattle.journal_history.specs.declared.record.Record.{Record}
use Rattle.journal_history.specs.declared.record.Record.TheVariants.{Call, Late, Operator, Outcome}
use Rattle.journal_history.specs.declared.record.Told.{Told}
use Rattle.journal_history.specs.declared.record.Told.TheVariants as told
use Rattle.journal_history.specs.Cell.{Cell, cell_takes, fresh_cell, IsLocalRun}
use Rattle.journal_history.specs.Entries as entry
use Rattle.journal_history.specs.Entries.{Move}
use Rattle.journal_history.specs.Moving.{epoch_of, moves, move_of, falls, way_of}
use Rattle.journal_history.proofs.Raised.{Raised, CellRaised, cell_raised}
use Rattle.journal_history.proofs.CellLaws.{promise}
use Rattle.mesh.specs.declared.whole.Mesh.{Mesh}
use Rattle.mesh.specs.Makers.{IsOperators}
use Rattle.mesh.specs.Matches.{reaches, reached, lines_of, IsSame, AreSame, AreWithin}
use Rattle.mesh.specs.Agree.{Agrees, operator_of, history_at, record_of}
use Rattle.mesh.specs.Owners.{promised_to, wins, owns, HasOwners}
use Rattle.mesh.proofs.Lists.{Alike, alike, same_test}
use Rattle.mesh.proofs.Shared.{In, Below, shared}
use Rattle.mesh.proofs.Winners.{HeardOk, all_in, HasMajority, owner_heard}
use Rattle.mesh.proofs.Heads.{heads_own}

-- the line answers a proposal of e with a promise
record Takes (e : ℕ) (h : HistoryLine) : Type 0 where
  late : Bool
  newest : Option ℕ
  ask : h.ask ≡ Act late (request.NewEpoch e)
  answer : h.answer ≡ Replied (reply.NewEpoch newest)

the_move : ℕ → ℕ → Bool → Option ℕ → Move
the_move caller e late newest = entry.Answer caller (way_of late false) (request.NewEpoch e) (reply.NewEpoch newest)

moves_so : (caller e : ℕ) (late : Bool) (newest : Option ℕ) → move_of caller false (Act late (request.NewEpoch e)) (Replied (reply.NewEpoch newest)) ≡ Some (the_move caller e late newest)
unfolding move_of moves epoch_of the_move
moves_so caller e late newest = refl

falls_not : (caller e : ℕ) (late : Bool) (newest : Option ℕ) → falls (the_move caller e late newest) ≡ false
unfolding the_move
falls_not caller e late newest = refl

takes_moved : (c : Cell) (e : ℕ) (h : HistoryLine) → h.answer ≡ (cell_takes c h.ask).answer → Takes e h → (c.state.promised < e) × ((cell_takes c h.ask).cell.state.promised ≡ e)
unfolding epoch_of
takes_moved c e h run t =
    let m : Move = the_move h.caller e t.late t.newest in
    let moved : move_of h.caller false h.ask (cell_takes c h.ask).answer ≡ Some m =
    ap (move_of h.caller false h.ask) (sym run ∙ t.answer) ∙ (ap (λ (a : _). move_of h.caller false a (Replied (reply.NewEpoch t.newest))) t.ask ∙ moves_so h.caller e t.late t.newest) in
    let w : CellRaised c h.ask = cell_raised c h.ask h.caller false m moved (falls_not h.caller e t.late t.newest) in
    let same : w.request ≡ request.NewEpoch e = cc (w.asks, t.ask) in
    let r : Raised c.state.promised (cell_takes c h.ask).cell.state.promised (request.NewEpoch e) =
    subst (λ (q : Request). Raised c.state.promised (cell_takes c h.ask).cell.state.promised q) same w.raised in
    let of : e ≡ r.epoch = cc r.of in
    (omega (arith, r.rises refl, of), r.is ∙ sym of)

none_later : (c : Cell) (hs : List HistoryLine) (e : ℕ) (g : HistoryLine) → IsLocalRun c hs → e ≤ c.state.promised → In g hs → Takes e g → ⊥
unfolding IsLocalRun In
none_later c [] e g run l i t = i
none_later c (h ∷ hs) e g run l (inl same) t =
    let t' : Takes e h = subst (Takes e) (sym same) t in
    omega (arith, (takes_moved c e h run.0 t').0, l)
none_later c (h ∷ hs) e g run l (inr i) t = none_later (cell_takes c h.ask).cell hs e g run.1 (omega (arith, l, promise c h.ask)) i t

-- a node promises an epoch once
one_line : (c : Cell) (hs : List HistoryLine) (e : ℕ) (h g : HistoryLine) → IsLocalRun c hs → In h hs → In g hs → Takes e h → Takes e g → h.caller ≡ g.caller
unfolding IsLocalRun In
one_line c [] e h g run i j s t = absurd i
one_line c (x ∷ hs) e h g run (inl i) (inl j) s t = ap (λ (z : HistoryLine). z.caller) (sym i ∙ j)
one_line c (x ∷ hs) e h g run (inl i) (inr j) s t =
    let s' : Takes e x = subst (Takes e) (sym i) s in
    absurd (none_later (cell_takes c x.ask).cell hs e g run.1 (omega (arith, (takes_moved c e x run.0 s').1)) j t)
one_line c (x ∷ hs) e h g run (inr i) (inl j) s t =
    let t' : Takes e x = subst (Takes e) (sym j) t in
    absurd (none_later (cell_takes c x.ask).cell hs e h run.1 (omega (arith, (takes_moved c e x run.0 t').1)) i s)
one_line c (x ∷ hs) e h g run (inr i) (inr j) s t = one_line (cell_takes c x.ask).cell hs e h g run.1 i j s t

-- ## From the record to the history
ok_newest : (t : Told) → promised_to t ≡ true → (m : Option ℕ) × (t ≡ told.Reply (reply.NewEpoch m))
ok_newest (told.Reply (reply.NewEpoch m)) h = (m, refl)
ok_newest (told.Reply reply.Ok) h = absurd (cc h)
ok_newest (told.Reply (reply.State p)) h = absurd (cc h)
ok_newest (told.Reply (reply.Prepared a b c)) h = absurd (cc h)
ok_newest (told.Reply (reply.Edits b)) h = absurd (cc h)
ok_newest (told.Reply (reply.Segments a)) h = absurd (cc h)
ok_newest (told.Reply (reply.Refused f)) h = absurd (cc h)
ok_newest told.Dropped h = absurd (cc h)
ok_newest told.Muted h = absurd (cc h)
ok_newest told.Silent h = absurd (cc h)

the_call : ℕ → ℕ → Option ℕ → Record
the_call k e m = Call k (request.NewEpoch e) (told.Reply (reply.NewEpoch m))

heard_in : (k e : ℕ) (rs : List Record) → HeardOk k e rs → (m : Option ℕ) × In (the_call k e m) rs
unfolding HeardOk In the_call
heard_in k e [] h = absurd h
heard_in k e (Call i q t ∷ rs) (inl h) =
    let w : (m : Option ℕ) × (t ≡ told.Reply (reply.NewEpoch m)) = ok_newest t h.2 in
    (w.0, inl (cc (h.0, h.1, w.1)))
heard_in k e (Call i q t ∷ rs) (inr h) = let w : (m : Option ℕ) × In (the_call k e m) rs = heard_in k e rs h in (w.0, inr w.1)
heard_in k e (Late i q ∷ rs) h = let w : (m : Option ℕ) × In (the_call k e m) rs = heard_in k e rs h in (w.0, inr w.1)
heard_in k e (Operator i q d ∷ rs) h = let w : (m : Option ℕ) × In (the_call k e m) rs = heard_in k e rs h in (w.0, inr w.1)
heard_in k e (Outcome x ∷ rs) h = let w : (m : Option ℕ) × In (the_call k e m) rs = heard_in k e rs h in (w.0, inr w.1)

in_reached : (k : ℕ) (r : Record) (rs : List Record) → reaches k r ≡ true → In r rs → In r (reached k rs)
unfolding In reached
in_reached k r [] e i = absurd i
in_reached k r (y ∷ rs) e (inl same) =
    let y' : reaches k y ≡ true = ap (reaches k) same ∙ e in
    rw y' (inl same)
in_reached k r (y ∷ rs) e (inr i) = by (reaches k y) (in_reached k r rs e i)
  where
    by : (b : Bool) → In r (filter (reaches k) rs) → In r (cond b (y ∷ filter (reaches k) rs) (filter (reaches k) rs))
    by true h = inr h
    by false h = h

pub same_line : (rs : List Record) (hs : List HistoryLine) (r : Record) → AreSame rs hs → In r rs → (h : HistoryLine) × In h hs × IsSame r h
unfolding In AreSame
same_line [] hs r s i = absurd i
same_line (x ∷ rs) [] r s i = absurd s
same_line (x ∷ rs) (h ∷ hs) r s (inl e) = (h, inl refl, subst (λ (z : Record). IsSame z h) e s.0)
same_line (x ∷ rs) (h ∷ hs) r s (inr i) = let w : (g : HistoryLine) × In g hs × IsSame r g = same_line rs hs r s.1 i in (w.0, inr w.1, w.2)

pub lines_out : (c : ℕ) (h : HistoryLine) (hs : List HistoryLine) → In h (lines_of c hs) → In h hs × (h.caller ≡ c)
unfolding In lines_of Alike
lines_out c h [] i = absurd i
lines_out c h (y ∷ hs) i = by (alike y.caller c) i (λ z. lines_out c h hs z)
  where
    rest : List HistoryLine
    rest = filter (λ (z : HistoryLine). z.caller == c) hs

    by : Alike y.caller c → In h (cond (y.caller == c) (y ∷ filter (λ (z : HistoryLine). z.caller == c) hs)
        (filter (λ (z : HistoryLine). z.caller == c) hs)) → (In h (filter (λ (z : HistoryLine). z.caller == c) hs) → In h hs × (h.caller ≡ c))
        → ((y ≡ h) ⊎ In h hs) × (h.caller ≡ c)
    by (inl e) z go = at (rw e.0 at z) go
      where
        at : (y ≡ h) ⊎ In h (filter (λ (z : HistoryLine). z.caller == c) hs) → (In h (filter (λ (z : HistoryLine). z.caller == c) hs) → In h hs × (h.caller ≡ c)) → ((y ≡ h) ⊎ In h hs) × (h.caller ≡ c)
        at (inl x) f = (inl x, ap (λ (w : HistoryLine). w.caller) (sym x) ∙ e.1)
        at (inr x) f = (inr (f x).0, (f x).1)
    by (inr e) z go = let x : In h hs × (h.caller ≡ c) = go (rw e.0 at z) in (inr x.0, x.1)

self_reached : (k e : ℕ) (m : Option ℕ) → reaches k (the_call k e m) ≡ true
unfolding reaches the_call
self_reached k e m = same_test k k refl

-- what was heard of the node i + 1 stands in its history
record Taken (m : Mesh) (c i e : ℕ) : Type 0 where
  line : HistoryLine
  there : In line (history_at m i)
  by : line.caller ≡ c
  takes : Takes e line

heard_taken : (m : Mesh) → Agrees m → (c i e : ℕ) → i < m.nodes → c ≤ operator_of m → HeardOk (i + 1) e (record_of m c) → Taken m c i e
unfolding IsSame the_call
heard_taken m a c i e in_ caller heard =
    let w : (x : Option ℕ) × In (the_call (i + 1) e x) (record_of m c) = heard_in (i + 1) e (record_of m c) heard in
    let there : In (the_call (i + 1) e w.0) (reached (i + 1) (record_of m c)) = in_reached (i + 1) (the_call (i + 1) e w.0) (record_of m c) (self_reached (i + 1) e w.0) w.1 in
    let l : (h : HistoryLine) × In h (lines_of c (history_at m i)) × IsSame (the_call (i + 1) e w.0) h =
    same_line (reached (i + 1) (record_of m c)) (lines_of c (history_at m i)) (the_call (i + 1) e w.0) (a.lists.same i c in_ caller) there in
    let out : In l.0 (history_at m i) × (l.0.caller ≡ c) = lines_out c l.0 (history_at m i) l.1 in
    record { line = l.0; there = out.0; by = out.1; takes = record { late = false; newest = w.0; ask = l.2.0; answer = l.2.1 } }

below_range : (hi k : ℕ) (ks : List ℕ) → Below hi ks → In k ks → (1 ≤ k) × (k < hi)
unfolding Below In
below_range hi k [] b i = absurd i
below_range hi k (j ∷ ks) b (inl e) = (omega (arith, b.0, e), omega (arith, b.1, e))
below_range hi k (j ∷ ks) b (inr i) = let w : (1 ≤ k) × (k < j) = below_range j k ks b.2 i in (w.0, omega (arith, w.1, b.1))

-- ## An owner is an actor: the operator's record has no call, and no one else has a record
operator_owns : (n e : ℕ) (rs : List Record) → IsOperators rs → wins n e 0 rs ≡ true → ⊥
unfolding IsOperators wins
operator_owns n e [] h o = omega (arith, ltb-true n (2 * 0) o)
operator_owns n e (Call k q t ∷ rs) h o = h
operator_owns n e (Late k q ∷ rs) h o = h
operator_owns n e (Operator k q d ∷ rs) h o = operator_owns n e rs h.1 o
operator_owns n e (Outcome x ∷ rs) h o = h

past_end : (rss : List (List Record)) (c : ℕ) → length rss ≤ c → get_or rss c [] ≡ []
past_end [] c l = refl
past_end (rs ∷ rss) zero l = absurd (omega (arith, l))
past_end (rs ∷ rss) (suc c) l = past_end rss c (omega (arith, l))

no_operators : IsOperators []
unfolding IsOperators
no_operators = tt

actor_only : (m : Mesh) → Agrees m → (c e : ℕ) → owns m c e ≡ true → c < operator_of m
unfolding owns
actor_only m a c e o = by (cases c (operator_of m))
  where
    cases : (x y : ℕ) → (x < y) ⊎ ((x ≡ y) ⊎ (y + 1 ≤ x))
    cases x y = grind arith

    by : (c < operator_of m) ⊎ ((c ≡ operator_of m) ⊎ (operator_of m + 1 ≤ c)) → c < operator_of m
    by (inl l) = l
    by (inr (inl x)) = absurd (operator_owns m.nodes e (record_of m c) (subst (λ (z : ℕ). IsOperators (record_of m z)) (sym x) a.lists.operated) o)
    by (inr (inr l)) =
        let none : record_of m c ≡ [] = past_end m.records c (omega (arith, l, a.records)) in
        absurd (operator_owns m.nodes e [] no_operators (subst (λ (z : List Record). wins m.nodes e 0 z ≡ true) none o))

-- so there is a node
some_node : (n e : ℕ) (rs : List Record) → AreWithin n rs → wins n e 0 rs ≡ true → 0 < n
unfolding AreWithin wins
some_node n e [] w o = absurd (omega (arith, ltb-true n (2 * 0) o))
some_node n e (Call k q t ∷ rs) w o = omega (arith, w.0.0, w.0.1)
some_node n e (Late k q ∷ rs) w o = some_node n e rs w.1 o
some_node n e (Operator k q d ∷ rs) w o = some_node n e rs w.1 o
some_node n e (Outcome x ∷ rs) w o = some_node n e rs w.1 o

one_owner : (m : Mesh) → Agrees m → (c d e : ℕ) → owns m c e ≡ true → owns m d e ≡ true → c ≡ d
unfolding owns
one_owner m a c d e o p =
    let lc : c < operator_of m = actor_only m a c e (unfold owns in o) in
    let ld : d < operator_of m = actor_only m a d e (unfold owns in p) in
    let some : 0 < m.nodes = some_node m.nodes e (record_of m c) (a.lists.within c (omega (arith, lc))) o in
    let hc : HasMajority m.nodes e (record_of m c) = owner_heard m.nodes e (record_of m c) some (a.made c lc) o in
    let hd : HasMajority m.nodes e (record_of m d) = owner_heard m.nodes e (record_of m d) some (a.made d ld) p in
    let k : (k : ℕ) × In k hc.nodes × In k hd.nodes = shared m.nodes hc.nodes hd.nodes hc.below hd.below hc.more hd.more in
    let range : (1 ≤ k.0) × (k.0 < m.nodes + 1) = below_range (m.nodes + 1) k.0 hc.nodes hc.below k.1 in
    let same : k.0 ≡ k.0 - 1 + 1 = omega (arith, range.0) in
    let in_ : k.0 - 1 < m.nodes = omega (arith, range.0, range.1) in
    let x : HeardOk (k.0 - 1 + 1) e (record_of m c) = subst (λ (z : ℕ). HeardOk z e (record_of m c)) same (all_in e k.0 hc.nodes (record_of m c) hc.heard k.1) in
    let y : HeardOk (k.0 - 1 + 1) e (record_of m d) = subst (λ (z : ℕ). HeardOk z e (record_of m d)) same (all_in e k.0 hd.nodes (record_of m d) hd.heard k.2) in
    let h : Taken m c (k.0 - 1) e = heard_taken m a c (k.0 - 1) e in_ (omega (arith, lc)) x in
    let g : Taken m d (k.0 - 1) e = heard_taken m a d (k.0 - 1) e in_ (omega (arith, ld)) y in
    sym h.by ∙ (one_line fresh_cell (history_at m (k.0 - 1)) e h.line g.line (a.lists.local (k.0 - 1) in_) h.there g.there h.takes g.takes ∙ g.by)

pub has_owners : (m : Mesh) → Agrees m → HasOwners m
has_owners m a = record { heads = λ i before after h late q e in_ is ask of p. heads_own m a i before after h late q e in_ is ask of p; one = λ c d e o p. one_owner m a c d e o p }
