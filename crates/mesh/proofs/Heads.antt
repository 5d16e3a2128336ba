-- In an agreeing mesh each request with a head comes from a caller that owns its epoch.
use Rattle.std.proofs.Common.{◌≡◌, ℕ, zero, suc, ◌+◌, ◌-◌, ◌<◌, ◌≤◌, List, [], ◌∷◌, ◌++◌, Bool, true, false, cond, filter, refl, sym, ap, ◌∙◌, subst, arith, append_assoc, ◌⊎◌, inl, inr}
use Rattle.std.specs.Prelude.{Some, ◌==◌, slice_get}
use Rattle.journal_core.specs.declared.request.Request.{Request}
use Rattle.journal_history.specs.declared.node_ask.NodeAsk.{NodeAsk}
use Rattle.journal_history.specs.declared.node_ask.NodeAsk.TheVariants.{Act}
use Rattle.journal_history.specs.declared.history_line.HistoryLine.{HistoryLine}
use Rattle.journal_history.specs.declared.record.Record.{Record}
use Rattle.journal_history.specs.declared.record.Record.TheVariants.{Call, Late, Operator, Outcome}
use Rattle.journal_history.specs.declared.record.Told.{Told}
use Rattle.journal_history.specs.declared.mark.Mark.{Mark}
use Rattle.journal_history.specs.Moving.{epoch_of, is_proposal}
use Rattle.mesh.specs.declared.whole.Mesh.{Mesh}
use Rattle.mesh.specs.Marks.{calls_to, IsMarked}
use Rattle.mesh.specs.Makers.{Maker, maker_hears, IsMade, IsOfChores, IsOperation, IsOperators}
use Rattle.mesh.specs.Matches.{reaches, reached, lines_of, IsSame, AreSame, CallersWithin}
use Rattle.mesh.specs.Agree.{Agrees, operator_of, history_at, record_of, plan_of}
use Rattle.mesh.specs.Owners.{wins, owns}
use Rattle.mesh.proofs.Lists.{Alike, alike, same_test}
use Rattle.mesh.proofs.CopyLaws.{copy_named}
use Rattle.mesh.proofs.Shared.{In}
use Rattle.mesh.proofs.Senders.{Sends, sender_owns}

-- ## Members of filtered lists
in_cond : {A : Type 0} (b : Bool) (x y : A) (ys : List A) → In x ys → In x (cond b (y ∷ ys) ys)
unfolding In
in_cond true x y ys h = inr h
in_cond false x y ys h = h

out_cond : {A : Type 0} (b : Bool) (x y : A) (ys : List A) → In x (cond b (y ∷ ys) ys) → (y ≡ x) ⊎ In x ys
unfolding In
out_cond true x y ys h = h
out_cond false x y ys h = inr h

lines_in : (h : HistoryLine) (hs : List HistoryLine) → In h hs → In h (lines_of h.caller hs)
unfolding In lines_of
lines_in h [] x = absurd x
lines_in h (y ∷ hs) (inl e) = rw (same_test y.caller h.caller (ap (λ (z : HistoryLine). z.caller) e)) (inl e)
lines_in h (y ∷ hs) (inr x) = in_cond (y.caller == h.caller) h y (filter (λ (z : HistoryLine). z.caller == h.caller) hs) (lines_in h hs x)

reached_in : (k : ℕ) (r : Record) (rs : List Record) → In r (reached k rs) → In r rs
unfolding In reached
reached_in k r [] x = absurd x
reached_in k r (y ∷ rs) x = by (out_cond (reaches k y) r y (filter (reaches k) rs) x) (λ z. reached_in k r rs z)
  where
    by : (y ≡ r) ⊎ In r (filter (reaches k) rs) → (In r (filter (reaches k) rs) → In r rs) → (y ≡ r) ⊎ In r rs
    by (inl e) go = inl e
    by (inr z) go = inr (go z)

pub same_in : (rs : List Record) (hs : List HistoryLine) (h : HistoryLine) → AreSame rs hs → In h hs → (r : Record) × In r rs × IsSame r h
unfolding In AreSame
same_in [] [] h s x = absurd x
same_in [] (y ∷ hs) h s x = absurd s
same_in (r ∷ rs) [] h s x = absurd s
same_in (r ∷ rs) (y ∷ hs) h s (inl e) = (r, inl refl, subst (IsSame r) e s.0)
same_in (r ∷ rs) (y ∷ hs) h s (inr x) = let w : (z : Record) × In z rs × IsSame z h = same_in rs hs h s.1 x in (w.0, inr w.1, w.2)

-- ## What was sent
call_sends : (k : ℕ) (q : Request) (t : Told) (rs : List Record) → In (Call k q t) rs → Sends q rs
unfolding In Sends
call_sends k q t [] x = absurd x
call_sends k q t (Call i p u ∷ rs) (inl e) = inl (cc e)
call_sends k q t (Call i p u ∷ rs) (inr x) = inr (call_sends k q t rs x)
call_sends k q t (Late i p ∷ rs) (inl e) = absurd (cc e)
call_sends k q t (Late i p ∷ rs) (inr x) = call_sends k q t rs x
call_sends k q t (Operator i p d ∷ rs) (inl e) = absurd (cc e)
call_sends k q t (Operator i p d ∷ rs) (inr x) = call_sends k q t rs x
call_sends k q t (Outcome y ∷ rs) (inl e) = absurd (cc e)
call_sends k q t (Outcome y ∷ rs) (inr x) = call_sends k q t rs x

sends_left : (q : Request) (xs ys : List Record) → Sends q xs → Sends q (xs ++ ys)
unfolding Sends
sends_left q [] ys h = absurd h
sends_left q (Call k p t ∷ xs) ys (inl e) = inl e
sends_left q (Call k p t ∷ xs) ys (inr h) = inr (sends_left q xs ys h)
sends_left q (Late k p ∷ xs) ys h = sends_left q xs ys h
sends_left q (Operator k p d ∷ xs) ys h = sends_left q xs ys h
sends_left q (Outcome x ∷ xs) ys h = sends_left q xs ys h

called_sends : (k i : ℕ) (q : Request) (rs : List Record) → slice_get (calls_to k rs) i ≡ Some q → Sends q rs
unfolding Sends calls_to
called_sends k i q [] e = absurd (cc e)
called_sends k i q (Call j p t ∷ rs) e = by (j == k) i e (λ x y. called_sends k x q rs y)
  where
    by : (b : Bool) (i : ℕ) → slice_get (cond b (p ∷ calls_to k rs) (calls_to k rs)) i ≡ Some q → ((x : ℕ) → slice_get (calls_to k rs) x ≡ Some q → Sends q rs) → (p ≡ q) ⊎ Sends q rs
    by true zero f go = inl (cc f)
    by true (suc x) f go = inr (go x f)
    by false x f go = inr (go x f)
called_sends k i q (Late j p ∷ rs) e = called_sends k i q rs e
called_sends k i q (Operator j p d ∷ rs) e = called_sends k i q rs e
called_sends k i q (Outcome x ∷ rs) e = called_sends k i q rs e

late_sends : (plan : List Mark) (before rs : List Record) (k : ℕ) (q : Request) → IsMarked plan before rs → In (Late k q) rs → Sends q (before ++ rs)
unfolding In IsMarked
late_sends plan before [] k q m x = absurd x
late_sends plan before (Call i p t ∷ rs) k q m (inl e) = absurd (cc e)
late_sends plan before (Call i p t ∷ rs) k q m (inr x) = subst (Sends q) (append_assoc before (Call i p t ∷ []) rs) (late_sends plan (before ++ Call i p t ∷ []) rs k q m.1 x)
late_sends plan before (Late i p ∷ rs) k q m (inl e) =
    let same : p ≡ q = cc e in
    sends_left q before (Late i p ∷ rs) (subst (λ (z : Request). Sends z before) same (let c = copy_named plan before i p m.0 in called_sends i (c.0 - 1) p before c.2.1))
late_sends plan before (Late i p ∷ rs) k q m (inr x) = subst (Sends q) (append_assoc before (Late i p ∷ []) rs) (late_sends plan (before ++ Late i p ∷ []) rs k q m.1 x)
late_sends plan before (Operator i p d ∷ rs) k q m (inl e) = absurd (cc e)
late_sends plan before (Operator i p d ∷ rs) k q m (inr x) = subst (Sends q) (append_assoc before (Operator i p d ∷ []) rs) (late_sends plan (before ++ Operator i p d ∷ []) rs k q m x)
late_sends plan before (Outcome y ∷ rs) k q m (inl e) = absurd (cc e)
late_sends plan before (Outcome y ∷ rs) k q m (inr x) = subst (Sends q) (append_assoc before (Outcome y ∷ []) rs) (late_sends plan (before ++ Outcome y ∷ []) rs k q m x)

-- the operator asks for no request, and an actor's record has no line of the operator
pub operator_acts : (rs : List Record) (r : Record) (h : HistoryLine) (late : Bool) (q : Request) → IsOperators rs → In r rs → IsSame r h → h.ask ≡ Act late q → ⊥
unfolding In IsOperators IsSame
operator_acts [] r h late q o x s e = x
operator_acts (Call k p t ∷ rs) r h late q o x s e = o
operator_acts (Late k p ∷ rs) r h late q o x s e = o
operator_acts (Operator k p d ∷ rs) r h late q o (inl y) s e =
    let t : IsSame (Operator k p d) h = unfold IsSame in subst (λ (z : Record). IsSame z h) (sym y) s in
    let ask : p ≡ Act late q = sym (asked t) ∙ e in
    let none : IsOperation (Act late q) = subst IsOperation ask o.0 in none
  where
    asked : IsSame (Operator k p d) h → h.ask ≡ p
    asked t = t.0
operator_acts (Operator k p d ∷ rs) r h late q o (inr x) s e = operator_acts rs r h late q o.1 x s e
operator_acts (Outcome y ∷ rs) r h late q o x s e = o

pub made_operator : (m : Maker) (rs : List Record) (k : ℕ) (p : NodeAsk) (d : Bool) → IsMade m rs → In (Operator k p d) rs → ⊥
unfolding In IsMade
made_operator m [] k p d h x = x
made_operator m (Call i q t ∷ rs) k p d h (inl e) = absurd (cc e)
made_operator m (Call i q t ∷ rs) k p d h (inr x) = made_operator (maker_hears m i t) rs k p d h.1 x
made_operator m (Late i q ∷ rs) k p d h (inl e) = absurd (cc e)
made_operator m (Late i q ∷ rs) k p d h (inr x) = made_operator m rs k p d h x
made_operator m (Operator i q y ∷ rs) k p d h x = h
made_operator m (Outcome y ∷ rs) k p d h (inl e) = absurd (cc e)
made_operator m (Outcome y ∷ rs) k p d h (inr x) = made_operator m rs k p d h x

pub in_middle : (before after : List HistoryLine) (h : HistoryLine) → In h (before ++ h ∷ after)
unfolding In
in_middle [] after h = inl refl
in_middle (x ∷ before) after h = inr (in_middle before after h)

pub within_in : (n : ℕ) (hs : List HistoryLine) (h : HistoryLine) → CallersWithin n hs → In h hs → h.caller ≤ n
unfolding In CallersWithin
within_in n [] h w x = absurd x
within_in n (y ∷ hs) h w (inl e) = subst (λ (z : HistoryLine). z.caller ≤ n) e w.0
within_in n (y ∷ hs) h w (inr x) = within_in n hs h w.1 x

-- the line's request was sent by its caller
line_sent : (rs : List Record) (plan : List Mark) (n : ℕ) (r : Record) (h : HistoryLine) (late : Bool) (q : Request) → IsOfChores n rs
    → IsMarked plan [] rs → In r rs → IsSame r h → h.ask ≡ Act late q → Sends q rs
unfolding IsSame
line_sent rs plan n (Call k p t) h late q d m x s e =
    let same : p ≡ q = cc (s.0, e) in subst (λ (z : Request). Sends z rs) same (call_sends k p t rs x)
line_sent rs plan n (Late k p) h late q d m x s e =
    let same : p ≡ q = cc (s, e) in subst (λ (z : Request). Sends z rs) same (late_sends plan [] rs k p m x)
line_sent rs plan n (Operator k p y) h late q d m x s e = absurd (made_operator _ rs k p y d.2 x)
line_sent rs plan n (Outcome y) h late q d m x s e = absurd s

pub heads_own : (m : Mesh) → Agrees m → (i : ℕ) (before after : List HistoryLine) (h : HistoryLine) (late : Bool) (q : Request) (e : ℕ)
    → i < m.nodes → history_at m i ≡ before ++ h ∷ after → h.ask ≡ Act late q → epoch_of q ≡ Some e → is_proposal q ≡ false → owns m h.caller e ≡ true
unfolding owns Alike
heads_own m a i before after h late q e in_ is ask of p =
    let here : In h (history_at m i) = subst (In h) (sym is) (in_middle before after h) in
    let caller : h.caller ≤ operator_of m = within_in (operator_of m) (history_at m i) h (a.lists.callers i in_) here in
    let w : (r : Record) × In r (reached (i + 1) (record_of m h.caller)) × IsSame r h =
    same_in (reached (i + 1) (record_of m h.caller)) (lines_of h.caller (history_at m i)) h (a.lists.same i h.caller in_ caller) (lines_in h (history_at m i) here) in
    let there : In w.0 (record_of m h.caller) = reached_in (i + 1) w.0 (record_of m h.caller) w.1 in
    by w.0 w.2 there (alike h.caller (operator_of m)) caller
  where
    by : (r : Record) → IsSame r h → In r (record_of m h.caller) → Alike h.caller (operator_of m) → h.caller ≤ operator_of m → wins m.nodes e 0 (record_of m h.caller) ≡ true
    by r s there (inl x) l = absurd (operator_acts (record_of m h.caller) r h late q (subst (λ (c : ℕ). IsOperators (record_of m c)) (sym x.1) a.lists.operated) there s ask)
    by r s there (inr x) l =
        let below : h.caller < operator_of m = grind (arith, x.1, l) in
        sender_owns m.nodes (record_of m h.caller) e q (omega (arith, in_)) (a.made h.caller below)
        (line_sent (record_of m h.caller) (plan_of m h.caller) m.nodes r h late q (a.made h.caller below) (a.lists.marked h.caller below) there s ask) of p
