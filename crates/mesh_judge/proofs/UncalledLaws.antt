-- Which requests were asked, a line more; and the front of a record whose copies are all of calls
-- before them.
use Rattle.std.proofs.Common.{◌≡◌, ◌≢◌, ℕ, ◌+◌, ◌<◌, List, [], ◌∷◌, ◌++◌, Bool, true, false, cond, Contains, Decides, length, refl, sym, ap}
use Rattle.std.proofs.Common.{◌∙◌, subst, arith, get_or, take, inl, inr, ◌⊎◌, append-nil, nat_lt}
use Rattle.std.specs.Str.{bytes_eq}
use Rattle.std.proofs.lemmas.Bool.{cases_eq, ltb-true, lt-ltb}
use Rattle.std.proofs.lemmas.List.Elements.{Contains-push, Contains-push_cases, Contains-append_left}
use Rattle.journal_core.specs.declared.request.Request.{Request}
use Rattle.journal_history.specs.declared.node_ask.NodeAsk.{NodeAsk}
use Rattle.journal_history.specs.declared.record.Record.{Record}
use Rattle.journal_history.specs.declared.record.Record.TheVariants.{Call, Late, Operator, Outcome}
use Rattle.journal_history.specs.declared.record.Told.{Told}
use Rattle.mesh.specs.Marks.{calls_to}
use Rattle.mesh.proofs.Lists.{contains_none}
use Rattle.mesh.proofs.CallLists.{calls_append}
use Rattle.mesh_judge.specs.declared.counts.Counts.{Counts}
use Rattle.mesh_judge.specs.Keys.{is_ask, ask_key, count_of}
use Rattle.mesh_judge.specs.Fronts.{KeepsUpTo}
use Rattle.mesh_judge.specs.Plans.{IsCalled, AreCalled, KnowsAsked}
use Rattle.mesh_judge.proofs.KeyLaws.{ask_decided}
use Rattle.mesh_judge.proofs.DueLaws.{own_call, other_call}
use Rattle.mesh_judge.proofs.MarkLaws.{one_line}
use Rattle.mesh_judge.proofs.PlanLaws.{ask_set, called_more, called_less}

-- ## What was asked
pub none_asked : (asked : Counts) → ((key : List ℕ) → count_of asked key ≡ 0) → KnowsAsked [] asked
unfolding calls_to
none_asked asked none = record {
  some = λ node r h. (let e = none (ask_key node r) in absurd (omega (arith, e, h)));
  all = λ node r c. absurd (contains_none r c);
}

pub late_decided : (before : List Record) (asked : Counts) (k : ℕ) (q : Request) (b : Bool) → b ≡ nat_lt 0 (count_of asked (ask_key k q)) → KnowsAsked before asked
    → Decides b (IsCalled before (Late k q))
late_decided before asked k q b is h = (
  λ t. h.some k q (ltb-true 0 (count_of asked (ask_key k q)) (sym is ∙ t)),
  λ c. is ∙ lt-ltb 0 (count_of asked (ask_key k q)) (h.all k q c),
)

pub call_noted : (before : List Record) (node : ℕ) (p : Request) (t : Told) (old new : Counts) (key : List ℕ) → key ≡ ask_key node p
    → ((q : List ℕ) → count_of new q ≡ cond (bytes_eq q key) 1 (count_of old q)) → KnowsAsked before old → KnowsAsked (before ++ Call node p t ∷ []) new
call_noted before node p t old new key is set h = record { some = λ k r s. some k r s; all = λ k r c. all k r (cases_eq node k) c }
  where
    now : (k : ℕ) (r : Request) → count_of new (ask_key k r) ≡ cond (is_ask k r node p) 1 (count_of old (ask_key k r))
    now k r = ask_set old new key node 1 p is set k r

    own : (k : ℕ) → node ≡ k → calls_to k (before ++ Call node p t ∷ []) ≡ calls_to k before ++ p ∷ []
    own k at = calls_append k before (Call node p t ∷ []) ∙ ap (λ (l : List Request). calls_to k before ++ l) (ap (λ (i : ℕ). calls_to k (Call i p t ∷ [])) at ∙ own_call k p t)

    kept : (k : ℕ) (r : Request) → Contains (calls_to k before) r → Contains (calls_to k (before ++ Call node p t ∷ [])) r
    kept k r c = subst (λ (l : List Request). Contains l r) (sym (calls_append k before (Call node p t ∷ []))) (Contains-append_left (calls_to k before) (calls_to k (Call node p t ∷ [])) r c)

    some : (k : ℕ) (r : Request) → 0 < count_of new (ask_key k r) → Contains (calls_to k (before ++ Call node p t ∷ [])) r
    some k r s = by (is_ask k r node p) refl
      where
        by : (b : Bool) → is_ask k r node p ≡ b → Contains (calls_to k (before ++ Call node p t ∷ [])) r
        by true e =
            let same = (ask_decided k node r p).0 e in
            subst (λ (l : List Request). Contains l r) (sym (own k (sym same.0))) (subst (λ (x : Request). Contains (calls_to k before ++ x ∷ []) r) same.1 (Contains-push (calls_to k before) r))
        by false e =
            let was : count_of new (ask_key k r) ≡ count_of old (ask_key k r) = now k r ∙ ap (λ (b : Bool). cond b 1 (count_of old (ask_key k r))) e in
            kept k r (h.some k r (omega (arith, was, s)))

    still : (k : ℕ) (r : Request) → 0 < count_of old (ask_key k r) → 0 < count_of new (ask_key k r)
    still k r some = by (is_ask k r node p) refl
      where
        by : (b : Bool) → is_ask k r node p ≡ b → 0 < count_of new (ask_key k r)
        by true e = let one : count_of new (ask_key k r) ≡ 1 = now k r ∙ ap (λ (b : Bool). cond b 1 (count_of old (ask_key k r))) e in omega (arith, one)
        by false e = let was : count_of new (ask_key k r) ≡ count_of old (ask_key k r) = now k r ∙ ap (λ (b : Bool). cond b 1 (count_of old (ask_key k r))) e in omega (arith, was, some)

    all : (k : ℕ) (r : Request) → (node ≡ k) ⊎ (node ≢ k) → Contains (calls_to k (before ++ Call node p t ∷ [])) r → 0 < count_of new (ask_key k r)
    all k r (inr off) c =
        still k r (h.all k r (subst (λ (l : List Request). Contains l r)
        (calls_append k before (Call node p t ∷ []) ∙ ap (λ (l : List Request). calls_to k before ++ l) (other_call k node p t (λ e. off (sym e))) ∙ append-nil (calls_to k before)) c))
    all k r (inl at) c = by (Contains-push_cases (calls_to k before) p r (subst (λ (l : List Request). Contains l r) (own k at) c))
      where
        by : Contains (calls_to k before) r ⊎ (p ≡ r) → 0 < count_of new (ask_key k r)
        by (inl g) = still k r (h.all k r g)
        by (inr e) =
            let one : count_of new (ask_key k r) ≡ 1 = now k r ∙ ap (λ (b : Bool). cond b 1 (count_of old (ask_key k r))) ((ask_decided k node r p).1 (sym at, sym e)) in omega (arith, one)

noted_still : (before : List Record) (x : Record) (asked : Counts) → ((k : ℕ) → calls_to k (x ∷ []) ≡ []) → KnowsAsked before asked → KnowsAsked (before ++ x ∷ []) asked
noted_still before x asked none h = record {
  some = λ k r s. subst (λ (l : List Request). Contains l r) (sym (same k)) (h.some k r s);
  all = λ k r c. h.all k r (subst (λ (l : List Request). Contains l r) (same k) c);
}
  where
    same : (k : ℕ) → calls_to k (before ++ x ∷ []) ≡ calls_to k before
    same k = calls_append k before (x ∷ []) ∙ ap (λ (l : List Request). calls_to k before ++ l) (none k) ∙ append-nil (calls_to k before)

pub late_noted : (before : List Record) (k : ℕ) (q : Request) (asked : Counts) → KnowsAsked before asked → KnowsAsked (before ++ Late k q ∷ []) asked
unfolding calls_to
late_noted before k q asked h = noted_still before (Late k q) asked (λ i. refl) h

pub operator_noted : (before : List Record) (k : ℕ) (ask : NodeAsk) (done : Bool) (asked : Counts) → KnowsAsked before asked → KnowsAsked (before ++ Operator k ask done ∷ []) asked
unfolding calls_to
operator_noted before k ask done asked h = noted_still before (Operator k ask done) asked (λ i. refl) h

pub outcome_noted : (before : List Record) (text : List ℕ) (asked : Counts) → KnowsAsked before asked → KnowsAsked (before ++ Outcome text ∷ []) asked
unfolding calls_to
outcome_noted before text asked h = noted_still before (Outcome text) asked (λ i. refl) h

-- ## The front
pub none_called_yet : (lines : List Record) → AreCalled [] (take 0 lines)
unfolding AreCalled
none_called_yet lines = tt

pub front_more : (i : ℕ) (lines : List Record) (x : Record) → i < length lines → x ≡ get_or lines i x → IsCalled (take i lines) x → AreCalled [] (take i lines) → AreCalled [] (take (i + 1) lines)
front_more i lines x low is c h = subst (AreCalled []) (sym (one_line i lines x low is)) (called_more [] (take i lines) x h c)

pub front_ends : (i : ℕ) (lines : List Record) (x : Record) → i < length lines → x ≡ get_or lines i x → (IsCalled (take i lines) x → ⊥) → AreCalled [] (take i lines) → KeepsUpTo (AreCalled []) lines i
front_ends i lines x low is off h = record { within = low; front = h; broken = λ g. off (called_less [] (take i lines) x (subst (AreCalled []) (one_line i lines x low is) g)).1 }
