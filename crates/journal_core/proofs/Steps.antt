-- What a node step is, by its three cases, and what its effects do to the segments.
use Rattle.std.proofs.Common.{◌≡◌, ℕ, zero, suc, ◌≤◌, ◌⊎◌, List, [], ◌∷◌, ◌++◌, take, Option, Some, None, Bool, true, false, cond, refl, inl, inr, subst, sym, ap, ◌∙◌, nat_lt}
use Rattle.std.proofs.lemmas.Bool.{cond_both, cases_Bool, ltb-false, cond-true}
use Rattle.journal_core.specs.Effects.{Effect, Promise, WriterEpoch, Commit, NewSegment, Append, Replace, MakeFinal, Remove, after_effect, after_effects, segments_after}
use Rattle.journal_core.specs.Limits.{limit_of, head_of}
use Rattle.journal_core.specs.Step.{node_step, unless_refused, step_after_front, effects_of, effects_unless, effects_after, refused_at_once}
use Rattle.journal_core.specs.Step.{unless_limited, front_refused, row_refused, row_effects, row_reply, row_then, front_effects, fronted}
use Rattle.journal_core.specs.Views.{HeadView}
use Rattle.journal_core.specs.declared.node_state.NodeState.{NodeState}
use Rattle.journal_core.specs.declared.refusal.Refusal.{Refusal}
use Rattle.journal_core.specs.declared.refusal.Refusal.TheVariants.{Down, Limit}
use Rattle.journal_core.specs.declared.reply.Reply.TheVariants.{Refused}
use Rattle.journal_core.specs.declared.request.Request.{Request}
use Rattle.journal_core.specs.declared.segment.Segment.{Segment}

-- the three cases of a step
pub data Acted (s : NodeState) (r : Request) : Type 0 where
  at_once : (x : Refusal) → refused_at_once s r ≡ Some x → node_step s r ≡ record { state = s; reply = Refused x } → effects_of s r ≡ [] → Acted s r
  by_row : (x : Refusal) → refused_at_once s r ≡ None → row_refused (fronted s r) r ≡ Some x → node_step s r ≡ record { state = fronted s r; reply = Refused x } →
      effects_of s r ≡ front_effects s (head_of r) → Acted s r
  done : refused_at_once s r ≡ None → row_refused (fronted s r) r ≡ None →
      node_step s r ≡ record { state = row_then (after_effects (fronted s r) (row_effects (fronted s r) r)) r; reply = row_reply (fronted s r) r } →
      effects_of s r ≡ front_effects s (head_of r) ++ row_effects (fronted s r) r → Acted s r

pub append_nil : {A : Type 0} (xs : List A) → xs ++ [] ≡ xs
append_nil [] = refl
append_nil (x ∷ xs) = ap (λ ys. x ∷ ys) (append_nil xs)

acted_row : (s : NodeState) (r : Request) → refused_at_once s r ≡ None → (o : Option Refusal) → row_refused (fronted s r) r ≡ o → Acted s r
unfolding node_step effects_of
acted_row s r e (Some x) f = by_row x e f
    (ap (λ o. unless_refused s r o) e ∙ ap (λ o. step_after_front (fronted s r) r o) f)
    (ap (λ o. effects_unless s r o) e ∙ (ap (λ o. front_effects s (head_of r) ++ effects_after (fronted s r) r o) f ∙ append_nil (front_effects s (head_of r))))
acted_row s r e None f = done e f
    (ap (λ o. unless_refused s r o) e ∙ ap (λ o. step_after_front (fronted s r) r o) f)
    (ap (λ o. effects_unless s r o) e ∙ ap (λ o. front_effects s (head_of r) ++ effects_after (fronted s r) r o) f)

acted_front : (s : NodeState) (r : Request) → (o : Option Refusal) → refused_at_once s r ≡ o → Acted s r
unfolding node_step effects_of
acted_front s r (Some x) e = at_once x e (ap (λ o. unless_refused s r o) e) (ap (λ o. effects_unless s r o) e)
acted_front s r None e = acted_row s r e (row_refused (fronted s r) r) refl

pub acted : (s : NodeState) (r : Request) → Acted s r
acted s r = acted_front s r (refused_at_once s r) refl

-- ## The front
pub none≢some : {A : Type 0} {P : Type 0} (x : A) → ◌≡◌ {A = Option A} None (Some x) → P
none≢some x e = cc

pub limits_passed : (limit : Option ℕ) (o : Option Refusal) → unless_limited limit o ≡ None → o ≡ None
limits_passed None o e = e
limits_passed (Some number) o e = none≢some (Limit number) (sym e)

pub test_passed : (b : Bool) (o : Option Refusal) (x : Refusal) → cond b o (Some x) ≡ None → o ≡ None
test_passed true o x e = e
test_passed false o x e = none≢some x (sym e)

pub front_passed : (s : NodeState) (r : Request) → refused_at_once s r ≡ None → front_refused s (head_of r) ≡ None
front_passed s r e = limits_passed (limit_of r) (front_refused s (head_of r)) (test_passed s.up (unless_limited (limit_of r) (front_refused s (head_of r))) Down e)

-- past the front the head's epoch is at least the promise
pub promise_le : (s : NodeState) (h : HeadView) → front_refused s (Some h) ≡ None → s.promised ≤ h.epoch
promise_le s h e = elim (cases_Bool (nat_lt h.epoch s.promised)) [
  | inl t ↦ absurd (none≢some {P = ⊥} _ (sym e ∙ cond-true (nat_lt h.epoch s.promised) _ _ t))
  | inr f ↦ ltb-false h.epoch s.promised f
]

pub front_le : (s : NodeState) (r : Request) (h : HeadView) → head_of r ≡ Some h → refused_at_once s r ≡ None → s.promised ≤ h.epoch
front_le s r h is e = promise_le s h (subst (λ o. front_refused s o ≡ None) is (front_passed s r e))

-- ## The segments after effects
abbrev pub segments_all : List Segment → List Effect → List Segment
segments_all segments [] = segments
segments_all segments (e ∷ rest) = segments_all (segments_after segments e) rest

pub segments-after : (s : NodeState) (es : List Effect) → (after_effects s es).segments ≡ segments_all s.segments es
unfolding after_effects
segments-after s [] = refl
segments-after s (e ∷ rest) = segments-after (after_effect s e) rest

-- an effect that leaves the segments alone
abbrev pub IsQuiet : Effect → Type 0
IsQuiet (Promise e) = Unit {0}
IsQuiet (WriterEpoch e) = Unit {0}
IsQuiet (Commit t) = Unit {0}
IsQuiet _ = ⊥

abbrev pub AllQuiet : List Effect → Type 0
AllQuiet [] = Unit {0}
AllQuiet (e ∷ rest) = IsQuiet e × AllQuiet rest

pub quiet_after : (segments : List Segment) (e : Effect) → IsQuiet e → segments_after segments e ≡ segments
quiet_after segments (Promise e) q = refl
quiet_after segments (WriterEpoch e) q = refl
quiet_after segments (Commit t) q = refl
quiet_after segments (NewSegment m e) q = absurd q
quiet_after segments (Append m b) q = absurd q
quiet_after segments (Replace e b) q = absurd q
quiet_after segments (MakeFinal m) q = absurd q
quiet_after segments (Remove m) q = absurd q

pub quiet_all : (segments : List Segment) (k : ℕ) (es : List Effect) → AllQuiet es → segments_all segments (take k es) ≡ segments
quiet_all segments zero es q = refl
quiet_all segments (suc k) [] q = refl
quiet_all segments (suc k) (e ∷ rest) q =
    ap (λ xs. segments_all xs (take k rest)) (quiet_after segments e q.0) ∙ quiet_all segments k rest q.1

pub quiet_whole : (segments : List Segment) (es : List Effect) → AllQuiet es → segments_all segments es ≡ segments
quiet_whole segments [] q = refl
quiet_whole segments (e ∷ rest) q = ap (λ xs. segments_all xs rest) (quiet_after segments e q.0) ∙ quiet_whole segments rest q.1

pub quiet_front : (s : NodeState) (o : Option HeadView) → AllQuiet (front_effects s o)
quiet_front s None = tt
quiet_front s (Some h) = cond_both (nat_lt s.promised h.epoch) (Promise h.epoch ∷ []) [] (λ es. AllQuiet es) (λ t. (tt, tt)) (λ f. tt)

pub quiet_append : (xs ys : List Effect) → AllQuiet xs → AllQuiet ys → AllQuiet (xs ++ ys)
quiet_append [] ys p q = q
quiet_append (x ∷ xs) ys p q = (p.0, quiet_append xs ys p.1 q)

-- one effect on the segments among quiet ones: it is among the first k, or the segments are as they
-- were
pub one_touch : (segments : List Segment) (k : ℕ) (xs : List Effect) (e : Effect) (ys : List Effect) → AllQuiet xs → AllQuiet ys →
    (segments_all segments (take k (xs ++ e ∷ ys)) ≡ segments) ⊎ (segments_all segments (take k (xs ++ e ∷ ys)) ≡ segments_after segments e)
one_touch segments zero xs e ys p q = inl refl
one_touch segments (suc k) [] e ys p q = inr (quiet_all (segments_after segments e) k ys q)
one_touch segments (suc k) (x ∷ xs) e ys p q =
    rw (quiet_after segments x p.0) (one_touch segments k xs e ys p.1 q)

-- after quiet ones
pub quiet_first : (segments : List Segment) (xs ys : List Effect) → AllQuiet xs → segments_all segments (xs ++ ys) ≡ segments_all segments ys
quiet_first segments [] ys q = refl
quiet_first segments (x ∷ xs) ys q = ap (λ zs. segments_all zs (xs ++ ys)) (quiet_after segments x q.0) ∙ quiet_first segments xs ys q.1

-- an answered request leaves the segments as all its effects do
pub answer_segments : (s : NodeState) (r : Request) → (node_step s r).state.segments ≡ segments_all s.segments (effects_of s r)
answer_segments s r = go (acted s r)
  where
    go : Acted s r → (node_step s r).state.segments ≡ segments_all s.segments (effects_of s r)
    go (at_once x a n e) = rw (n, e)
    go (by_row x a b n e) = rw (n, e) (sym (quiet_whole s.segments (front_effects s (head_of r)) (quiet_front s (head_of r))))
    go (done a b n e) = rw (n, e) (segments-after (fronted s r) (row_effects (fronted s r) r)
        ∙ sym (quiet_first s.segments (front_effects s (head_of r)) (row_effects (fronted s r) r) (quiet_front s (head_of r))))
