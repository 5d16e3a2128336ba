-- Laws of stops inside a request.
use Rattle.std.proofs.Common.{ℕ, ◌≡◌, ◌<◌, ◌≤◌, ◌+◌, ◌-◌, List, [], ◌∷◌, ◌++◌, length, take, filter, min, Option, Some, None, Bool, true, false, cond}
use Rattle.std.proofs.Common.{nat_lt, refl, sym, ◌∙◌, ap, arith, zero, suc, inl, inr, if◌then◌else◌}
use Rattle.std.proofs.lemmas.Bool.Decides.{leb_tells}
use Rattle.std.proofs.lemmas.List.{take-map, length-map, length-append}
use Rattle.journal_core.specs.Views.{HeadView}
use Rattle.journal_core.specs.declared.segment.Segment.{Segment}
use Rattle.journal_core.specs.declared.node_state.NodeState.{NodeState}
use Rattle.journal_core.specs.declared.refusal.Refusal.{Refusal}
use Rattle.journal_core.specs.declared.request.Request.{Request}
use Rattle.journal_core.specs.declared.request.Request.TheVariants.{Purge}
use Rattle.journal_core.specs.Limits.{head_of}
use Rattle.journal_core.specs.Effects.{Effect, Promise, Remove, after_effects, after_effect, promised_after, writer_after, committed_after, segments_after}
use Rattle.journal_core.specs.Step.{refused_at_once, may_go, front_effects, fronted, front_promised, front_refused, effects_of, effects_unless, crashed}
use Rattle.journal_core.specs.Stops.{IsRowStop, IsStop, effects_of_row, raises_promise}
use Rattle.journal_core.proofs.PurgeLaws.{removed_each}
use Rattle.journal_core.specs.Places.{without}
use Rattle.journal_core.proofs.Steps.{front_passed, promise_le}

pub take_none : (k : ℕ) (es : List Effect) → k ≡ 0 → take k es ≡ []
take_none k es e = rw e refl

pub take_nil : (k : ℕ) → take k (let es : List Effect = [] in es) ≡ []
take_nil zero = refl
take_nil (suc k) = refl

pub take_first : (k : ℕ) (e : Effect) (es : List Effect) → 0 < k → take k (e ∷ es) ≡ e ∷ take (k - 1) es
take_first zero e es h = absurd (omega arith)
take_first (suc k) e es h = let n : suc k - 1 ≡ k = omega arith in rw n refl

pub ruleset takes = (take_none, take_nil, take_first)

-- what the volatile part was makes no difference to what a stop leaves
pub same_crash : (es : List Effect) (s t : NodeState) → s.promised ≡ t.promised → s.writer ≡ t.writer → s.committed ≡ t.committed → s.segments ≡ t.segments
    → crashed (after_effects s es) ≡ crashed (after_effects t es)
unfolding after_effects
same_crash [] s t p w c g = cc
same_crash (e ∷ es) s t p w c g =
    same_crash es (after_effect s e) (after_effect t e) (ap (λ x. promised_after x e) p) (ap (λ x. writer_after x e) w) (ap (λ x. committed_after x e) c) (ap (λ x. segments_after x e) g)

count_none : (k : ℕ) → 0 ≡ min k (length (let es : List Effect = [] in es))
count_none k = omega arith

unless_none : (s : NodeState) (r : Request) (keep : ℕ) (o : Option Refusal) (refusal : Refusal) → o ≡ Some refusal
    → (0 ≡ min keep (length (effects_unless s r o))) × (crashed s ≡ crashed (after_effects s (take keep (effects_unless s r o))))
unfolding after_effects
unless_none s r keep o refusal e = rw e (count_none keep, rw (take_nil keep) refl)

-- a refused request has no effect
pub stop_refused : (s : NodeState) (r : Request) (keep : ℕ) (refusal : Refusal) → refused_at_once s r ≡ Some refusal → IsStop s r keep 0 (crashed s)
unfolding effects_of
stop_refused s r keep refusal e = let both = unless_none s r keep (refused_at_once s r) refusal e in record { count = both.0; state = both.1 }

-- a stop before the first effect
pub stop_first : (s : NodeState) (r : Request) (keep : ℕ) → keep ≡ 0 → IsStop s r keep 0 (crashed s)
unfolding effects_of after_effects
stop_first s r keep e = record { count = omega arith; state = rw (take_none keep (effects_of s r) e) refl }

-- less than one
pub none_of : (b : Bool) (k first : ℕ) → first ≡ (if b then 1 else 0) → k < first → k ≡ 0
none_of true k first e l = omega arith
none_of false k first e l = absurd (omega arith)

-- the front's effect is what the front does to what is durable
pub front_crash : (s t : NodeState) (h : Option HeadView) (es : List Effect) → front_refused s h ≡ None → t.promised ≡ front_promised s.promised h → t.writer ≡ s.writer → t.committed ≡ s.committed
    → t.segments ≡ s.segments → crashed (after_effects t es) ≡ crashed (after_effects s (front_effects s h ++ es))
unfolding after_effects
front_crash s t None es n p w c g = same_crash es t s p w c g
front_crash s t (Some h) es n p w c g =
    elim (leb_tells (suc s.promised) h.epoch) [
      | inl q ↦ rw q.0 (same_crash es t (after_effect s (Promise h.epoch)) (let l : suc s.promised ≤ h.epoch = q.1 in omega arith) w c g)
      | inr q ↦ rw q.0 (same_crash es t s (let l : h.epoch < suc s.promised = q.1 in omega (arith, promise_le s h n)) w c g)
    ]

front_length : (s : NodeState) (h : Option HeadView) → length (front_effects s h) ≡ (if raises_promise s.promised h then 1 else 0)
front_length s None = refl
front_length s (Some h) = elim (nat_lt s.promised h.epoch) as (λ b. length (cond b (Promise h.epoch ∷ []) (let es : List Effect = [] in es)) ≡ cond b 1 0) [ true ↦ refl | false ↦ refl ]

pub take_after : (xs ys : List Effect) (k : ℕ) → length xs ≤ k → take k (xs ++ ys) ≡ xs ++ take (k - length xs) ys
take_after [] ys k l = let e : k - 0 ≡ k = omega arith in rw e refl
take_after (x ∷ xs) ys k l =
    take_first k x (xs ++ ys) (omega arith) ∙ ap (λ zs. x ∷ zs) (take_after xs ys (k - 1) (omega arith) ∙ ap (λ n. xs ++ take n ys) (omega arith))

pub unless_all : (s : NodeState) (r : Request) (o : Option Refusal) → o ≡ None → effects_unless s r o ≡ front_effects s (head_of r) ++ effects_of_row (fronted s r) r
unless_all s r o e = rw e refl

-- the front's effect, and the first effects after it
pub stop_in_request : (s : NodeState) (r : Request) (keep first done : ℕ) (t : NodeState) → refused_at_once s r ≡ None → first ≡ (if raises_promise s.promised (head_of r) then 1 else 0) → first ≤ keep
    → IsRowStop (fronted s r) r (keep - first) done t → IsStop s r keep (first + done) (crashed t)
unfolding effects_of
stop_in_request s r keep first done t n f l p =
    let front = front_effects s (head_of r) in
    let rest = effects_of_row (fronted s r) r in
    let long : length front ≡ first = front_length s (head_of r) ∙ sym f in
    let all : effects_unless s r (refused_at_once s r) ≡ front ++ rest = unless_all s r (refused_at_once s r) n in
    let count : done ≡ min (keep - first) (length rest) = p.count in
    let both : length (front ++ rest) ≡ first + length rest = length-append front rest ∙ ap (λ k. k + length rest) long in
    let taken : take keep (front ++ rest) ≡ front ++ take (keep - first) rest = take_after front rest keep (omega arith) ∙ ap (λ k. front ++ take (keep - k) rest) long in
    record {
      count = rw (all, both) (omega arith);
      state = ap crashed p.state ∙ front_crash s (fronted s r) (head_of r) (take (keep - first) rest) (front_passed s r n) refl refl refl refl
          ∙ ap (λ es. crashed (after_effects s es)) (sym taken ∙ ap (take keep) (sym all));
    }

pub ruleset stops = (stop_refused, stop_first, stop_in_request)

-- the first of a purge
pub stop_purged : (s : NodeState) (h : HeadView) (least keep done : ℕ) (gs : List Segment) → done ≡ min keep (length (filter (may_go s h.committed least) s.segments))
    → gs ≡ without (take keep (filter (may_go s h.committed least) s.segments)) s.segments → IsRowStop s (Purge h least) keep done (record s { segments = gs })
stop_purged s h least keep done gs n e =
    let old = filter (may_go s h.committed least) s.segments in
    let remove : Segment → Effect = λ g. Remove g.start in
    record {
      count = n ∙ ap (min keep) (sym (length-map old remove));
      state = ap (λ (xs : List Segment). let t : NodeState = record s { segments = xs } in t) e ∙ sym (removed_each (take keep old) s) ∙ ap (after_effects s) (sym (take-map remove keep old));
    }
