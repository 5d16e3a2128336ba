-- What the parts of an event keep, the event keeps.
use Rattle.std.proofs.Common.{ℕ, ◌≡◌, ◌≤◌, ◌-◌, ◌⊎◌, nat_lt, List, [], ◌∷◌, ◌++◌, length, take, Option, Some, None, refl, sym, ap, ◌∙◌, subst, arith, inl, inr, zero, suc, append_assoc}
use Rattle.std.proofs.lemmas.Bool.{cond_both}
use Rattle.std.proofs.lemmas.List.{take_all}
use Rattle.journal_core.specs.declared.node_state.NodeState.{NodeState}
use Rattle.journal_core.specs.declared.request.Request.{Request}
use Rattle.journal_core.specs.Views.{HeadView}
use Rattle.journal_core.specs.Limits.{head_of}
use Rattle.journal_core.specs.Effects.{Effect, Promise, after_effects}
use Rattle.journal_core.specs.Step.{node_step, refused_at_once, front_effects, fronted, row_refused, row_effects, stopped, crashed, restarted}
use Rattle.journal_core.specs.Laws.{Event, Asked, Stopped, Killed, Restarted, after_event, after_events, front, one_effect, follow, down, up, Parts, none, more, IsKept, EventsAreParts}
use Rattle.journal_core.proofs.StopLaws.{take_nil, front_crash, take_after}
use Rattle.journal_core.proofs.NodeLaws.{after-append}
use Rattle.journal_core.proofs.Steps.{Acted, at_once, by_row, done, acted, append_nil, front_passed}

-- the first effects of a row
pub rows_kept : (P : NodeState → Type 0) → IsKept P → (s : NodeState) (r : Request) → refused_at_once s r ≡ None → row_refused (fronted s r) r ≡ None
    → (k : ℕ) (before later : List Effect) → row_effects (fronted s r) r ≡ before ++ later → P (after_effects (fronted s r) before) → P (after_effects (fronted s r) (before ++ take k later))
unfolding after_effects
rows_kept P kept s r a b zero before later is p = subst (λ es. P (after_effects (fronted s r) es)) (sym (append_nil before)) p
rows_kept P kept s r a b (suc k) before [] is p = subst (λ es. P (after_effects (fronted s r) es)) (sym (append_nil before)) p
rows_kept P kept s r a b (suc k) before (e ∷ later) is p =
    let one : P (after_effects (fronted s r) (before ++ e ∷ [])) = subst P (sym (after-append before (e ∷ []) (fronted s r))) (kept _ _ (one_effect s r before later e a b is refl refl) p) in
    subst (λ es. P (after_effects (fronted s r) es)) (append_assoc before (e ∷ []) (take k later))
    (rows_kept P kept s r a b k (before ++ e ∷ []) later (is ∙ sym (append_assoc before (e ∷ []) later)) one)

first_kept : (P : NodeState → Type 0) → IsKept P → (s : NodeState) (r : Request) → refused_at_once s r ≡ None → row_refused (fronted s r) r ≡ None → (k : ℕ) → P s
    → P (after_effects (fronted s r) (take k (row_effects (fronted s r) r)))
unfolding after_effects
first_kept P kept s r a b k p = rows_kept P kept s r a b k [] (row_effects (fronted s r) r) refl (kept s (fronted s r) (front r a refl) p)

all_kept : (P : NodeState → Type 0) → IsKept P → (s : NodeState) (r : Request) → refused_at_once s r ≡ None → row_refused (fronted s r) r ≡ None → P s
    → P (after_effects (fronted s r) (row_effects (fronted s r) r))
all_kept P kept s r a b p =
    let es = row_effects (fronted s r) r in
    subst (λ xs. P (after_effects (fronted s r) xs)) (take_all (length es) es (omega arith)) (first_kept P kept s r a b (length es) p)

step_kept : (P : NodeState → Type 0) → IsKept P → (s : NodeState) (r : Request) → Acted s r → P s → P (node_step s r).state
step_kept P kept s r (at_once x a n e) p = rw n p
step_kept P kept s r (by_row x a b n e) p = rw n (kept s (fronted s r) (front r a refl) p)
step_kept P kept s r (done a b n e) p = rw n (kept _ _ (follow s r a b refl refl) (all_kept P kept s r a b p))

-- a stop is before the front's effect, or among what follows it
front_short : (s : NodeState) (o : Option HeadView) → length (front_effects s o) ≤ 1
front_short s None = omega arith
front_short s (Some h) = cond_both (nat_lt s.promised h.epoch) (Promise h.epoch ∷ []) [] (λ es. length es ≤ 1) (λ t. omega arith) (λ f. omega arith)

pub stop_from_front : (s : NodeState) (r : Request) (ys : List Effect) → refused_at_once s r ≡ None → (k : ℕ)
    → (j : ℕ) × (crashed (after_effects s (take (suc k) (front_effects s (head_of r) ++ ys))) ≡ crashed (after_effects (fronted s r) (take j ys)))
unfolding after_effects
stop_from_front s r ys a k =
    let front = front_effects s (head_of r) in
    let short : length front ≤ 1 = front_short s (head_of r) in
    let after : take (suc k) (front ++ ys) ≡ front ++ take (suc k - length front) ys = take_after front ys (suc k) (omega arith) in (
      suc k - length front,
      ap (λ es. crashed (after_effects s es)) after ∙ sym (front_crash s (fronted s r) (head_of r) (take (suc k - length front) ys) (front_passed s r a) refl refl refl refl),
    )

stop_split : (s : NodeState) (r : Request) (ys : List Effect) → refused_at_once s r ≡ None → (k : ℕ)
    → (crashed (after_effects s (take k (front_effects s (head_of r) ++ ys))) ≡ crashed s)
    ⊎ ((j : ℕ) × (crashed (after_effects s (take k (front_effects s (head_of r) ++ ys))) ≡ crashed (after_effects (fronted s r) (take j ys))))
unfolding after_effects
stop_split s r ys a zero = inl refl
stop_split s r ys a (suc k) = inr (stop_from_front s r ys a k)

stop_kept : (P : NodeState → Type 0) → IsKept P → (s : NodeState) (r : Request) (k : ℕ) → Acted s r → P s → P (stopped s r k)
unfolding after_effects
stop_kept P kept s r k (at_once x a n e) p = rw (e, take_nil k) (kept s (crashed s) (down refl) p)
stop_kept P kept s r k (by_row x a b n e) p =
    subst (λ es. P (crashed (after_effects s (take k es)))) (sym (e ∙ sym (append_nil (front_effects s (head_of r))))) (
    elim (stop_split s r [] a k) [
      | inl q ↦ subst P (sym q) (kept s (crashed s) (down refl) p)
      | inr q ↦ subst P (sym q.1) (rw (take_nil q.0) (kept (fronted s r) (crashed (fronted s r)) (down refl) (kept s (fronted s r) (front r a refl) p)))
    ])
stop_kept P kept s r k (done a b n e) p =
    subst (λ es. P (crashed (after_effects s (take k es)))) (sym e) (
    elim (stop_split s r (row_effects (fronted s r) r) a k) [
      | inl q ↦ subst P (sym q) (kept s (crashed s) (down refl) p)
      | inr q ↦ subst P (sym q.1) (kept _ _ (down refl) (first_kept P kept s r a b q.0 p))
    ])

pub event_kept : (P : NodeState → Type 0) → IsKept P → (s : NodeState) (e : Event) → P s → P (after_event s e)
event_kept P kept s (Asked r) p = step_kept P kept s r (acted s r) p
event_kept P kept s (Stopped r k) p = stop_kept P kept s r k (acted s r) p
event_kept P kept s Killed p = kept s (crashed s) (down refl) p
event_kept P kept s Restarted p = kept s (restarted s) (up refl) p

pub all_events : (P : NodeState → Type 0) → ((s : NodeState) (e : Event) → P s → P (after_event s e)) → (es : List Event) (s : NodeState) → P s → P (after_events s es)
unfolding after_events
all_events P one [] s p = p
all_events P one (e ∷ es) s p = all_events P one es (after_event s e) (one s e p)

-- for any predicate on states
pub parts_keep_all : (P : NodeState → Type 0) → IsKept P → (s : NodeState) (es : List Event) → P s → P (after_events s es)
parts_keep_all P kept s es p = all_events P (event_kept P kept) es s p

pub events_are_parts : EventsAreParts
events_are_parts s es = parts_keep_all (Parts s) (λ t u part before. more before part) s es none
