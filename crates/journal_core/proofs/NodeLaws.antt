-- Laws of a step, its effects and stops inside it.
use Rattle.std.proofs.Common.{ℕ, ◌≡◌, ◌≤◌, ◌<◌, List, [], ◌∷◌, ◌++◌, length, Option, Some, None, refl, sym, ap, ◌∙◌, subst, arith, inl, inr, suc}
use Rattle.std.proofs.lemmas.Bool.Decides.{leb_tells}
use Rattle.std.proofs.lemmas.List.{take_all}
use Rattle.journal_core.specs.declared.node_state.NodeState.{NodeState}
use Rattle.journal_core.specs.declared.refusal.Refusal.{Refusal}
use Rattle.journal_core.specs.declared.request.Request.{Request}
use Rattle.journal_core.specs.Views.{HeadView}
use Rattle.journal_core.specs.Limits.{head_of}
use Rattle.journal_core.specs.Effects.{Effect, after_effects, after_effect, promised_after, writer_after, committed_after, segments_after}
use Rattle.journal_core.specs.Step.{node_step, unless_refused, step_after_front, refused_at_once, front_refused, front_effects, front_promised}
use Rattle.journal_core.specs.Step.{fronted, row_refused, effects_of, effects_unless, effects_after, stopped, crashed}
use Rattle.journal_core.specs.Laws.{SameDurable}
use Rattle.journal_core.proofs.StopLaws.{same_crash}
use Rattle.journal_core.proofs.Steps.{front_passed, promise_le}

-- what is refused at once
unless_idle : (s : NodeState) (r : Request) (o : Option Refusal) (refusal : Refusal) → o ≡ Some refusal → unless_refused s r o ≡ unless_refused s r (Some refusal)
unless_idle s r o refusal e = ap (unless_refused s r) e

pub idle_step : (s : NodeState) (r : Request) (refusal : Refusal) → refused_at_once s r ≡ Some refusal → node_step s r ≡ unless_refused s r (Some refusal)
unfolding node_step
idle_step s r refusal e = unless_idle s r (refused_at_once s r) refusal e

pub stop_nothing : (s : NodeState) (r : Request) → stopped s r 0 ≡ crashed s
unfolding after_effects
stop_nothing s r = refl

-- ## A step and its effects
same_after : (es : List Effect) (s t : NodeState) → SameDurable s t → SameDurable (after_effects s es) (after_effects t es)
unfolding after_effects
same_after [] s t d = d
same_after (e ∷ es) s t d =
    same_after es (after_effect s e) (after_effect t e) (ap (λ x. promised_after x e) d.0, ap (λ x. writer_after x e) d.1, ap (λ x. committed_after x e) d.2, ap (λ x. segments_after x e) d.3)

pub after-append : (xs ys : List Effect) (s : NodeState) → after_effects s (xs ++ ys) ≡ after_effects (after_effects s xs) ys
unfolding after_effects
after-append [] ys s = refl
after-append (x ∷ xs) ys s = after-append xs ys (after_effect s x)

front_durable : (s t : NodeState) (h : Option HeadView) → front_refused s h ≡ None → t.promised ≡ front_promised s.promised h → t.writer ≡ s.writer
    → t.committed ≡ s.committed → t.segments ≡ s.segments
    → SameDurable t (after_effects s (front_effects s h))
unfolding after_effects
front_durable s t None n p w c g = (p, w, c, g)
front_durable s t (Some h) n p w c g =
    elim (leb_tells (suc s.promised) h.epoch) [
      | inl q ↦ rw q.0 ((let l : suc s.promised ≤ h.epoch = q.1 in omega arith), w, c, g)
      | inr q ↦ rw q.0 ((let l : h.epoch < suc s.promised = q.1 in omega (arith, promise_le s h n)), w, c, g)
    ]

after_durable : (t : NodeState) (r : Request) (o : Option Refusal) → SameDurable (step_after_front t r o).state (after_effects t (effects_after t r o))
unfolding after_effects
after_durable t r (Some refusal) = (refl, refl, refl, refl)
after_durable t r None = (refl, refl, refl, refl)

join : (a b c : NodeState) → SameDurable a b → SameDurable b c → SameDurable a c
join a b c p q = (p.0 ∙ q.0, p.1 ∙ q.1, p.2 ∙ q.2, p.3 ∙ q.3)

unless_durable : (s : NodeState) (r : Request) (o : Option Refusal) → refused_at_once s r ≡ o → SameDurable (unless_refused s r o).state (after_effects s (effects_unless s r o))
unfolding after_effects
unless_durable s r (Some refusal) e = (refl, refl, refl, refl)
unless_durable s r None e =
    let t = fronted s r in
    let es : List Effect = effects_after t r (row_refused t r) in
    let front : SameDurable t (after_effects s (front_effects s (head_of r))) = front_durable s t (head_of r) (front_passed s r e) refl refl refl refl in
    let P : NodeState → Type 0 = λ x. SameDurable (step_after_front t r (row_refused t r)).state x in
    subst P (sym (after-append (front_effects s (head_of r)) es s))
    (join (step_after_front t r (row_refused t r)).state (after_effects t es) (after_effects (after_effects s (front_effects s (head_of r))) es)
    (after_durable t r (row_refused t r)) (same_after es t (after_effects s (front_effects s (head_of r))) front))

pub step_durable : (s : NodeState) (r : Request) → SameDurable (node_step s r).state (after_effects s (effects_of s r))
unfolding node_step effects_of
step_durable s r = unless_durable s r (refused_at_once s r) refl

-- a stop after all effects
crash_same : (s t : NodeState) → SameDurable s t → crashed s ≡ crashed t
unfolding after_effects
crash_same s t d = same_crash [] s t d.0 d.1 d.2 d.3

pub stop_all : (s : NodeState) (r : Request) (keep : ℕ) → length (effects_of s r) ≤ keep → stopped s r keep ≡ crashed (node_step s r).state
stop_all s r keep l =
    ap (λ es. crashed (after_effects s es)) (take_all keep (effects_of s r) l) ∙ sym (crash_same (node_step s r).state (after_effects s (effects_of s r)) (step_durable s r))
