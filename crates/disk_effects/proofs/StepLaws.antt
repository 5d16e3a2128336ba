-- A step is done in parts.
use Rattle.std.proofs.Common.{ℕ, ◌≡◌, ◌<◌, List, [], ◌∷◌, ◌++◌, Option, Some, None, Bool, true, false, cond, nat_lt, refl, sym, ap, ◌∙◌, arith}
use Rattle.std.proofs.lemmas.Bool.Decides.{nat_tests}
use Rattle.journal_core.specs.Views.{HeadView}
use Rattle.journal_core.specs.declared.node_state.NodeState.{NodeState}
use Rattle.journal_core.specs.declared.refusal.Refusal.{Refusal}
use Rattle.journal_core.specs.declared.reply.Reply.TheVariants.{Refused}
use Rattle.journal_core.specs.declared.request.Request.{Request}
use Rattle.journal_core.specs.Limits.{head_of}
use Rattle.journal_core.specs.Effects.{Effect, Promise, after_effects}
use Rattle.journal_core.specs.Step.{Stepped, node_step, refused_at_once, row_refused, row_effects, row_then, row_reply, fronted, front_effects}
use Rattle.journal_core.specs.Step.{front_promised, effects_of, effects_unless, effects_after, step_after_front, unless_refused}
use Rattle.disk_effects.specs.Laws.{StepIsInParts, RefusedIsItsFront}

-- a promise that is raised already
raised : (t : NodeState) (epoch : ℕ) (es : List Effect) → t.promised ≡ epoch → after_effects t (Promise epoch ∷ es) ≡ after_effects t es
unfolding after_effects
raised t epoch es e = ap (λ (p : ℕ). after_effects (record t { promised = p }) es) (sym e)

pub front_done : (s t : NodeState) (h : Option HeadView) (es : List Effect) → t.promised ≡ front_promised s.promised h → after_effects t (front_effects s h ++ es) ≡ after_effects t es
front_done s t None es e = refl
front_done s t (Some h) es e = by_raised (nat_lt s.promised h.epoch) refl
  where
    by_raised : (b : Bool) → nat_lt s.promised h.epoch ≡ b → after_effects t (cond b (Promise h.epoch ∷ []) [] ++ es) ≡ after_effects t es
    by_raised true lt = raised t h.epoch es (let l : s.promised < h.epoch = grind (arith, nat_tests) in omega arith)
    by_raised false lt = refl

pub unless_none : (s : NodeState) (r : Request) (o : Option Refusal) → o ≡ None → effects_unless s r o ≡ front_effects s (head_of r) ++ effects_after (fronted s r) r (row_refused (fronted s r) r)
unless_none s r o e = rw e refl

-- after the front, the effects are those of the row
rest_done : (s : NodeState) (r : Request) → refused_at_once s r ≡ None
    → after_effects (fronted s r) (effects_of s r) ≡ after_effects (fronted s r) (effects_after (fronted s r) r (row_refused (fronted s r) r))
unfolding effects_of
rest_done s r none =
    ap (after_effects (fronted s r)) (unless_none s r (refused_at_once s r) none) ∙ front_done s (fronted s r) (head_of r) (effects_after (fronted s r) r (row_refused (fronted s r) r)) refl

step_after : (s : NodeState) (r : Request) → refused_at_once s r ≡ None → node_step s r ≡ step_after_front (fronted s r) r (row_refused (fronted s r) r)
unfolding node_step
step_after s r none = ap (unless_refused s r) none

pub step_in_parts : StepIsInParts
step_in_parts s r none row =
    let rest : after_effects (fronted s r) (effects_of s r) ≡ after_effects (fronted s r) (row_effects (fronted s r) r) =
    rest_done s r none ∙ ap (λ (o : Option Refusal). after_effects (fronted s r) (effects_after (fronted s r) r o)) row in
    step_after s r none ∙ ap (step_after_front (fronted s r) r) row
    ∙ sym (ap (λ (t : NodeState). let x : Stepped = record { state = row_then t r; reply = row_reply (fronted s r) r } in x) rest)

pub refused_front : RefusedIsItsFront
unfolding after_effects
refused_front s r refusal none row =
    let rest : after_effects (fronted s r) (effects_of s r) ≡ fronted s r =
    rest_done s r none ∙ ap (λ (o : Option Refusal). after_effects (fronted s r) (effects_after (fronted s r) r o)) row in
    step_after s r none ∙ ap (step_after_front (fronted s r) r) row
    ∙ sym (ap (λ (t : NodeState). let x : Stepped = record { state = t; reply = Refused refusal } in x) rest)
