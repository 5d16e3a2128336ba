-- A request of somebody else leaves a node that serves a takeover as it was, or takes it out of the
-- count.
use Rattle.std.proofs.Common.{◌≡◌, ℕ, ◌<◌, ◌⊎◌, inl, inr, Bool, true, false, cond, refl, sym, ◌∙◌, arith, Option, Some, None, nat_le}
use Rattle.std.proofs.lemmas.Bool.Decides.{nat_tests}
use Rattle.journal_core.specs.Effects.{after_effects}
use Rattle.journal_core.specs.Step.{refused_at_once, fronted, row_refused, step_after_front, unless_refused, node_step}
use Rattle.journal_core.specs.declared.node_state.NodeState.{NodeState}
use Rattle.journal_core.specs.declared.request.Request.{Request}
use Rattle.journal_core.specs.declared.request.Request.TheVariants.{NewEpoch}
use Rattle.journal_core.specs.declared.refusal.Refusal.{Refusal}
use Rattle.journal_core.specs.declared.refusal.Refusal.TheVariants.{EpochRefused}
use Rattle.journal_history.proofs.Requests.{Sort, Reads, Proposes, Heads, sort_of, Fronted, behind, front_passes}
use Rattle.run_world.proofs.Duties.{Off, IsOutside}

abbrev Touched : ℕ → NodeState → NodeState → Type 0
Touched epoch s t = (t ≡ s) ⊎ Off epoch t

propose_by : (b : Bool) (s : NodeState) (epoch top : ℕ) → nat_le epoch s.promised ≡ b → s.promised ≡ top
    → Touched top s (step_after_front (fronted s (NewEpoch epoch)) (NewEpoch epoch) (cond b (Some (EpochRefused s.promised)) None)).state
unfolding after_effects
propose_by true s epoch top e is = inl refl
propose_by false s epoch top e is = inr (inl (grind (arith, nat_tests, e, is)))

touched_by : (s : NodeState) (q : Request) (epoch : ℕ) (o : Option Refusal) → Sort q → refused_at_once s q ≡ o → s.promised ≡ epoch → IsOutside epoch s q → Touched epoch s (unless_refused s q o).state
touched_by s q epoch (Some f) x e is out = inl refl
touched_by s _ epoch None (Reads q none same) e is out = inl (same s (row_refused (fronted s q) q))
touched_by s _ epoch None (Proposes other) e is out = propose_by (nat_le other s.promised) s other epoch refl is
touched_by s _ epoch None (Heads q h head some then replies) e is out = by (front_passes s q h head e)
  where
    by : (s.promised < h.epoch) ⊎ ((s.promised ≡ h.epoch) × (s.serial < h.serial)) → Touched epoch s (step_after_front (fronted s q) q (row_refused (fronted s q) q)).state
    by (inl l) =
        let f : Fronted s h (step_after_front (fronted s q) q (row_refused (fronted s q) q)).state = behind s q h (row_refused (fronted s q) q) head then in
        inr (inl (omega (arith, f.promised, l, is)))
    by (inr g) = absurd (out h head (sym g.0 ∙ is) g.1)

pub touched : (s : NodeState) (q : Request) (epoch : ℕ) → s.promised ≡ epoch → IsOutside epoch s q → Touched epoch s (node_step s q).state
unfolding node_step
touched s q epoch is out = touched_by s q epoch (refused_at_once s q) (sort_of q) refl is out
