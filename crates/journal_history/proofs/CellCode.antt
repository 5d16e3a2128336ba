-- What a node answers is what its cell takes.
use Rattle.std.proofs.Common.{◌≡◌, ◌≢◌, ℕ, List, [], ◌∷◌, true, refl, sym, ap, ◌∙◌, Option, Some, None, is_some}
use Rattle.std.specs.Prelude.{Result, Ok, Err, IfOk}
use Rattle.journal_core.specs.declared.node_state.NodeState.{NodeState}
use Rattle.journal_core.specs.declared.request.Request.{Request}
use Rattle.journal_core.specs.declared.refusal.Refusal.{Refusal}
use Rattle.journal_core.specs.declared.refusal.Refusal.TheVariants.{DiskFault, OutOfMemory}
use Rattle.journal_core.specs.declared.reply.Reply.{Reply}
use Rattle.journal_core.specs.declared.reply.Reply.TheVariants as reply
use Rattle.journal_core.specs.declared.cut.Cut.{Cut}
use Rattle.journal_core.specs.Effects.{Effect, after_effect, after_effects}
use Rattle.journal_core.specs.Step.{node_step, unless_refused, step_after_front, refused_at_once, fronted, row_refused, row_effects}
use Rattle.journal_core.specs.Answers.{Answers}
use Rattle.journal_core.specs.Cuts.{Cuts}
use Rattle.journal_history.specs.declared.stop.Stop.{Stop}
use Rattle.journal_history.specs.declared.stop.Stop.TheVariants.{DiskCalls}
use Rattle.journal_history.specs.Cell.{kept_by}
use Rattle.journal_history.specs.NodeCells.{state_told}

-- ## A request leaves a node up or down, as it was
effects_up : (s : NodeState) (es : List Effect) → (after_effects s es).up ≡ s.up
unfolding after_effects
effects_up s [] = refl
effects_up s (e ∷ es) = effects_up (after_effect s e) es

after_up : (s : NodeState) (r : Request) (o : Option Refusal) → (step_after_front s r o).state.up ≡ s.up
after_up s r (Some f) = refl
after_up s r None = effects_up s (row_effects s r)

unless_up : (s : NodeState) (r : Request) (o : Option Refusal) → (unless_refused s r o).state.up ≡ s.up
unless_up s r (Some f) = refl
unless_up s r None = after_up (fronted s r) r (row_refused (fronted s r) r)

pub step_up : (s : NodeState) (r : Request) → (node_step s r).state.up ≡ s.up
unfolding node_step
step_up s r = unless_up s r (refused_at_once s r)

-- ## An answer
answers_step : (o p : Option NodeState) (r : Request) (a : Reply) → Answers o r a p → is_some o ≡ true → a ≢ reply.Refused OutOfMemory → a ≢ reply.Refused DiskFault
    → node_step (state_told o) r ≡ record { state = state_told p; reply = a }
answers_step None p r a h e m d = absurd (cc e)
answers_step (Some s) None r a h e m d = absurd h
answers_step (Some s) (Some t) r a h e m d = h.step m d

pub answers_up : (o p : Option NodeState) (r : Request) (a : Reply) → Answers o r a p → is_some o ≡ true → a ≢ reply.Refused OutOfMemory → a ≢ reply.Refused DiskFault
    → (state_told p).up ≡ (state_told o).up
answers_up o p r a h e m d = sym (ap (λ x. x.state.up) (answers_step o p r a h e m d)) ∙ step_up (state_told o) r

-- ## A cut
pub cut_count : {E : Type 0} (o p : Option NodeState) (r : Request) (calls : ℕ) (cut : Cut) (x : Result ℕ E) (stop : Stop) → Cuts o r calls cut x p → is_some o ≡ true → stop ≡ DiskCalls calls cut
    → IfOk x (λ keep. keep ≡ kept_by stop (state_told o) r)
cut_count None p r calls cut x stop h e is = absurd (cc e)
cut_count (Some s) None r calls cut (Ok n) stop h e is = absurd h
cut_count (Some s) None r calls cut (Err f) stop h e is = absurd h
cut_count (Some s) (Some t) r calls cut (Ok n) stop h e is = h.count ∙ ap (λ x. kept_by x s r) (sym is)
cut_count (Some s) (Some t) r calls cut (Err f) stop h e is = tt
