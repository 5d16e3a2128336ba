-- A step is done in parts: the front in memory, the request's effects one by one over the front's
-- memory, and what follows them.
use Rattle.std.specs.Prelude.{◌≡◌, Some, None}
use Rattle.journal_core.specs.declared.node_state.NodeState.{NodeState}
use Rattle.journal_core.specs.declared.refusal.Refusal.{Refusal}
use Rattle.journal_core.specs.declared.reply.Reply.TheVariants.{Refused}
use Rattle.journal_core.specs.declared.request.Request.{Request}
use Rattle.journal_core.specs.Effects.{after_effects}
use Rattle.journal_core.specs.Step.{node_step, refused_at_once, row_refused, row_then, row_reply, fronted, effects_of}

-- The front's own effect is among them, and finds its promise raised already.
abbrev pub StepIsInParts : Type 0
StepIsInParts = (s : NodeState) (r : Request) → refused_at_once s r ≡ None → row_refused (fronted s r) r ≡ None
    → node_step s r ≡ record { state = row_then (after_effects (fronted s r) (effects_of s r)) r; reply = row_reply (fronted s r) r }

-- of a request that is refused after its front, the front's effect is the only one
abbrev pub RefusedIsItsFront : Type 0
RefusedIsItsFront = (s : NodeState) (r : Request) (refusal : Refusal) → refused_at_once s r ≡ None → row_refused (fronted s r) r ≡ Some refusal
    → node_step s r ≡ record { state = after_effects (fronted s r) (effects_of s r); reply = Refused refusal }
