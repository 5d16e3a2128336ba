-- Effects applied in memory, one after the other.
use Rattle.std.specs.Prelude.{ℕ, ◌≡◌, ◌≤◌, ◌++◌, List, [], ◌∷◌, length, take, min, Option, None, IfSome}
use Rattle.journal_core.specs.Views.{last_txid}
use Rattle.journal_core.specs.declared.node_state.NodeState.{NodeState}
use Rattle.journal_core.specs.declared.request.Request.{Request}
use Rattle.journal_core.specs.Limits.{max_number}
use Rattle.journal_core.specs.Step.{row_refused}
use Rattle.journal_core.specs.Segments.{find_segment, IsWithin}
use Rattle.journal_core.specs.Effects.{Effect, after_effect, after_effects}
use Rattle.journal_step.specs.declared.durable_effect.DurableEffect.{DurableEffect}
use Rattle.journal_step.specs.declared.durable_effect.DurableEffect.TheVariants as durable
use Rattle.journal_step.specs.declared.segment_index.IndexedSegment.{IndexedSegment}
use Rattle.journal_step.specs.declared.decision.Decision.{Decision}
use Rattle.journal_step.specs.Decisions.{IsDecision}
use Rattle.journal_step.specs.Durable.{batch_of, effect_of, HasBatch}

-- the effect leaves each segment within the greatest txid
abbrev pub Fits : NodeState → Request → DurableEffect → Type 0
Fits s r (durable.Promise epoch) = Unit {0}
Fits s r (durable.WriterEpoch epoch) = Unit {0}
Fits s r (durable.Commit txid) = Unit {0}
Fits s r (durable.NewSegment start epoch) = start ≤ max_number
Fits s r (durable.Append start at) = HasBatch r × IfSome (find_segment start s.segments) (λ g. IsWithin (record g { bodies = g.bodies ++ (batch_of r).bodies }))
Fits s r (durable.Replace epoch again) = HasBatch r × (last_txid (batch_of r) ≤ max_number)
Fits s r (durable.MakeFinal start end accepted) = Unit {0}
Fits s r (durable.Remove info) = Unit {0}

abbrev pub EachFits : NodeState → Request → List DurableEffect → Type 0
EachFits s r [] = Unit {0}
EachFits s r (e ∷ es) = Fits s r e × EachFits (after_effect s (effect_of r e)) r es

-- the first of the effects are applied, so many of them
pub record DoesFirst (old : NodeState) (es : List Effect) (keep done : ℕ) (new : NodeState) : Type 0 where
  pub count : done ≡ min keep (length es)
  pub state : new ≡ after_effects old (take keep es)

-- only numbers differ
pub record KeepsSegments (old new : NodeState) : Type 0 where
  pub segments : new.segments ≡ old.segments
  pub up : new.up ≡ old.up

-- what is decided of a request that isn't refused
pub record IsPassed (s : NodeState) (r : Request) (d : Decision) : Type 0 where
  pub passes : row_refused s r ≡ None
  pub found : ℕ → Option IndexedSegment
  pub decided : IsDecision s found r d
