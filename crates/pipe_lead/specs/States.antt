-- What a name node is between two lines.
use Rattle.std.specs.Prelude.{ℕ, ◌≡◌, ◌≢◌, true, false, Some, List, [], ◌∷◌, ◌++◌, codes, decimal}
use Rattle.writer_core.specs.Writer.{is_writing}
use Rattle.play_names.specs.Holding.{Holding, Free}
use Rattle.play_model.specs.Actions.{ActorView}
use Rattle.pipe_lead.specs.declared.lead_state.LeadState.{LeadState}
use Rattle.pipe_lead.specs.declared.lead_state.LeadState.TheVariants as state

-- it holds a namespace, and met no bad entry
pub record IsAble (a : ActorView) : Type 0 where
  pub holding : Holding
  pub holds : a.holds ≡ Some holding
  pub free : holding.work ≡ Free

-- active in this epoch; a standby up to this txid; neither
abbrev pub IsInState : LeadState → ActorView → Type 0
IsInState (state.Active epoch) a = IsAble a × (is_writing a.writer.phase ≡ true) × (a.writer.epoch ≡ epoch)
IsInState (state.Standby txid) a = (able : IsAble a) × (is_writing a.writer.phase ≡ false) × (able.holding.position ≡ txid)
IsInState state.Broken a = IsAble a → ⊥

-- what is told of it
abbrev pub state_text : LeadState → List ℕ
state_text (state.Active epoch) = codes "= active " ++ decimal epoch ++ 10 ∷ []
state_text (state.Standby txid) = codes "= standby " ++ decimal txid ++ 10 ∷ []
state_text state.Broken = codes "= broken" ++ 10 ∷ []
