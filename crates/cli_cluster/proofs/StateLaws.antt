-- What a name node says that it is.
use Rattle.std.proofs.Common.{ℕ, ◌≡◌, Bool, true, false, Some, refl, sym, ap, ◌∙◌}
use Rattle.writer_core.specs.Writer.{is_writing}
use Rattle.play_names.specs.Holding.{Holding, Work, Free}
use Rattle.play_standby.specs.Standbys.{StandbyView, held}
use Rattle.play_model.specs.Actions.{ActorView}
use Rattle.play_actor.specs.Kinds.{IsActiveIn, IsNotActive, IsStandbyAt, IsNoStandby}
use Rattle.pipe_lead.specs.declared.lead_state.LeadState.TheVariants as state
use Rattle.pipe_lead.specs.States.{IsAble, IsInState}

pub active_state : (a : ActorView) (epoch : ℕ) → IsActiveIn a epoch → IsInState (state.Active epoch) a
active_state a epoch h = (record { holding = h.holding; holds = h.holds; free = h.free }, h.opened, h.epoch_is)

pub standby_state : (a : ActorView) (s : StandbyView) (txid : ℕ) → IsStandbyAt a s → txid ≡ s.position → IsInState (state.Standby txid) a
standby_state a s txid h e = (record { holding = held h.images s; holds = h.holds; free = refl }, h.rests, sym e)

-- one that is able is active or a standby
pub broken_state : (a : ActorView) → IsNotActive a → IsNoStandby a → IsInState state.Broken a
broken_state a active standby able = by (is_writing a.writer.phase) refl
  where
    by : (b : Bool) → is_writing a.writer.phase ≡ b → ⊥
    by true e = active a.writer.epoch (record { holding = able.holding; holds = able.holds; free = able.free; opened = e; epoch_is = refl })
    by false e = standby (record { space = able.holding.space; position = able.holding.position }) (record {
      images = able.holding.images;
      holds = able.holds
          ∙ ap (λ (w : Work). Some (record { space = able.holding.space; position = able.holding.position; images = able.holding.images; work = w })) able.free;
      rests = e;
    })

pub ruleset states = (active_state, standby_state, broken_state)
