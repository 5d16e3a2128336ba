-- What nodes give at the end of their histories.
use Rattle.std.specs.Prelude.{◌≡◌, ℕ, ◌+◌, Some, slice_get}
use Rattle.journal_core.specs.Views.{BatchView}
use Rattle.journal_core.specs.Step.{node_step}
use Rattle.journal_core.specs.declared.node_state.NodeState.{NodeState}
use Rattle.journal_core.specs.declared.reply.Reply.TheVariants.{Edits}
use Rattle.journal_core.specs.declared.request.Request.TheVariants.{Read}
use Rattle.mesh.specs.declared.whole.Mesh.{Mesh}
use Rattle.mesh.specs.Agree.{Agrees}
use Rattle.mesh.specs.Order.{epoch_order}
use Rattle.play_model.specs.Plays.{states_after}
use Rattle.play_model.specs.Safe.{AllOn}
use Rattle.play_laws.specs.Linear.{OnLine}

-- whatever a read of a node gives then is the line's, in the epoch order of every mesh that agrees
abbrev pub EndReadsAreOnLine : Type 0
EndReadsAreOnLine =
    (m : Mesh) (i t : ℕ) (s : NodeState) (batch : BatchView) → Agrees m → slice_get (states_after m.histories) i ≡ Some (Some s)
    → (node_step s (Read (t + 1))).reply ≡ Edits batch → AllOn (OnLine m (epoch_order m)) t batch.bodies
