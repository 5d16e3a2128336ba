-- The final segments of nodes at the end of their histories.
use Rattle.std.specs.Prelude.{◌≡◌, ℕ, true, List, Contains, Some, slice_get}
use Rattle.journal_core.specs.Segments.{HasAt}
use Rattle.journal_core.specs.declared.node_state.NodeState.{NodeState}
use Rattle.journal_core.specs.declared.segment.Segment.{Segment}
use Rattle.mesh.specs.declared.whole.Mesh.{Mesh}
use Rattle.mesh.specs.Agree.{Agrees}
use Rattle.mesh.specs.Order.{epoch_order}
use Rattle.play_model.specs.Plays.{states_after}
use Rattle.play_laws.specs.Linear.{OnLine}

-- each of their edits stands on the line, in the epoch order of every mesh that agrees
abbrev pub FinalsAreOnLine : Type 0
FinalsAreOnLine =
    (m : Mesh) (i txid : ℕ) (s : NodeState) (g : Segment) (body : List ℕ) → Agrees m → slice_get (states_after m.histories) i ≡ Some (Some s)
    → Contains s.segments g → g.is_final ≡ true → HasAt g txid body → OnLine m (epoch_order m) txid body
