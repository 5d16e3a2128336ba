-- The wire of a play: what a call or a copy does to its nodes.
use Rattle.std.specs.Prelude.{◌≡◌, ℕ, ◌-◌, true, false, List, length, slice_set, slice_index_or}
use Rattle.journal_core.specs.declared.request.Request.{Request}
use Rattle.journal_core.specs.declared.heard.Heard.{Heard}
use Rattle.journal_history.specs.Cell.{heard_of}
use Rattle.journal_history.specs.declared.node_ask.NodeAsk.TheVariants.{Act}
use Rattle.journal_history.specs.NodeCells.{CellView, new_cell}
use Rattle.caller.specs.declared.wire.WireModel.{Ghosts}
use Rattle.play_actor.specs.Kept.{list_ask, answer_to}

-- what contracts see of the wire: its caller, and the nodes with what each has listed
pub record NodesView : Type 0 where
  pub caller : ℕ
  pub cells : List CellView

abbrev pub cell_at : List CellView → ℕ → CellView
cell_at cells node = slice_index_or cells (node - 1) new_cell

-- the nodes once this one was asked this
abbrev pub asked_at : NodesView → ℕ → Request → List CellView
asked_at w node r = slice_set w.cells (node - 1) (list_ask (cell_at w.cells node) w.caller (Act false r))

pub record Carries (node : ℕ) (r : Request) (heard : Heard) (old new : NodesView) : Type 0 where
  pub heard_is : heard ≡ heard_of (answer_to (cell_at old.cells node) (Act false r))
  pub caller : new.caller ≡ old.caller
  pub cells : new.cells ≡ asked_at old node r

pub record Copies (node : ℕ) (r : Request) (old new : NodesView) : Type 0 where
  pub caller : new.caller ≡ old.caller
  pub cells : new.cells ≡ slice_set old.cells (node - 1) (list_ask (cell_at old.cells node) old.caller (Act true r))

-- such a wire, whatever its nodes are
abbrev pub nodes_wire : Ghosts NodesView
nodes_wire = record {
  nodes = λ w. length w.cells;
  carries = Carries;
  skips = λ node old new. new ≡ old;
  copies = Copies;
  operates = λ node ask done old new. ⊥;
  readies = λ old new. new ≡ old;
}
