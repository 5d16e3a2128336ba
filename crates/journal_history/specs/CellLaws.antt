-- What holds of a node with its arming, whatever reaches it.
use Rattle.std.specs.Prelude.{◌≡◌, ◌≢◌, ℕ, ◌≤◌, Bool, true, false, length, Some, None}
use Rattle.journal_core.specs.declared.node_state.NodeState.{NodeState}
use Rattle.journal_core.specs.Step.{node_step, effects_of}
use Rattle.journal_history.specs.declared.node_ask.NodeAsk.{NodeAsk}
use Rattle.journal_history.specs.Cell.{Cell, cell_takes}
use Rattle.journal_history.specs.Entries.{Move, Answer, Stop, Kill, Restart, after_move}
use Rattle.journal_history.specs.Moving.{move_of}

abbrev pub PromiseNeverFalls : Type 0
PromiseNeverFalls = (c : Cell) → (ask : NodeAsk) → c.state.promised ≤ (cell_takes c ask).cell.state.promised

-- what does not move leaves the state
abbrev pub StillLeaves : Type 0
StillLeaves = (c : Cell) → (ask : NodeAsk) → (caller : ℕ) → (muted : Bool) → move_of caller muted ask (cell_takes c ask).answer ≡ None → (cell_takes c ask).cell.state ≡ c.state

-- the node could make this move: the reply is its own, and it was up or down as it must be
abbrev pub IsPossible : NodeState → Move → Type 0
IsPossible s (Answer caller way request reply) = (node_step s request).reply ≡ reply
IsPossible s (Stop caller late request kept) = (s.up ≡ true) × (kept ≤ length (effects_of s request))
IsPossible s Kill = s.up ≡ true
IsPossible s Restart = s.up ≡ false

-- a line that moves is a move of the node, and leaves another state
pub record IsMoved (c : Cell) (after : NodeState) (m : Move) : Type 0 where
  pub is : after ≡ after_move c.state m
  pub possible : IsPossible c.state m
  pub changes : after_move c.state m ≢ c.state

abbrev pub MovingMoves : Type 0
MovingMoves =
    (c : Cell) → (ask : NodeAsk) → (caller : ℕ) → (muted : Bool) → (m : Move) → move_of caller muted ask (cell_takes c ask).answer ≡ Some m
    → IsMoved c (cell_takes c ask).cell.state m
