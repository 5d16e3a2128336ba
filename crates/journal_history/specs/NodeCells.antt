-- A node that keeps its own history: what contracts see of it, and what one ask of it does.
use Rattle.std.specs.Prelude.{◌≡◌, ℕ, Bool, List, [], ◌∷◌, ◌++◌, Option, Some, None, unwrap_or}
use Rattle.journal_core.specs.declared.node_state.NodeState.{NodeState}
use Rattle.journal_core.specs.Step.{fresh_state}
use Rattle.journal_core.specs.Peers.{FitsHeard}
use Rattle.journal_history.specs.declared.node_ask.NodeAsk.{NodeAsk}
use Rattle.journal_history.specs.declared.node_ask.NodeAsk.TheVariants.{Act, Kill, Restart, Arm}
use Rattle.journal_history.specs.declared.node_ask.NodeAnswer.{NodeAnswer}
use Rattle.journal_history.specs.declared.history_line.HistoryLine.{HistoryLine}
use Rattle.journal_history.specs.Cell.{Cell, fresh_cell, cell_takes, arm_at_once, heard_of}

-- the cell as it stands, and what it has listed
pub record CellView : Type 0 where
  pub cell : Cell
  pub history : List HistoryLine

-- the state of a node that tells it
abbrev pub state_told : Option NodeState → NodeState
state_told o = unwrap_or o fresh_state

-- where it is known whether the node is up, it is
abbrev pub IsUp : Option Bool → NodeState → Type 0
IsUp None s = Unit {0}
IsUp (Some up) s = up ≡ s.up

-- before anything has reached it
abbrev pub new_cell : CellView
new_cell = record { cell = fresh_cell; history = [] }

-- the cell took what this caller asked, gave this answer, and listed it
pub record IsTaken (old : CellView) (caller : ℕ) (ask : NodeAsk) (answer : NodeAnswer) (new : CellView) : Type 0 where
  pub taken : cell_takes old.cell ask ≡ record { answer = answer; cell = new.cell }
  pub listed : new.history ≡ old.history ++ record { caller = caller; ask = ask; answer = answer } ∷ []

-- a reply fits its request, and isn't lack of memory
abbrev pub AnswerFits : NodeAsk → NodeAnswer → Type 0
AnswerFits (Act late r) answer = FitsHeard r (heard_of answer)
AnswerFits Kill answer = Unit {0}
AnswerFits Restart answer = Unit {0}
AnswerFits (Arm calls stop) answer = Unit {0}

-- what one node took
abbrev pub stopping_at : Option ℕ → CellView → CellView
stopping_at stop c = record c { cell = arm_at_once stop c.cell }
