-- The states of the nodes, line by line.
use Rattle.std.specs.Prelude.{ℕ, List, [], slice_set, Option, Some, None, slice_get, slice_index_or, replicate, if◌then◌else◌}
use Rattle.journal_core.specs.declared.node_state.NodeState.{NodeState}
use Rattle.journal_core.specs.Step.{node_step, stopped, crashed, restarted, fresh_state}
use Rattle.journal_history.specs.declared.node_ask.NodeAsk.{NodeAsk}
use Rattle.journal_history.specs.declared.node_ask.NodeAsk.TheVariants as ask
use Rattle.journal_history.specs.declared.node_ask.NodeAnswer.{NodeAnswer}
use Rattle.journal_history.specs.declared.node_ask.NodeAnswer.TheVariants as answer
use Rattle.journal_history.specs.declared.history_line.HistoryLine.{HistoryLine}
use Rattle.mesh.specs.declared.whole.Mesh.{Mesh}
use Rattle.node_states.specs.declared.turn.Turn.{Turn}
use Rattle.node_states.specs.declared.turn.Turn.TheVariants as turn
use Rattle.node_states.specs.declared.node_line.NodeLine.{NodeLine}

abbrev pub killed : NodeState → NodeState
killed s = if s.up then crashed s else s

abbrev pub brought_up : NodeState → NodeState
brought_up s = if s.up then s else restarted s

-- a node's state after a line of its history that moved it
abbrev pub state_left : NodeState → NodeAsk → NodeAnswer → NodeState
state_left s (ask.Act late r) (answer.Replied reply) = (node_step s r).state
state_left s (ask.Act late r) (answer.Stopped keep) = stopped s r keep
state_left s ask.Kill answer.Done = killed s
state_left s ask.Restart answer.Done = brought_up s
state_left s _ _ = s

abbrev pub state_after : NodeState → HistoryLine → NodeState
state_after s h = state_left s h.ask h.answer

-- the line of a history
abbrev pub history_line : Mesh → NodeLine → Option HistoryLine
history_line m l = slice_get (slice_index_or m.histories l.index []) l.line

abbrev pub left_at : List NodeState → NodeLine → Option NodeState → Option HistoryLine → List NodeState
left_at states l None h = states
left_at states l (Some s) None = states
left_at states l (Some s) (Some h) = if l.is_moving then slice_set states l.index (state_after s h) else states

-- the states of all nodes after one line more
unfoldable pub states_then : Mesh → List NodeState → Turn → List NodeState
states_then m states (turn.OfNode l) = left_at states l (slice_get states l.index) (history_line m l)
states_then m states (turn.OfCaller caller line) = states

-- before any line
abbrev pub fresh_states : ℕ → List NodeState
fresh_states nodes = replicate nodes fresh_state
