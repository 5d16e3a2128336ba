-- The lines that tell the states.
use Rattle.std.specs.Prelude.{ℕ, ◌+◌, Bool, true, false, List, [], ◌∷◌, ◌++◌, map, codes, Option, Some, None, slice_get}
use Rattle.journal_core.specs.declared.node_state.NodeState.{NodeState}
use Rattle.journal_history.specs.declared.node_ask.NodeAsk.{NodeAsk}
use Rattle.journal_history.specs.declared.node_ask.NodeAsk.TheVariants as ask
use Rattle.journal_history.specs.declared.node_ask.NodeAnswer.{NodeAnswer}
use Rattle.journal_history.specs.declared.node_ask.NodeAnswer.TheVariants as answer
use Rattle.journal_history.specs.declared.history_line.HistoryLine.{HistoryLine}
use Rattle.journal_history.specs.declared.record.Record.{Record}
use Rattle.journal_history.specs.declared.record.Record.TheVariants as record_
use Rattle.ns_tree.specs.declared.end.End.{End}
use Rattle.play_report.specs.Text.{caller_name}
use Rattle.mesh.specs.declared.whole.Mesh.{Mesh}
use Rattle.node_states.specs.declared.node_line.NodeLine.{NodeLine}
use Rattle.node_states.specs.declared.turn.Turn.{Turn}
use Rattle.node_states.specs.declared.turn.Turn.TheVariants as turn
use Rattle.node_states.specs.Fields.{key_text, first_text, number_text, word_text, quoted, plain, array_text}
use Rattle.node_states.specs.Asks.{request_text, ask_text}
use Rattle.node_states.specs.Answers.{answer_text}
use Rattle.node_states.specs.Lines.{record_at}
use Rattle.node_states.specs.Turns.{turns}
use Rattle.node_states.specs.Steps.{state_after, history_line, states_then, fresh_states}
use Rattle.node_states.specs.States.{state_text, change_text}

-- what became of a call that was no late copy
abbrev pub heard_word : Bool → NodeAnswer → List ℕ
heard_word true answer = codes "muted"
heard_word false (answer.Stopped keep) = codes "silent"
heard_word false _ = codes "heard"

abbrev pub way_word : NodeAsk → Bool → NodeAnswer → List ℕ
way_word (ask.Act true r) muted a = codes "late"
way_word (ask.Act false r) muted a = heard_word muted a
way_word _ muted a = codes "order"

-- the event's number, its caller, and what became of it
unfoldable pub front_text : ℕ → List ℕ → List ℕ → List ℕ
front_text number name way = first_text (codes "event") number ++ (word_text (codes "caller") (plain name) ++ word_text (codes "way") way)

-- the node, and what it was asked
abbrev pub asked_text : ℕ → List ℕ → List ℕ
asked_text node asked = number_text (codes "node") node ++ (key_text (codes "ask") ++ asked)

-- the node's state after the line, and what became of its segments, where the line moved it
unfoldable pub moved_text : Bool → NodeState → HistoryLine → List ℕ
moved_text true s h = state_text (state_after s h) ++ change_text s.segments h.ask (state_after s h).segments
moved_text false s h = []

unfoldable pub line_end : List ℕ
line_end = codes "}\n"

unfoldable pub node_line_text : List End → ℕ → NodeState → NodeLine → HistoryLine → List ℕ
node_line_text ends number s l h =
    front_text number (caller_name ends h.caller) (way_word h.ask l.reach.is_muted h.answer) ++ (asked_text (l.index + 1) (ask_text h.ask) ++ (key_text (codes "answer")
    ++ (answer_text h.answer ++ (moved_text l.is_moving s h ++ line_end))))

-- a call that reached no node, and a result
unfoldable pub record_line_text : List ℕ → ℕ → Record → List ℕ
record_line_text name number (record_.Call node r told) = front_text number name (codes "dropped") ++ (asked_text node (request_text r) ++ line_end)
record_line_text name number (record_.Outcome text) = front_text number name (codes "result") ++ (word_text (codes "result") (plain text) ++ line_end)
record_line_text name number (record_.Late node r) = []
record_line_text name number (record_.Operator node ask done) = []

abbrev pub listed_text : List End → ℕ → NodeLine → Option NodeState → Option HistoryLine → List ℕ
listed_text ends number l None h = []
listed_text ends number l (Some s) None = []
listed_text ends number l (Some s) (Some h) = node_line_text ends number s l h

abbrev pub recorded_text : List ℕ → ℕ → Option Record → List ℕ
recorded_text name number None = []
recorded_text name number (Some r) = record_line_text name number r

-- the line of a turn, where the nodes are in these states before it
unfoldable pub turn_text : Mesh → List End → ℕ → List NodeState → Turn → List ℕ
turn_text m ends number states (turn.OfNode l) = listed_text ends number l (slice_get states l.index) (history_line m l)
turn_text m ends number states (turn.OfCaller caller line) = recorded_text (caller_name ends caller) number (slice_get (record_at m.records caller) line)

-- the lines of turns, the first of them with this number
unfoldable pub turns_text : Mesh → List End → ℕ → List NodeState → List Turn → List ℕ
turns_text m ends number states [] = []
turns_text m ends number states (t ∷ ts) = turn_text m ends number states t ++ turns_text m ends (number + 1) (states_then m states t) ts

-- the line before all events
unfoldable pub head_text : ℕ → List End → List ℕ
head_text nodes ends =
    first_text (codes "event") 0 ++ (number_text (codes "nodes") nodes ++ (key_text (codes "actors") ++ (array_text (map (λ e. quoted (plain e.name)) ends) ++ line_end)))

-- all lines
unfoldable pub states_text : Mesh → List End → List ℕ
states_text m ends = head_text m.nodes ends ++ turns_text m ends 1 (fresh_states m.nodes) (turns m)
