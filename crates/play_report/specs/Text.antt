-- The report: each node's history, and each caller's record with what it holds at last.
use Rattle.std.specs.Prelude.{ℕ, ◌+◌, Bool, true, false, List, [], ◌∷◌, ◌++◌, Option, Some, None, codes, decimal, slice_get}
use Rattle.std.specs.List.{flat_map}
use Rattle.journal_core.specs.declared.cut.Cut.{Cut}
use Rattle.journal_core.specs.declared.cut.Cut.TheVariants as cut
use Rattle.journal_text.specs.Texts.{numbers_text, request_text, reply_text}
use Rattle.journal_history.specs.declared.stop.Stop.{Stop}
use Rattle.journal_history.specs.declared.stop.Stop.TheVariants as stop
use Rattle.journal_history.specs.declared.node_ask.NodeAsk.{NodeAsk}
use Rattle.journal_history.specs.declared.node_ask.NodeAsk.TheVariants as ask
use Rattle.journal_history.specs.declared.node_ask.NodeAnswer.{NodeAnswer}
use Rattle.journal_history.specs.declared.node_ask.NodeAnswer.TheVariants as answer
use Rattle.journal_history.specs.declared.history_line.HistoryLine.{HistoryLine}
use Rattle.journal_history.specs.declared.record.Told.{Told}
use Rattle.journal_history.specs.declared.record.Told.TheVariants as told
use Rattle.journal_history.specs.declared.record.Record.{Record}
use Rattle.journal_history.specs.declared.record.Record.TheVariants as record_
use Rattle.ns_tree.specs.declared.inode.Row.{Row}
use Rattle.ns_tree.specs.declared.end.LastSpace.{LastSpace}
use Rattle.ns_tree.specs.declared.end.End.{End}
use Rattle.list_text.specs.Texts.{row_text}
use Rattle.mesh.specs.declared.whole.Mesh.{Mesh}

-- ## Names
-- the name under which the operator's lines stand
abbrev pub operator : List ℕ
operator = codes "ops"

abbrev pub name_or_operator : Option End → List ℕ
name_or_operator (Some e) = e.name
name_or_operator None = operator

-- an actor's name by its number; a greater number is the operator's
abbrev pub caller_name : List End → ℕ → List ℕ
caller_name ends caller = name_or_operator (slice_get ends caller)

-- ## What was asked, and what came of it
-- what a crash leaves of what wasn't synced
abbrev pub choice_text : Cut → List ℕ
choice_text cut.Old = codes " old"
choice_text cut.New = codes " new"
choice_text cut.A5 = codes " a5"

abbrev pub stop_text : ℕ → Stop → List ℕ
stop_text calls (stop.Effects keep) = codes "stop" ++ numbers_text (calls ∷ keep ∷ [])
stop_text calls (stop.DiskCalls made choice) = codes "cut" ++ numbers_text (calls ∷ made ∷ []) ++ choice_text choice

-- a copy that comes late is marked
abbrev pub late_text : Bool → List ℕ
late_text true = codes "late "
late_text false = []

unfoldable pub ask_text : NodeAsk → List ℕ
ask_text (ask.Act late request) = late_text late ++ request_text request
ask_text ask.Kill = codes "kill"
ask_text ask.Restart = codes "restart"
ask_text (ask.Arm calls stop) = stop_text calls stop

-- the last line is never needed: a restarted node that was steady opens its files
unfoldable pub answer_text : NodeAnswer → List ℕ
answer_text (answer.Replied reply) = reply_text reply
answer_text (answer.Stopped keep) = codes "stopped" ++ numbers_text (keep ∷ [])
answer_text answer.Done = codes "done"
answer_text answer.Idle = codes "idle"
answer_text (answer.NotOpened fail) = codes "not opened"

unfoldable pub heard_text : Told → List ℕ
heard_text (told.Reply reply) = reply_text reply
heard_text told.Dropped = codes "dropped"
heard_text told.Muted = codes "muted"
heard_text told.Silent = codes "silent"

abbrev pub done_text : Bool → List ℕ
done_text true = codes "done"
done_text false = codes "idle"

abbrev pub arrow : List ℕ
arrow = codes " -> "

-- ## Lines
-- a line of a node's history: who asked, what, and the answer
unfoldable pub history_line_text : List End → HistoryLine → List ℕ
history_line_text ends h = caller_name ends h.caller ++ 32 ∷ ask_text h.ask ++ arrow ++ answer_text h.answer ++ 10 ∷ []

-- a line of a caller's record: which node, what was asked, and what was heard
unfoldable pub record_line_text : Record → List ℕ
record_line_text (record_.Call node request heard) = decimal node ++ 32 ∷ request_text request ++ arrow ++ heard_text heard ++ 10 ∷ []
record_line_text (record_.Late node request) = decimal node ++ codes " late " ++ request_text request ++ codes " -> gone" ++ 10 ∷ []
record_line_text (record_.Operator node ask done) = decimal node ++ 32 ∷ ask_text ask ++ arrow ++ done_text done ++ 10 ∷ []
record_line_text (record_.Outcome text) = codes "= " ++ text ++ 10 ∷ []

-- ## Histories and records
abbrev pub history_text : List End → List HistoryLine → List ℕ
history_text ends lines = flat_map (history_line_text ends) lines

abbrev pub record_text : List Record → List ℕ
record_text lines = flat_map record_line_text lines

-- a node's number, and its history
unfoldable pub node_text : List End → ℕ → List HistoryLine → List ℕ
node_text ends node lines = codes "node" ++ numbers_text (node ∷ []) ++ 10 ∷ [] ++ history_text ends lines

-- the nodes from that number on
unfoldable pub nodes_text : List End → ℕ → List (List HistoryLine) → List ℕ
nodes_text ends node [] = []
nodes_text ends node (lines ∷ histories) = node_text ends node lines ++ nodes_text ends (node + 1) histories

-- a caller's name, and its record
unfoldable pub actor_text : List ℕ → List Record → List ℕ
actor_text name lines = codes "actor " ++ name ++ 10 ∷ [] ++ record_text lines

-- ## What an actor holds at last
-- a row of its namespace, marked by a point
unfoldable pub row_line_text : Row → List ℕ
row_line_text row = codes ". " ++ row_text row ++ 10 ∷ []

abbrev pub rows_text : List Row → List ℕ
rows_text rows = flat_map row_line_text rows

-- how many edits it has applied, and then its namespace's rows
unfoldable pub space_text : LastSpace → List ℕ
space_text last = codes "position" ++ numbers_text (last.position ∷ []) ++ 10 ∷ [] ++ rows_text last.rows

-- nothing of an actor without names
unfoldable pub last_text : Option LastSpace → List ℕ
last_text None = []
last_text (Some last) = space_text last

-- an actor's record, and what it holds at last
unfoldable pub ended_text : End → List Record → List ℕ
ended_text e lines = actor_text e.name lines ++ last_text e.last

-- ## Callers
-- the operator's record, where it isn't empty
unfoldable pub operator_text : List (List Record) → List ℕ
operator_text [] = []
operator_text ([] ∷ records) = []
operator_text ((line ∷ lines) ∷ records) = actor_text operator (line ∷ lines)

-- the actors in order of declaration, and then the operator
unfoldable pub actors_text : List End → List (List Record) → List ℕ
actors_text [] records = operator_text records
actors_text (e ∷ ends) [] = []
actors_text (e ∷ ends) (lines ∷ records) = ended_text e lines ++ actors_text ends records

-- ## The report
unfoldable pub text_of : Mesh → List End → List ℕ
text_of mesh ends =
    codes "nodes" ++ numbers_text (mesh.nodes ∷ []) ++ 10 ∷ [] ++ nodes_text ends 1 mesh.histories ++ actors_text ends mesh.records ++ codes "end\n"
