-- What the lines of a report say, from the first on.
use Rattle.std.specs.Prelude.{ℕ, zero, suc, ◌+◌, ◌&&◌, nat_lt, nat_le, not, Bool, true, List, [], ◌∷◌, ◌++◌, length, drop, Option, Some, None, is_none, if◌then◌else◌, codes}
use Rattle.std.specs.Str.{bytes_eq}
use Rattle.std.specs.Str.Parse.{digits_value}
use Rattle.journal_core.specs.Nodes.{most_nodes}
use Rattle.base_words.specs.WordNumbers.{is_number}
use Rattle.journal_text.specs.Reading.{number_in}
use Rattle.journal_history.specs.declared.node_ask.NodeAsk.{NodeAsk}
use Rattle.journal_history.specs.declared.node_ask.NodeAnswer.{NodeAnswer}
use Rattle.journal_history.specs.declared.history_line.HistoryLine.{HistoryLine}
use Rattle.journal_history.specs.declared.record.Record.{Record}
use Rattle.ns_tree.specs.declared.inode.Row.{Row}
use Rattle.ns_tree.specs.declared.end.LastSpace.{LastSpace}
use Rattle.ns_tree.specs.declared.end.End.{End}
use Rattle.play_script.specs.Words.{is_name}
use Rattle.play_report.specs.Summary.{begins}
use Rattle.play_report.specs.Text.{operator, text_of}
use Rattle.report_judge.specs.declared.rules.Rule.TheVariants as rule
use Rattle.report_judge.specs.Lines.{ask_in, answered_in, recorded_in, outcome_in}
use Rattle.report_judge.specs.Callers.{bare, caller_in}
use Rattle.report_judge.specs.Cuts.{cut_in, has_arrow, arrow_in}
use Rattle.report_judge.specs.Rows.{row_in}
use Rattle.report_judge.specs.declared.actors.Callers.{Callers}
use Rattle.report_judge.specs.declared.answer.Lists.{Lists}
use Rattle.report_judge.specs.Pieces.{pieces, Front, Taken, Broken, line_if, is_next, lines_while, then_}

-- ## A line of a history
abbrev pub answered_by : ℕ → NodeAsk → Option NodeAnswer → Option HistoryLine
answered_by caller q None = None
answered_by caller q (Some a) = Some (record { caller = caller; ask = q; answer = a })

abbrev pub asked_by : ℕ → List ℕ → Option NodeAsk → Option HistoryLine
asked_by caller answered None = None
asked_by caller answered (Some q) = answered_by caller q (answered_in q answered)

abbrev pub parted_by : ℕ → Option (List ℕ × List ℕ) → Option HistoryLine
parted_by caller None = None
parted_by caller (Some parts) = asked_by caller parts.1 (ask_in parts.0)

abbrev pub called_from : Option ℕ → List ℕ → Option HistoryLine
called_from None rest = None
called_from (Some caller) rest = parted_by caller (arrow_in rest)

abbrev pub named_by : List End → Option (List ℕ × List ℕ) → Option HistoryLine
named_by ends None = None
named_by ends (Some parts) = called_from (caller_in ends parts.0) parts.1

-- a caller, a request or an order, an arrow and an answer to it
unfoldable pub history_line_in : List End → List ℕ → Option HistoryLine
history_line_in ends line = named_by ends (cut_in 32 line)

-- ## A line of a record
abbrev pub told_by : ℕ → List ℕ → Option NodeAsk → Option Record
told_by node told None = None
told_by node told (Some q) = recorded_in node q told

abbrev pub parted_at : ℕ → Option (List ℕ × List ℕ) → Option Record
parted_at node None = None
parted_at node (Some parts) = told_by node parts.1 (ask_in parts.0)

-- the number of that range that a word is
abbrev pub number_within : ℕ → ℕ → List ℕ → Option ℕ
number_within least most word = if is_number least most word then Some (digits_value 10 word) else None

abbrev pub called_at : Option ℕ → List ℕ → Option Record
called_at None rest = None
called_at (Some node) rest = parted_at node (arrow_in rest)

abbrev pub numbered_by : ℕ → Option (List ℕ × List ℕ) → Option Record
numbered_by nodes None = None
numbered_by nodes (Some parts) = called_at (number_within 1 nodes parts.0) parts.1

-- a result, or a node, a request or an order, an arrow and what came of it
unfoldable pub record_line_in : ℕ → List ℕ → Option Record
record_line_in nodes line = if begins line (codes "= ") then outcome_in (drop 2 line) else numbered_by nodes (cut_in 32 line)

-- a line is a record's: it begins with no letter
abbrev pub is_of_record : List ℕ → Bool
is_of_record [] = true
is_of_record (b ∷ bs) = not (nat_le 97 b && nat_le b 122)

-- ## The nodes
abbrev pub history_in : List End → List (List ℕ) → Front (List HistoryLine)
history_in ends ps = lines_while has_arrow (history_line_in ends) rule.HistoryLine ps

abbrev pub is_header : ℕ → List ℕ → Bool
is_header node line = begins line (codes "node ") && is_number node node (drop 5 line)

-- the line `node K` of this node
abbrev pub header_in : ℕ → List (List ℕ) → Front (Unit {0})
header_in node ps = line_if (is_header node) rule.NodeLine ps

-- so many nodes from this one on, behind those that were read
unfoldable pub nodes_in : List End → ℕ → ℕ → List (List HistoryLine) → List (List ℕ) → Front (List (List HistoryLine))
nodes_in ends zero node done ps = Taken done ps
nodes_in ends (suc count) node done ps =
    then_ (header_in node ps) (λ u rest. then_ (history_in ends rest) (λ history left. nodes_in ends count (node + 1) (done ++ history ∷ []) left))

-- ## What an actor holds at last
abbrev pub is_row : List ℕ → Bool
is_row line = begins line (codes ". ")

abbrev pub rows_in : List (List ℕ) → Front (List Row)
rows_in ps = lines_while is_row (λ line. row_in (drop 2 line)) rule.RowLine ps

abbrev pub held : ℕ → List Row → List (List ℕ) → Front (Option LastSpace)
held position rows left = Taken (Some (record { position = position; rows = rows })) left

-- the rows behind a position
unfoldable pub space_in : ℕ → List (List ℕ) → Front (Option LastSpace)
space_in position ps = then_ (rows_in ps) (λ rows left. held position rows left)

abbrev pub held_from : List (List ℕ) → Option ℕ → List (List ℕ) → Front (Option LastSpace)
held_from here None ps = Broken here rule.PositionLine
held_from here (Some position) ps = space_in position ps

-- a position and rows, where they are there
unfoldable pub last_in : List (List ℕ) → Front (Option LastSpace)
last_in [] = Taken None []
last_in (l ∷ []) = Taken None (l ∷ [])
last_in (l ∷ m ∷ ps) = if begins l (codes "position ") then held_from (l ∷ m ∷ ps) (number_in 0 (drop 9 l)) (m ∷ ps) else Taken None (l ∷ m ∷ ps)

-- ## The callers
abbrev pub record_in : ℕ → List (List ℕ) → Front (List Record)
record_in nodes ps = lines_while is_of_record (record_line_in nodes) rule.RecordLine ps

abbrev pub tells_name : List ℕ → Bool
tells_name line = begins line (codes "actor ")

abbrev pub is_name_line : List ℕ → List ℕ → Bool
is_name_line name line = tells_name line && bytes_eq (drop 6 line) name

-- the line of the actor with this name
abbrev pub name_in : List ℕ → List (List ℕ) → Front (Unit {0})
name_in name ps = line_if (is_name_line name) rule.ActorLine ps

abbrev pub with_actor : Callers → List ℕ → List Record → Option LastSpace → Callers
with_actor c name lines last = record { ends = c.ends ++ record { name = name; last = last } ∷ []; records = c.records ++ lines ∷ [] }

-- an actor's record and what it holds, behind those that were read
unfoldable pub actor_in : ℕ → List ℕ → Callers → List (List ℕ) → Front Callers
actor_in nodes name c ps = then_ (record_in nodes ps) (λ lines left. then_ (last_in left) (λ last over. Taken (with_actor c name lines last) over))

unfoldable pub actors_in : ℕ → List End → Callers → List (List ℕ) → Front Callers
actors_in nodes [] c ps = Taken c ps
actors_in nodes (e ∷ ends) c ps = then_ (name_in e.name ps) (λ u rest. then_ (actor_in nodes e.name c rest) (λ more left. actors_in nodes ends more left))

-- a caller's line comes next
abbrev pub is_name_next : List (List ℕ) → Bool
is_name_next ps = is_next tells_name ps

abbrev pub with_record : Callers → List Record → Callers
with_record c lines = record { ends = c.ends; records = c.records ++ lines ∷ [] }

-- the operator's record, where it is there
unfoldable pub operator_in : ℕ → Callers → List (List ℕ) → Front Callers
operator_in nodes c ps =
    if is_name_next ps then then_ (name_in operator ps) (λ u rest. then_ (record_in nodes rest) (λ lines left. Taken (with_record c lines) left))
    else Taken (with_record c []) ps

abbrev pub is_end_line : List ℕ → Bool
is_end_line line = bytes_eq line (codes "end")

-- nothing is left but the empty piece behind the last line end
unfoldable pub nothing_in : List (List ℕ) → Front (Unit {0})
nothing_in [] = Taken tt []
nothing_in ([] ∷ []) = Taken tt []
nothing_in ([] ∷ m ∷ ps) = Broken ([] ∷ m ∷ ps) rule.LastLine
nothing_in ((b ∷ bs) ∷ ps) = Broken ((b ∷ bs) ∷ ps) rule.LastLine

-- the last line, and nothing behind it
unfoldable pub end_in : List (List ℕ) → Front (Unit {0})
end_in ps = then_ (line_if is_end_line rule.LastLine ps) (λ u rest. nothing_in rest)

abbrev pub no_callers : Callers
no_callers = record { ends = []; records = [] }

-- all callers, behind those that were read, to the end of the report
unfoldable pub callers_in : ℕ → List End → Callers → List (List ℕ) → Front Callers
callers_in nodes names c ps =
    then_ (actors_in nodes names c ps) (λ actors rest. then_ (operator_in nodes actors rest) (λ all left. then_ (end_in left) (λ u over. Taken all over)))

-- ## The names
abbrev pub may_follow : List End → List ℕ → Bool
may_follow ends name = nat_lt (length ends) 8 && (is_name name && is_none (caller_in ends name))

-- one more actor of that name, if it may have it
abbrev pub with_next : List End → List ℕ → List End
with_next ends name = if may_follow ends name then ends ++ bare name ∷ [] else ends

-- one more, if the line tells its name and it may have it
unfoldable pub with_name : List End → List ℕ → List End
with_name ends line = if tells_name line && may_follow ends (drop 6 line) then ends ++ bare (drop 6 line) ∷ [] else ends

-- the names that the lines tell, behind those that are there
unfoldable pub names_from : List End → List (List ℕ) → List End
names_from ends [] = ends
names_from ends (l ∷ []) = ends
names_from ends (l ∷ m ∷ ps) = names_from (with_name ends l) (m ∷ ps)

-- ## The whole
abbrev pub first_by : List (List ℕ) → Option ℕ → List (List ℕ) → Front ℕ
first_by here None rest = Broken here rule.FirstLine
first_by here (Some nodes) rest = Taken nodes rest

-- the number of nodes that the first line tells
unfoldable pub first_in : List (List ℕ) → Front ℕ
first_in [] = Broken [] rule.FirstLine
first_in (l ∷ []) = Broken (l ∷ []) rule.FirstLine
first_in (l ∷ m ∷ ps) = first_by (l ∷ m ∷ ps) (if begins l (codes "nodes ") then number_within 1 most_nodes (drop 6 l) else None) (m ∷ ps)

-- the lists of a report, without marks
pub record ListsView : Type 0 where
  pub nodes : ℕ
  pub histories : List (List HistoryLine)
  pub callers : Callers

abbrev pub read_as : ℕ → List (List HistoryLine) → Callers → ListsView
read_as nodes histories callers = record { nodes = nodes; histories = histories; callers = callers }

abbrev pub lists_with : ℕ → List End → List (List ℕ) → Front ListsView
lists_with nodes names ps =
    then_ (nodes_in names nodes 1 [] ps) (λ histories left. then_ (callers_in nodes names no_callers left) (λ callers over. Taken (read_as nodes histories callers) over))

unfoldable pub lists_in : List (List ℕ) → Front ListsView
lists_in ps = then_ (first_in ps) (λ nodes rest. lists_with nodes (names_from [] rest) rest)

-- those of a report that was read
abbrev pub shown : Lists → ListsView
shown lists = record { nodes = lists.mesh.nodes; histories = lists.mesh.histories; callers = record { ends = lists.ends; records = lists.mesh.records } }

-- the report of these lists
abbrev pub printed : ListsView → List ℕ
printed v = text_of (record { nodes = v.nodes; histories = v.histories; records = v.callers.records; plan = [] }) v.callers.ends

-- ## The lists in the bytes
-- those that the lines say, if they are printed as the bytes
abbrev pub read_back : List ℕ → Front ListsView → Option ListsView
read_back bytes (Taken view []) = if bytes_eq bytes (printed view) then Some view else None
read_back bytes (Taken view (p ∷ ps)) = None
read_back bytes (Broken left rule) = None

-- the lists of which the bytes are the report, if they are one
unfoldable pub lists_of : List ℕ → Option ListsView
lists_of bytes = read_back bytes (lists_in (pieces bytes))
