-- Three nodes, one writer, three edits: the script, its mesh and its ends written out.
use Rattle.std.specs.Prelude.{ℕ, false, List, [], ◌∷◌, ◌++◌, map, codes, None}
use Rattle.journal_core.specs.declared.request.Request.{Request}
use Rattle.journal_core.specs.declared.request.Request.TheVariants as request
use Rattle.journal_core.specs.declared.reply.Reply.{Reply}
use Rattle.journal_core.specs.declared.reply.Reply.TheVariants as reply
use Rattle.journal_history.specs.declared.history_line.HistoryLine.{HistoryLine}
use Rattle.journal_history.specs.declared.record.Record.{Record}
use Rattle.journal_history.specs.declared.record.Record.TheVariants as line
use Rattle.journal_history.specs.declared.record.Told.TheVariants as told
use Rattle.journal_history.specs.Entries.{Entry, Answer, Heard}
use Rattle.mesh.specs.declared.whole.Mesh.{Mesh}
use Rattle.ns_tree.specs.declared.end.End.{End}
use Rattle.play_script.specs.Scripts.{ScriptView}
use Rattle.play_script.specs.declared.script_line.ScriptLine.TheVariants as script
use Rattle.play_model.specs.Plays.{Play}
use Rattle.play_model.specs.Lines.{lines_of}
use Rattle.play_laws.specs.PlayExamples.{played, head, edit, batch, tells}

unfoldable pub first_script : ScriptView
first_script =
    record {
      named = false;
      nodes = 3;
      lines =
          script.Declare (codes "a") ∷ script.Takeover 0 ∷ script.Log 0 (edit 10) ∷ script.Log 0 (edit 11) ∷ script.Log 0 (edit 12) ∷ [];
    }

unfoldable pub first_play : Play
first_play = played first_script.nodes (lines_of first_script)

-- a request, and what each node answers
pub record Exchange : Type 0 where
  pub request : Request
  pub reply : Reply

abbrev pub exchange : Request → Reply → Exchange
exchange request reply = record { request = request; reply = reply }

abbrev pub asking : Exchange
asking = exchange request.State (reply.State 0)

abbrev pub proposing : Exchange
proposing = exchange (request.NewEpoch 1) (reply.NewEpoch None)

abbrev pub starting : Exchange
starting = exchange (request.Start (head 1 1 0) 1) reply.Ok

abbrev pub opening : Exchange
opening = exchange (request.Journal (head 1 2 0) 1 (batch 1 (edit 24))) reply.Ok

abbrev pub first_edit : Exchange
first_edit = exchange (request.Journal (head 1 3 1) 1 (batch 2 (edit 10))) reply.Ok

abbrev pub second_edit : Exchange
second_edit = exchange (request.Journal (head 1 4 2) 1 (batch 3 (edit 11))) reply.Ok

abbrev pub third_edit : Exchange
third_edit = exchange (request.Journal (head 1 5 3) 1 (batch 4 (edit 12))) reply.Ok

-- what each node lists
abbrev pub listed_by_node : List Exchange → List HistoryLine
listed_by_node xs = map (λ x. tells 0 x.request x.reply) xs

unfoldable pub first_history : List HistoryLine
first_history = listed_by_node (asking ∷ proposing ∷ starting ∷ opening ∷ first_edit ∷ second_edit ∷ third_edit ∷ [])

-- what the writer lists of a round, and of a result
abbrev pub called : ℕ → Exchange → Record
called node x = line.Call node x.request (told.Reply x.reply)

abbrev pub round_of : Exchange → List Record
round_of x = called 1 x ∷ called 2 x ∷ called 3 x ∷ []

unfoldable pub first_takeover : List Record
first_takeover = round_of asking ++ round_of proposing ++ round_of starting ++ round_of opening ++ line.Outcome (codes "takeover 1 1") ∷ []

unfoldable pub first_record : List Record
first_record =
    first_takeover
    ++ round_of first_edit ++ line.Outcome (codes "acked 2") ∷ round_of second_edit
    ++ line.Outcome (codes "acked 3") ∷ round_of third_edit ++ line.Outcome (codes "acked 4") ∷ []

unfoldable pub first_mesh : Mesh
first_mesh = record { nodes = 3; histories = first_history ∷ first_history ∷ first_history ∷ []; records = first_record ∷ [] ∷ []; plan = [] ∷ [] }

unfoldable pub first_ends : List End
first_ends = record { name = codes "a"; last = None } ∷ []

-- its moving entries: what was asked of all nodes in a round, from the proposal on
abbrev pub moved_by : ℕ → Exchange → Entry
moved_by node x = record { node = node; move = Answer 0 Heard x.request x.reply }

abbrev pub moved_in : Exchange → List Entry
moved_in x = moved_by 1 x ∷ moved_by 2 x ∷ moved_by 3 x ∷ []

unfoldable pub first_entries : List Entry
first_entries =
    moved_in proposing ++ moved_in starting ++ moved_in opening ++ moved_in first_edit ++ moved_in second_edit ++ moved_in third_edit
