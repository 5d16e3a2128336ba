-- The grammar of scripts: how a script is spelled, and which texts are spelled so.
use Rattle.std.specs.Prelude.{ℕ, ◌≡◌, ◌≢◌, ◌≤◌, ◌<◌, List, [], ◌∷◌, ◌++◌, Bool, true, false, not, None, ◌==◌, if◌then◌else◌, length, codes, map, decimal}
use Rattle.journal_core.specs.Nodes.{PermittedNodes}
use Rattle.std.specs.List.{list_all, AllByRecursion}
use Rattle.base_words.specs.Hex.{hex_text}
use Rattle.journal_history.specs.declared.stop.Stop.TheVariants as stop
use Rattle.play_script.specs.declared.task_word.TaskWord.TheVariants as task
use Rattle.play_script.specs.declared.standby_word.StandbyWord.TheVariants as standby
use Rattle.play_script.specs.declared.call_word.CallWord.TheVariants as call
use Rattle.play_script.specs.declared.node_word.NodeWord.TheVariants as node
use Rattle.play_script.specs.declared.kind.Kind.{Kind}
use Rattle.play_script.specs.declared.kind.Kind.TheVariants as kind
use Rattle.play_script.specs.declared.script_line.ScriptLine.{ScriptLine}
use Rattle.play_script.specs.declared.script_line.ScriptLine.TheVariants as line
use Rattle.play_script.specs.Scripts.{ScriptView}
use Rattle.play_script.specs.Views.{SaidView}
use Rattle.play_script.specs.Lines.{Line, Ended, Open, lines_of, ended, longest_line, is_whole}
use Rattle.base_words.specs.Words.{joined, words_of}
use Rattle.journal_text.specs.Lines.{IsBody}
use Rattle.play_script.specs.Words.{word_at, is_name, actor_of, name_at, greatest, choice_word}
use Rattle.play_script.specs.Edits.{edits_text, IsSayable}

-- ## The kinds of line
abbrev pub declaration : Bool → List ℕ
declaration true = codes "name"
declaration false = codes "writer"

-- the first word of such a line, in a script with namespaces or without
abbrev pub keyword : Bool → Kind → List ℕ
keyword named kind.Declare = declaration named
keyword named (kind.Task task.Takeover) = codes "takeover"
keyword named (kind.Task task.Roll) = codes "roll"
keyword named (kind.Task task.Close) = codes "close"
keyword named kind.Log = codes "log"
keyword named kind.Edits = codes "log"
keyword named kind.Purge = codes "purge"
keyword named kind.Trim = codes "trim"
keyword named (kind.Standby standby.Tail) = codes "tail"
keyword named (kind.Standby standby.Checkpoint) = codes "checkpoint"
keyword named (kind.Standby standby.Reload) = codes "reload"
keyword named (kind.Call call.Drop) = codes "drop"
keyword named (kind.Call call.Mute) = codes "mute"
keyword named (kind.Call call.Late) = codes "late"
keyword named (kind.Node node.Kill) = codes "kill"
keyword named (kind.Node node.Restart) = codes "restart"
keyword named kind.Stop = codes "stop"
keyword named kind.Cut = codes "cut"

-- the kind of line stands in such a script: bodies and purges in one without namespaces, edits,
-- trims and a standby's lines in one with them, and the others in both
abbrev pub belongs : Bool → Kind → Bool
belongs named kind.Log = not named
belongs named kind.Purge = not named
belongs named kind.Edits = named
belongs named kind.Trim = named
belongs named (kind.Standby word) = named
belongs named _ = true

abbrev pub kind_in : ScriptLine → Kind
kind_in (line.Declare name) = kind.Declare
kind_in (line.Takeover actor) = kind.Task task.Takeover
kind_in (line.Roll actor) = kind.Task task.Roll
kind_in (line.Close actor) = kind.Task task.Close
kind_in (line.Log actor bodies) = kind.Log
kind_in (line.Edits actor edits) = kind.Edits
kind_in (line.Purge actor min) = kind.Purge
kind_in (line.Trim actor extra) = kind.Trim
kind_in (line.Tail actor) = kind.Standby standby.Tail
kind_in (line.Checkpoint actor) = kind.Standby standby.Checkpoint
kind_in (line.Reload actor) = kind.Standby standby.Reload
kind_in (line.Drop actor i k) = kind.Call call.Drop
kind_in (line.Mute actor i k) = kind.Call call.Mute
kind_in (line.Late actor i k) = kind.Call call.Late
kind_in (line.Kill i) = kind.Node node.Kill
kind_in (line.Restart i) = kind.Node node.Restart
kind_in (line.Arm i calls (stop.Effects keep)) = kind.Stop
kind_in (line.Arm i calls (stop.DiskCalls made choice)) = kind.Cut

-- the words after the first, after lines that declared these names
abbrev pub operands : List (List ℕ) → ScriptLine → List (List ℕ)
operands names (line.Declare name) = name ∷ []
operands names (line.Takeover actor) = name_at names actor ∷ []
operands names (line.Roll actor) = name_at names actor ∷ []
operands names (line.Close actor) = name_at names actor ∷ []
operands names (line.Log actor bodies) = name_at names actor ∷ map hex_text bodies
operands names (line.Edits actor edits) = name_at names actor ∷ words_of (edits_text edits)
operands names (line.Purge actor min) = name_at names actor ∷ decimal min ∷ []
operands names (line.Trim actor extra) = name_at names actor ∷ decimal extra ∷ []
operands names (line.Tail actor) = name_at names actor ∷ []
operands names (line.Checkpoint actor) = name_at names actor ∷ []
operands names (line.Reload actor) = name_at names actor ∷ []
operands names (line.Drop actor i k) = name_at names actor ∷ decimal i ∷ decimal k ∷ []
operands names (line.Mute actor i k) = name_at names actor ∷ decimal i ∷ decimal k ∷ []
operands names (line.Late actor i k) = name_at names actor ∷ decimal i ∷ decimal k ∷ []
operands names (line.Kill i) = decimal i ∷ []
operands names (line.Restart i) = decimal i ∷ []
operands names (line.Arm i calls (stop.Effects keep)) = decimal i ∷ decimal calls ∷ decimal keep ∷ []
operands names (line.Arm i calls (stop.DiskCalls made choice)) = decimal i ∷ decimal calls ∷ decimal made ∷ choice_word choice ∷ []

-- ## What the lines so far said
-- the first line that says something told the kind of script and the number of nodes
abbrev pub nothing_said : Bool → ℕ → SaidView
nothing_said named nodes = record { named = named; nodes = nodes; names = [] }

-- one more line of that kind with these words after the first
abbrev pub said_by : SaidView → Kind → List (List ℕ) → SaidView
said_by said kind.Declare words = record { named = said.named; nodes = said.nodes; names = said.names ++ word_at words 0 ∷ [] }
said_by said _ words = said

abbrev pub said_after : SaidView → ScriptLine → SaidView
said_after said line = said_by said (kind_in line) (operands said.names line)

abbrev pub words_in : SaidView → ScriptLine → List (List ℕ)
words_in said line = keyword said.named (kind_in line) ∷ operands said.names line

abbrev pub line_text : SaidView → ScriptLine → List ℕ
line_text said line = joined (words_in said line)

-- ## The lines of a script
abbrev pub header_line : Bool → List ℕ
header_line true = codes "names "
header_line false = codes "raw "

abbrev pub first_line : Bool → ℕ → List ℕ
first_line named nodes = header_line named ++ decimal nodes

unfoldable pub texts_of : SaidView → List ScriptLine → List (List ℕ)
texts_of said [] = []
texts_of said (line ∷ lines) = line_text said line ∷ texts_of (said_after said line) lines

-- the most actors of a script
abbrev pub most_actors : ℕ
most_actors = 8

abbrev pub IsActor : SaidView → ℕ → Type 0
IsActor said actor = actor < length said.names

abbrev pub IsNode : SaidView → ℕ → Type 0
IsNode said i = (1 ≤ i) × (i ≤ said.nodes)

-- calls are counted from 1
abbrev pub IsCount : ℕ → Type 0
IsCount k = (1 ≤ k) × (k ≤ greatest)

-- what a line may say
abbrev pub HasSense : SaidView → ScriptLine → Type 0
HasSense said (line.Declare name) = (is_name name ≡ true) × (length said.names < most_actors) × (actor_of said.names name ≡ None)
HasSense said (line.Takeover actor) = IsActor said actor
HasSense said (line.Roll actor) = IsActor said actor
HasSense said (line.Close actor) = IsActor said actor
HasSense said (line.Log actor bodies) = IsActor said actor × (bodies ≢ []) × AllByRecursion IsBody bodies
HasSense said (line.Edits actor edits) = IsActor said actor × (edits ≢ []) × AllByRecursion IsSayable edits
HasSense said (line.Purge actor min) = IsActor said actor × (min ≤ greatest)
HasSense said (line.Trim actor extra) = IsActor said actor × (extra ≤ greatest)
HasSense said (line.Tail actor) = IsActor said actor
HasSense said (line.Checkpoint actor) = IsActor said actor
HasSense said (line.Reload actor) = IsActor said actor
HasSense said (line.Drop actor i k) = IsActor said actor × IsNode said i × IsCount k
HasSense said (line.Mute actor i k) = IsActor said actor × IsNode said i × IsCount k
HasSense said (line.Late actor i k) = IsActor said actor × IsNode said i × IsCount k
HasSense said (line.Kill i) = IsNode said i
HasSense said (line.Restart i) = IsNode said i
HasSense said (line.Arm i calls (stop.Effects keep)) = IsNode said i × IsCount calls × (keep ≤ greatest)
HasSense said (line.Arm i calls (stop.DiskCalls made choice)) = IsNode said i × IsCount calls × (made ≤ greatest)

pub record MaySay (said : SaidView) (line : ScriptLine) : Type 0 where
  pub here : belongs said.named (kind_in line) ≡ true
  pub sense : HasSense said line
  pub fits : length (line_text said line) ≤ longest_line

unfoldable pub AreLines : SaidView → List ScriptLine → Type 0
AreLines said [] = Unit {0}
AreLines said (line ∷ lines) = MaySay said line × AreLines (said_after said line) lines

-- a script: a permitted number of nodes, and lines that make sense in their places
pub record IsScript (s : ScriptView) : Type 0 where
  pub permitted : PermittedNodes s.nodes
  pub lines : AreLines (nothing_said s.named s.nodes) s.lines

-- a script's lines, without comments and empty lines
abbrev pub script_lines : ScriptView → List (List ℕ)
script_lines s = first_line s.named s.nodes ∷ texts_of (nothing_said s.named s.nodes) s.lines

-- its text, without comments and empty lines
abbrev pub script_text : ScriptView → List ℕ
script_text s = ended (script_lines s)

-- ## The texts of a script
-- an empty line or a comment
abbrev pub is_silent : List ℕ → Bool
is_silent [] = true
is_silent (b ∷ bs) = b == 35

abbrev pub unless_silent : List ℕ → List (List ℕ) → List (List ℕ)
unless_silent line lines = if is_silent line then lines else line ∷ lines

-- the lines that say something
abbrev pub lines_that_say : List Line → List (List ℕ)
lines_that_say [] = []
lines_that_say (Ended line ∷ lines) = unless_silent line (lines_that_say lines)
lines_that_say (Open line ∷ lines) = unless_silent line (lines_that_say lines)

-- the bytes are whole lines, and those that say something are the script's, in order
pub record IsScriptText (bytes : List ℕ) (s : ScriptView) : Type 0 where
  pub whole : list_all is_whole (lines_of bytes) ≡ true
  pub says : lines_that_say (lines_of bytes) ≡ script_lines s
  pub script : IsScript s
