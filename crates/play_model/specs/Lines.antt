-- What each line of a script says: a declaration, an action of an actor, or an operation on a node.
use Rattle.std.specs.Prelude.{ℕ, ◌^◌, ◌+◌, ◌<◌, ◌≤◌, ◌≢◌, ◌==◌, suc, List, [], ◌∷◌, Bool, true, false, map, if◌then◌else◌}
use Rattle.journal_core.specs.Limits.{max_number}
use Rattle.edit_ops.specs.Records.{EditView}
use Rattle.edit_ops.specs.Grammar.{IsEdit}
use Rattle.writer_core.specs.declared.task.Task.{Task}
use Rattle.writer_core.specs.declared.task.Task.TheVariants as task
use Rattle.writer_core.specs.Writer.{HasBody}
use Rattle.journal_history.specs.declared.node_ask.NodeAsk.{NodeAsk}
use Rattle.journal_history.specs.declared.node_ask.NodeAsk.TheVariants.{Kill, Restart, Arm}
use Rattle.play_script.specs.Scripts.{ScriptView}
use Rattle.play_script.specs.declared.script_line.ScriptLine.{ScriptLine}
use Rattle.play_script.specs.declared.script_line.ScriptLine.TheVariants as line
use Rattle.mesh.specs.Makers.{IsOperation}

-- What an actor is told to do: a task; to lose its next calls to a node, the request or the reply
-- of the one with this number; to send a copy of an earlier call. With names: to submit edits in
-- order and sync them; to purge as its images allow; to tail; to save its namespace; to begin again
-- from its newest image.
pub data Action : Type 0 where
  Does : (task : Task) → Action
  DoDrop : (node call : ℕ) → Action
  DoMute : (node call : ℕ) → Action
  DoLate : (node call : ℕ) → Action
  Submits : (edits : List EditView) → Action
  Trims : (extra : ℕ) → Action
  DoTail : Action
  Saves : Action
  Reloads : Action

pub data Line : Type 0 where
  Declares : (name : List ℕ) → Line
  Acts : (actor : ℕ) (action : Action) → Line
  Operates : (node : ℕ) (ask : NodeAsk) → Line

-- what a line says
abbrev pub line_of : ScriptLine → Line
line_of (line.Declare name) = Declares name
line_of (line.Takeover actor) = Acts actor (Does task.Takeover)
line_of (line.Roll actor) = Acts actor (Does task.Roll)
line_of (line.Close actor) = Acts actor (Does task.Close)
line_of (line.Log actor bodies) = Acts actor (Does (task.Log bodies))
line_of (line.Edits actor edits) = Acts actor (Submits edits)
line_of (line.Purge actor min) = Acts actor (Does (task.Purge min))
line_of (line.Trim actor extra) = Acts actor (Trims extra)
line_of (line.Tail actor) = Acts actor DoTail
line_of (line.Checkpoint actor) = Acts actor Saves
line_of (line.Reload actor) = Acts actor Reloads
line_of (line.Drop actor node call) = Acts actor (DoDrop node call)
line_of (line.Mute actor node call) = Acts actor (DoMute node call)
line_of (line.Late actor node call) = Acts actor (DoLate node call)
line_of (line.Kill node) = Operates node Kill
line_of (line.Restart node) = Operates node Restart
line_of (line.Arm node calls stop) = Operates node (Arm calls stop)

abbrev pub lines_of : ScriptView → List Line
lines_of s = map line_of s.lines

-- how many actors are declared
unfoldable pub count_actors : List Line → ℕ
count_actors [] = 0
count_actors (Declares name ∷ ls) = suc (count_actors ls)
count_actors (Acts actor action ∷ ls) = count_actors ls
count_actors (Operates node ask ∷ ls) = count_actors ls

-- the names that are declared
unfoldable pub names_in : List Line → List (List ℕ)
names_in [] = []
names_in (Declares name ∷ ls) = name ∷ names_in ls
names_in (Acts actor action ∷ ls) = names_in ls
names_in (Operates node ask ∷ ls) = names_in ls

-- the actions of one actor
unfoldable pub actions_of : ℕ → List Line → List Action
actions_of c [] = []
actions_of c (Declares name ∷ ls) = actions_of c ls
actions_of c (Acts actor action ∷ ls) = if actor == c then action ∷ actions_of c ls else actions_of c ls
actions_of c (Operates node ask ∷ ls) = actions_of c ls

-- what the operator does, and to which node
pub record Operation : Type 0 where
  pub node : ℕ
  pub ask : NodeAsk

unfoldable pub operations_in : List Line → List Operation
operations_in [] = []
operations_in (Declares name ∷ ls) = operations_in ls
operations_in (Acts actor action ∷ ls) = operations_in ls
operations_in (Operates node ask ∷ ls) = record { node = node; ask = ask } ∷ operations_in ls

-- ## Lines that can be played
abbrev pub AreEdits : List EditView → Type 0
AreEdits [] = Unit {0}
AreEdits (e ∷ es) = IsEdit e × AreEdits es

-- with names an actor logs what it submits, and purges by its images
abbrev pub IsNamesTask : Task → Type 0
IsNamesTask task.Takeover = Unit {0}
IsNamesTask task.Roll = Unit {0}
IsNamesTask task.Close = Unit {0}
IsNamesTask (task.Log bodies) = ⊥
IsNamesTask (task.Purge min) = ⊥

-- a task of a script with names or without
abbrev pub IsTask : Bool → Task → Type 0
IsTask true t = IsNamesTask t
IsTask false t = HasBody t

abbrev pub WithNames : Bool → Type 0 → Type 0
WithNames true A = A
WithNames false A = ⊥

-- a log has a body, calls are counted from 1, and something is submitted
abbrev pub IsAction : Bool → Action → Type 0
IsAction named (Does t) = IsTask named t
IsAction named (DoDrop node call) = 1 ≤ call
IsAction named (DoMute node call) = 1 ≤ call
IsAction named (DoLate node call) = 1 ≤ call
IsAction named (Submits edits) = WithNames named ((edits ≢ []) × AreEdits edits)
IsAction named (Trims extra) = WithNames named (Unit {0})
IsAction named DoTail = WithNames named (Unit {0})
IsAction named Saves = WithNames named (Unit {0})
IsAction named Reloads = WithNames named (Unit {0})

unfoldable pub AreActions : Bool → List Action → Type 0
AreActions named [] = Unit {0}
AreActions named (d ∷ ds) = IsAction named d × AreActions named ds

-- where so many actors were declared before
unfoldable pub ArePlayable : Bool → ℕ → ℕ → List Line → Type 0
ArePlayable named nodes actors [] = Unit {0}
ArePlayable named nodes actors (Declares name ∷ ls) = ArePlayable named nodes (actors + 1) ls
ArePlayable named nodes actors (Acts actor action ∷ ls) = (actor < actors) × IsAction named action × ArePlayable named nodes actors ls
ArePlayable named nodes actors (Operates node ask ∷ ls) = (1 ≤ node) × (node ≤ nodes) × IsOperation ask × ArePlayable named nodes actors ls

-- an actor with names asks a node
abbrev pub HasNodes : Bool → ℕ → Type 0
HasNodes true nodes = 1 ≤ nodes
HasNodes false nodes = Unit {0}

-- there is a node, and each line speaks of what is there
pub record IsPlayable (s : ScriptView) : Type 0 where
  pub nodes : 1 ≤ s.nodes
  pub lines : ArePlayable s.named s.nodes 0 (lines_of s)

-- ## Numbers that the program can hold
-- a mark is of a node that is there, and counts up to 2 ^ 62
abbrev pub IsInRange : ℕ → ScriptLine → Type 0
IsInRange nodes (line.Drop actor node call) = (1 ≤ node) × (node ≤ nodes) × (call ≤ max_number)
IsInRange nodes (line.Mute actor node call) = (1 ≤ node) × (node ≤ nodes) × (call ≤ max_number)
IsInRange nodes (line.Late actor node call) = (1 ≤ node) × (node ≤ nodes)
IsInRange nodes _ = Unit {0}

unfoldable pub AreInRange : ℕ → List ScriptLine → Type 0
AreInRange nodes [] = Unit {0}
AreInRange nodes (l ∷ ls) = IsInRange nodes l × AreInRange nodes ls

-- the operator's number, after those of all actors, is a u32
pub record NumbersFit (s : ScriptView) : Type 0 where
  pub operator : count_actors (lines_of s) < 2 ^ 32
  pub lines : AreInRange s.nodes s.lines
