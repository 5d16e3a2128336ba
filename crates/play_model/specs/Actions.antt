-- An actor over its seats: what is kept of it, and how far its actions lead it, whatever it hears.
use Rattle.std.specs.Prelude.{◌≡◌, ◌≢◌, ℕ, ◌≤◌, Bool, true, false, List, [], Option, Some, None, is_some}
use Rattle.journal_core.specs.Limits.{max_number}
use Rattle.writer_core.specs.declared.task.Task.{Task}
use Rattle.writer_core.specs.declared.turn.Turn.{Turn}
use Rattle.writer_core.specs.Views.{WriterView}
use Rattle.writer_core.specs.Writer.{new_writer, next_call, is_under_way}
use Rattle.journal_history.specs.declared.record.Record.{Record}
use Rattle.play_script.specs.declared.script_line.ScriptLine.{ScriptLine}
use Rattle.play_script.specs.declared.script_line.ScriptLine.TheVariants as line
use Rattle.play_calls.specs.Logs.{LogView}
use Rattle.play_model.specs.Lines.{Action, DoDrop, DoMute, Line, Declares, Acts, Operates}
use Rattle.play_names.specs.ResultLists.{TurnFits}
use Rattle.play_names.specs.Holding.{Holding, Work, Free, Tails, Logs, Broken}
use Rattle.play_model.specs.Actor.{Actor, hand_action, turn_taken, holding_if, is_broken_holding, IsLed, actor_after}
use Rattle.play_model.specs.KeptActor.{KeptActor, as_actor, resting}
use Rattle.play_model.specs.Ready.{IsReady, is_going}

-- what is kept of an actor by its writer, what it holds, and its log
abbrev pub kept_of : WriterView → Option Holding → LogView → KeptActor
kept_of w holds log = record { name = []; writer = w; holds = holds; past = log.past; marks = log.marks }

-- along some lines the one actor becomes the other
pub record LedTo (x y : Actor) : Type 0 where
  pub lines : List Record
  pub led : IsLed x lines
  pub after : actor_after x lines ≡ y

-- ## A task's calls so far; the last one had this turn
-- all calls are the writer's, while no tail is under way
abbrev pub is_tail : Work → Bool
is_tail Free = false
is_tail (Tails until node told) = true
is_tail (Logs ahead dues) = false
is_tail Broken = false

abbrev pub IsNoTail : Option Holding → Type 0
IsNoTail None = Unit {0}
IsNoTail (Some h) = is_tail h.work ≡ false

pub record GoesFar (nodes : ℕ) (old new : KeptActor) (turn : Turn) : Type 0 where
  pub ready : IsReady nodes new.writer
  pub holds : new.holds ≡ old.holds
  pub leads : (t : Task) → IsNoTail old.holds → LedTo (as_actor (Some t) [] old) (turn_taken turn (Some t) (as_actor (Some t) [] new))
  pub tells : is_under_way new.writer.phase ≡ is_going turn
  pub fits : TurnFits turn

-- ## Actions
-- nothing is under way, or a bad entry was met
abbrev pub is_idle_work : Work → Bool
is_idle_work Free = true
is_idle_work (Tails until node told) = false
is_idle_work (Logs ahead dues) = false
is_idle_work Broken = true

abbrev pub IsIdleHolding : Option Holding → Type 0
IsIdleHolding None = Unit {0}
IsIdleHolding (Some h) = is_idle_work h.work ≡ true

-- no call is to be made
pub record IsIdleActor (nodes : ℕ) (k : KeptActor) : Type 0 where
  pub some : 1 ≤ nodes
  pub ready : IsReady nodes k.writer
  pub rests : next_call k.writer ≡ None
  pub holds : IsIdleHolding k.holds

pub record TakesAction (nodes : ℕ) (d : Action) (old new : KeptActor) : Type 0 where
  pub idle : IsIdleActor nodes new
  pub leads : LedTo (hand_action d (resting old)) (resting new)

-- no bad entry was met
abbrev pub IsUnbroken : Option Holding → Type 0
IsUnbroken o = is_broken_holding o ≡ false

-- ## Lines
-- the actor of a line, and its action
abbrev pub action_of : Line → Option (ℕ × Action)
action_of (Declares name) = None
action_of (Acts actor action) = Some (actor, action)
action_of (Operates node ask) = None

-- the action was taken, if there is one
abbrev pub TakesIf : ℕ → Option (ℕ × Action) → KeptActor → KeptActor → Type 0
TakesIf nodes None old new = new ≡ old
TakesIf nodes (Some d) old new = TakesAction nodes d.1 old new

abbrev pub mark_action : Bool → ℕ → ℕ → Action
mark_action true node call = DoMute node call
mark_action false node call = DoDrop node call

-- the line may come in a script with names or without, where there are so many nodes
abbrev pub MayCome : Bool → ℕ → ScriptLine → Type 0
MayCome named nodes (line.Declare name) = Unit {0}
MayCome named nodes (line.Takeover actor) = Unit {0}
MayCome named nodes (line.Roll actor) = Unit {0}
MayCome named nodes (line.Close actor) = Unit {0}
MayCome named nodes (line.Log actor bodies) = (named ≡ false) × (bodies ≢ [])
MayCome named nodes (line.Edits actor edits) = (named ≡ true) × (edits ≢ [])
MayCome named nodes (line.Purge actor min) = named ≡ false
MayCome named nodes (line.Trim actor extra) = named ≡ true
MayCome named nodes (line.Tail actor) = named ≡ true
MayCome named nodes (line.Checkpoint actor) = named ≡ true
MayCome named nodes (line.Reload actor) = named ≡ true
MayCome named nodes (line.Drop actor node call) = (1 ≤ call) × (1 ≤ node) × (node ≤ nodes) × (call ≤ max_number)
MayCome named nodes (line.Mute actor node call) = (1 ≤ call) × (1 ≤ node) × (node ≤ nodes) × (call ≤ max_number)
MayCome named nodes (line.Late actor node call) = (1 ≤ call) × (1 ≤ node) × (node ≤ nodes)
MayCome named nodes (line.Kill node) = (1 ≤ node) × (node ≤ nodes)
MayCome named nodes (line.Restart node) = (1 ≤ node) × (node ≤ nodes)
MayCome named nodes (line.Arm node calls stop) = (1 ≤ node) × (node ≤ nodes)

-- ## What contracts see of an actor
pub record ActorView : Type 0 where
  pub writer : WriterView
  -- what it holds, in a script with names
  pub holds : Option Holding

abbrev pub new_actor_view : Bool → ℕ → ActorView
new_actor_view named nodes = record { writer = new_writer nodes; holds = holding_if named }

abbrev pub has_names : ActorView → Bool
has_names a = is_some a.holds

-- what is kept of it, with its log
abbrev pub kept_by : ActorView → LogView → KeptActor
kept_by a log = kept_of a.writer a.holds log
