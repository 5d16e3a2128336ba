-- What the program keeps of an actor, and the actor that this is.
use Rattle.std.specs.Prelude.{ℕ, ◌+◌, ◌-◌, Bool, List, [], ◌∷◌, ◌++◌, map, Option, Some, None, slice_get}
use Rattle.journal_core.specs.declared.request.Request.{Request}
use Rattle.writer_core.specs.declared.task.Task.{Task}
use Rattle.writer_core.specs.declared.turn.Turn.{Turn}
use Rattle.writer_core.specs.declared.turn.Turn.TheVariants as turn
use Rattle.writer_core.specs.Views.{WriterView}
use Rattle.writer_core.specs.Writer.{new_writer, writer_heard}
use Rattle.journal_history.specs.declared.record.Record.{Record}
use Rattle.journal_history.specs.declared.record.Record.TheVariants.{Call, Late, Outcome}
use Rattle.journal_history.specs.declared.record.Told.{Told}
use Rattle.journal_history.specs.declared.mark.Mark.{Mark}
use Rattle.journal_history.specs.declared.mark.MarkKind.{MarkKind}
use Rattle.journal_history.specs.declared.mark.MarkKind.TheVariants as kind
use Rattle.mesh.specs.Marks.{mark, calls_to, next_number}
use Rattle.mesh.specs.Makers.{heard_of}
use Rattle.play_names.specs.Holding.{Holding}
use Rattle.play_model.specs.Actor.{Actor, holding_if}

-- an actor's name, its writer, what it holds in a script with names, its record so far, and its
-- marks
pub record KeptActor : Type 0 where
  pub name : List ℕ
  pub writer : WriterView
  pub holds : Option Holding
  pub past : List Record
  pub marks : List Mark

-- with names or without, of that many nodes
abbrev pub new_actor : Bool → ℕ → List ℕ → KeptActor
new_actor named nodes name = record { name = name; writer = new_writer nodes; holds = holding_if named; past = []; marks = [] }

-- ## One call
abbrev pub hears : KeptActor → ℕ → Request → Told → KeptActor
hears a node r t = record a { writer = (writer_heard a.writer node (heard_of t)).writer; past = a.past ++ Call node r t ∷ [] }

-- ## Results
abbrev pub say_texts : KeptActor → List (List ℕ) → KeptActor
say_texts a texts = record a { past = a.past ++ map (λ text. Outcome text) texts }

-- ## Marks and copies
-- one of the actor's next calls to the node is marked, counted from 1
abbrev pub loses : KeptActor → ℕ → ℕ → MarkKind → KeptActor
loses a node call loss = record a { marks = a.marks ++ mark node (next_number node a.past + (call - 1)) loss ∷ [] }

-- the request of one of the actor's calls to the node so far, counted from 1
abbrev pub earlier_call : KeptActor → ℕ → ℕ → Option Request
earlier_call a node call = slice_get (calls_to node a.past) (call - 1)

abbrev pub copies : KeptActor → ℕ → ℕ → Request → KeptActor
copies a node call r = record a { past = a.past ++ Late node r ∷ []; marks = a.marks ++ mark node call kind.Late ∷ [] }

-- ## The actor that this is
-- with the task under way and the results that are due
abbrev pub as_actor : Option Task → List (List ℕ) → KeptActor → Actor
as_actor doing texts a =
    record { todo = []; doing = doing; writer = a.writer; holds = a.holds; says = texts; copies = None; past = a.past; marks = a.marks }

abbrev pub resting : KeptActor → Actor
resting a = as_actor None [] a

-- what is under way once a call had this turn
abbrev pub doing_after : Task → Turn → Option Task
doing_after t turn.Going = Some t
doing_after t _ = None
