-- A world that keeps each node's history in place of the one trace: what contracts see of it, which
-- worlds it stands for, and one event of it.
use Rattle.std.specs.Prelude.{ℕ, ◌-◌, ◌≡◌, Bool, true, false, List, [], ◌++◌, length, map, replicate, slice_index_or, slice_set, Option}
use Rattle.journal_core.specs.declared.request.Request.{Request}
use Rattle.journal_core.specs.declared.heard.Heard.{Heard}
use Rattle.writer_core.specs.declared.task.Begun.{Begun}
use Rattle.writer_core.specs.declared.task.Begun.TheVariants as begun
use Rattle.writer_core.specs.Writer.{Began}
use Rattle.run_safety.specs.declared.event.Fate.{Fate}
use Rattle.run_safety.specs.declared.event.Event.{Event}
use Rattle.run_world.specs.declared.seen.Seen.{Seen}
use Rattle.run_world.specs.declared.seen.Seen.TheVariants as seen
use Rattle.journal_history.specs.declared.node_ask.NodeAsk.{NodeAsk}
use Rattle.journal_history.specs.declared.node_ask.NodeAsk.TheVariants.{Act}
use Rattle.journal_history.specs.declared.node_ask.NodeAnswer.{NodeAnswer}
use Rattle.journal_history.specs.NodeCells.{CellView, new_cell, IsTaken, stopping_at}
use Rattle.run_world.specs.World.{World, history_in, Stepped, world_step, taken_at, node_asked, call_heard, call_reached, with_writer, IsWithin}
use Rattle.run_safety.specs.Actings.{Acting, fresh_acting}
use Rattle.journal_history.specs.Cell.{heard_of}

pub record WorldView : Type 0 where
  pub cells : List CellView
  pub actors : List Acting
  pub operator : ℕ
  -- memory was lacking in a step: nothing more is told
  pub lacks_memory : Bool

-- fresh nodes, and actors that made no call
abbrev pub new_view : ℕ → ℕ → WorldView
new_view nodes actors = record { cells = replicate nodes new_cell; actors = replicate actors (fresh_acting nodes); operator = actors; lacks_memory = false }

-- the world, but for what was listed
abbrev pub bare : WorldView → World
bare v = record { nodes = length v.cells; cells = map (λ c. c.cell) v.cells; actors = v.actors; operator = v.operator; trace = [] }

abbrev pub view_at : ℕ → List CellView → CellView
view_at node cells = slice_index_or cells (node - 1) new_cell

-- nodes, actors and operator are that world's, and each node's history is its part of the trace
pub record StandsFor (v : WorldView) (w : World) : Type 0 where
  pub world : bare v ≡ record w { trace = [] }
  pub histories : (node : ℕ) → IsWithin w.nodes node → (view_at node v.cells).history ≡ history_in node w

-- whichever world it stood for, it now stands for the one after the event, and this is what is seen
-- of the event
pub record IsStepFrom (w : World) (event : Event) (s : Seen) (new : WorldView) : Type 0 where
  pub seen : s ≡ (world_step w event).seen
  pub world : StandsFor new (world_step w event).world

abbrev pub Steps : WorldView → Event → Seen → WorldView → Type 0
Steps old event s new = (w : World) → StandsFor old w → IsStepFrom w event s new

-- ## Parts of a step
-- the cells after it are that world's, and each history grew by its part of the trace
pub record CellsGo (old : List CellView) (w : World) (new : List CellView) : Type 0 where
  pub same : length new ≡ length old
  pub cells : map (λ c. c.cell) new ≡ w.cells
  pub histories : (node : ℕ) → IsWithin (length old) node → (view_at node new).history ≡ (view_at node old).history ++ history_in node w

pub record IsStepped (old : WorldView) (t : Stepped) (s : Seen) (new : WorldView) : Type 0 where
  pub seen : s ≡ t.seen
  pub cells : CellsGo old.cells t.world new.cells
  pub actors : new.actors ≡ t.world.actors
  pub operator : new.operator ≡ old.operator

pub record IsAsked (old : List CellView) (node caller : ℕ) (stop : Option ℕ) (ask : NodeAsk) (answer : NodeAnswer) (new : List CellView) : Type 0 where
  pub taken : IsTaken (stopping_at stop (view_at node old)) caller ask answer (view_at node new)
  pub others : new ≡ slice_set old (node - 1) (view_at node new)

-- a call came where it went
pub record HasReached (old : WorldView) (fate : Fate) (actor node : ℕ) (r : Request) (heard : Heard) (new : WorldView) : Type 0 where
  pub told : heard ≡ call_heard fate node r (bare old)
  pub cells : CellsGo old.cells (call_reached fate actor node r (bare old)) new.cells

-- a task that begins, at its actor: where no round is under way, and the writer doesn't refuse it
abbrev pub begun_seen : Bool → Begun → Seen
begun_seen true b = seen.NotNext
begun_seen false begun.Going = seen.Done
begun_seen false _ = seen.NotNext

abbrev pub acting_begun : Bool → Began → Acting → Acting
acting_begun true b x = x
acting_begun false b x = with_writer b.writer x

-- as many nodes and actors as before
pub record IsSameSize (old new : WorldView) : Type 0 where
  pub cells : length new.cells ≡ length old.cells
  pub actors : length new.actors ≡ length old.actors

-- a request was delivered, whether or not its answer is heard
pub record IsDelivered (old : WorldView) (actor node : ℕ) (stop : Option ℕ) (r : Request) (heard : Heard) (new : WorldView) : Type 0 where
  pub told : heard ≡ heard_of (taken_at node stop (Act false r) (bare old)).answer
  pub cells : (muted : Bool) → CellsGo old.cells (node_asked node actor muted stop (Act false r) (bare old)) new.cells
