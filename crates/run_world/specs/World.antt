-- The journal world, event by event: nodes with their armings, a writer for each actor, and all
-- that reached the nodes.
use Rattle.std.specs.Prelude.{ℕ, ◌-◌, ◌<◌, ◌≤◌, ◌==◌, ◌&&◌, Bool, true, false, List, [], ◌∷◌, ◌++◌, map, filter, replicate, slice_index_or, slice_set, Option, Some, None}
use Rattle.journal_core.specs.declared.request.Request.{Request}
use Rattle.journal_core.specs.declared.request.Request.TheVariants as request
use Rattle.journal_core.specs.declared.heard.Heard.{Heard}
use Rattle.journal_core.specs.declared.heard.Heard.TheVariants.{Silent}
use Rattle.writer_core.specs.declared.task.Task.{Task}
use Rattle.writer_core.specs.declared.task.Begun.{Begun}
use Rattle.writer_core.specs.declared.task.Begun.TheVariants as begun
use Rattle.writer_core.specs.Views.{WriterView}
use Rattle.writer_core.specs.Writer.{writer_begun, is_under_way, next_call, writer_heard, writer_stopped, HasBody}
use Rattle.run_safety.specs.declared.event.Fate.{Fate}
use Rattle.run_safety.specs.declared.event.Fate.TheVariants as fate
use Rattle.run_safety.specs.declared.event.Event.{Event}
use Rattle.run_safety.specs.declared.event.Event.TheVariants.{Begin, Call, Late, Kill, Restart, Arm, GiveUp, Checkpoint}
use Rattle.run_world.specs.declared.seen.Seen.{Seen}
use Rattle.run_world.specs.declared.seen.Seen.TheVariants as seen
use Rattle.journal_history.specs.declared.node_ask.NodeAsk.{NodeAsk}
use Rattle.journal_history.specs.declared.node_ask.NodeAsk.TheVariants as ask
use Rattle.journal_history.specs.declared.node_ask.NodeAnswer.{NodeAnswer}
use Rattle.journal_history.specs.declared.node_ask.NodeAnswer.TheVariants as answer
use Rattle.journal_history.specs.declared.history_line.HistoryLine.{HistoryLine}
use Rattle.journal_history.specs.Cell.{Cell, fresh_cell, Taken, cell_takes, arm_at_once, heard_of}
use Rattle.run_safety.specs.Actings.{Acting, fresh_acting, was_made}
use Rattle.journal_history.specs.Moving.{Placed}
use Rattle.journal_history.specs.Same.{same_request}

pub record World : Type 0 where
  pub nodes : ℕ
  pub cells : List Cell
  pub actors : List Acting
  -- the operator's number as a caller, after those of the actors
  pub operator : ℕ
  -- all that reached the nodes, in order
  pub trace : List Placed

unfoldable pub new_world : ℕ → ℕ → World
new_world nodes actors = record { nodes = nodes; cells = replicate nodes fresh_cell; actors = replicate actors (fresh_acting nodes); operator = actors; trace = [] }

abbrev pub cell_at : ℕ → World → Cell
cell_at node w = slice_index_or w.cells (node - 1) fresh_cell

abbrev pub acting_at : ℕ → World → Acting
acting_at actor w = slice_index_or w.actors actor (fresh_acting w.nodes)

-- a node's history
unfoldable pub history_in : ℕ → World → List HistoryLine
history_in node w = map (λ x. x.line) (filter (λ x. x.node == node) w.trace)

-- what is seen of an event, and the world after it
pub record Stepped : Type 0 where
  pub seen : Seen
  pub world : World

abbrev pub answer_done : World → Stepped
answer_done w = record { seen = seen.Done; world = w }

abbrev pub not_next : World → Stepped
not_next w = record { seen = seen.NotNext; world = w }

-- ## What reaches a node
abbrev pub taken_at : ℕ → Option ℕ → NodeAsk → World → Taken
taken_at node stop ask w = cell_takes (arm_at_once stop (cell_at node w)) ask

unfoldable pub node_asked : ℕ → ℕ → Bool → Option ℕ → NodeAsk → World → World
node_asked node caller muted stop ask w =
    record w {
      cells = slice_set w.cells (node - 1) (taken_at node stop ask w).cell;
      trace = w.trace ++ record { node = node; line = record { caller = caller; ask = ask; answer = (taken_at node stop ask w).answer }; muted = muted } ∷ [];
    }

-- ## A task begins
unfoldable pub with_acting : ℕ → Acting → World → World
with_acting actor x w = record w { actors = slice_set w.actors actor x }

abbrev pub with_writer : WriterView → Acting → Acting
with_writer v x = record x { writer = v }

abbrev pub task_begun : Begun → ℕ → WriterView → World → Stepped
task_begun begun.Going actor v w = answer_done (with_acting actor (with_writer v (acting_at actor w)) w)
task_begun begun.NotActive actor v w = not_next w
task_begun (begun.TooLong number) actor v w = not_next w

abbrev pub task_begins : Bool → ℕ → Task → World → Stepped
task_begins true actor task w = not_next w
task_begins false actor task w = task_begun (writer_begun (acting_at actor w).writer task).begun actor (writer_begun (acting_at actor w).writer task).writer w

-- ## A call
-- what its caller hears
abbrev pub call_heard : Fate → ℕ → Request → World → Heard
call_heard fate.Heard node r w = heard_of (taken_at node None (ask.Act false r) w).answer
call_heard fate.Muted node r w = Silent
call_heard fate.Dropped node r w = Silent
call_heard (fate.Stopped keep) node r w = heard_of (taken_at node (Some keep) (ask.Act false r) w).answer

-- what becomes of its node
unfoldable pub call_reached : Fate → ℕ → ℕ → Request → World → World
call_reached fate.Heard actor node r w = node_asked node actor false None (ask.Act false r) w
call_reached fate.Muted actor node r w = node_asked node actor true None (ask.Act false r) w
call_reached fate.Dropped actor node r w = w
call_reached (fate.Stopped keep) actor node r w = node_asked node actor false (Some keep) (ask.Act false r) w

abbrev pub with_call : ℕ → Request → Acting → Acting
with_call node r x = record x { calls = x.calls ++ record { node = node; request = r } ∷ [] }

-- anybody may read, at any time
abbrev pub is_reading : Request → Bool
is_reading (request.Read from) = true
is_reading request.Manifest = true
is_reading _ = false

abbrev pub is_call : ℕ → Request → Option (ℕ × Request) → Bool
is_call node r None = false
is_call node r (Some c) = (c.0 == node) && same_request c.1 r

-- a reader hears the answer, or the writer whose next call it is
abbrev pub called_by : Bool → Bool → Fate → ℕ → ℕ → Request → World → Stepped
called_by true next fate actor node r w =
    record { seen = seen.Heard (call_heard fate node r w); world = with_acting actor (with_call node r (acting_at actor w)) (call_reached fate actor node r w) }
called_by false true fate actor node r w =
    record {
      seen = seen.Heard (call_heard fate node r w);
      world = with_acting actor (with_writer (writer_heard (acting_at actor w).writer node (call_heard fate node r w)).writer
          (with_call node r (acting_at actor w))) (call_reached fate actor node r w);
    }
called_by false false fate actor node r w = not_next w

abbrev pub take_call : Fate → ℕ → ℕ → Request → World → Stepped
take_call fate actor node r w = called_by (is_reading r) (is_call node r (next_call (acting_at actor w).writer)) fate actor node r w

-- ## A late copy
abbrev pub copied_when : Bool → ℕ → ℕ → Request → Option ℕ → World → Stepped
copied_when true actor node r stop w = answer_done (node_asked node actor false stop (ask.Act true r) w)
copied_when false actor node r stop w = not_next w

-- ## A kill, a restart, an arming
abbrev pub seen_of : NodeAnswer → Seen
seen_of answer.Idle = seen.Idle
seen_of _ = seen.Done

abbrev pub take_operation : ℕ → NodeAsk → World → Stepped
take_operation node ask w = record { seen = seen_of (taken_at node None ask w).answer; world = node_asked node w.operator false None ask w }

-- ## One event
unfoldable pub world_step : World → Event → Stepped
world_step w (Begin actor task) = task_begins (is_under_way (acting_at actor w).writer.phase) actor task w
world_step w (Call actor node r fate) = take_call fate actor node r w
world_step w (Late actor node r stop) = copied_when (was_made node r (acting_at actor w).calls) actor node r stop w
world_step w (Kill node) = take_operation node ask.Kill w
world_step w (Restart node) = take_operation node ask.Restart w
world_step w (Arm node calls stop) = take_operation node (ask.Arm calls stop) w
world_step w (GiveUp actor) = answer_done (with_acting actor (with_writer (writer_stopped (acting_at actor w).writer) (acting_at actor w)) w)
world_step w (Checkpoint actor) = answer_done w

unfoldable pub world_after : World → List Event → World
world_after w [] = w
world_after w (e ∷ es) = world_after (world_step w e).world es

-- ## What may come: nodes of 1 to n, actors below their number, logs with a body, armings that count from 1
abbrev pub IsWithin : ℕ → ℕ → Type 0
IsWithin n node = (1 ≤ node) × (node ≤ n)

abbrev pub IsEvent : ℕ → ℕ → Event → Type 0
IsEvent n actors (Begin actor task) = (actor < actors) × HasBody task
IsEvent n actors (Call actor node r fate) = (actor < actors) × IsWithin n node
IsEvent n actors (Late actor node r stop) = (actor < actors) × IsWithin n node
IsEvent n actors (Kill node) = IsWithin n node
IsEvent n actors (Restart node) = IsWithin n node
IsEvent n actors (Arm node calls stop) = IsWithin n node × (1 ≤ calls)
IsEvent n actors (GiveUp actor) = actor < actors
IsEvent n actors (Checkpoint actor) = actor < actors

abbrev pub AreEvents : ℕ → ℕ → List Event → Type 0
AreEvents n actors [] = Unit {0}
AreEvents n actors (e ∷ es) = IsEvent n actors e × AreEvents n actors es
