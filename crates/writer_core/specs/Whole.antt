-- A takeover and what follows it, in whole rounds, by the table of rounds: each round is judged by
-- what its nodes were heard to answer.
use Rattle.std.specs.Prelude.{ℕ, zero, suc, ◌+◌, List, [], ◌∷◌, Option, Some, None, Bool, true, false, ◌-◌, ◌==◌, ◌&&◌, nat_lt, slice_get}
use Rattle.journal_core.specs.declared.request.Request.{Request}
use Rattle.journal_core.specs.declared.reply.Reply.{Reply}
use Rattle.journal_core.specs.declared.heard.Heard.{Heard}
use Rattle.journal_core.specs.declared.heard.Heard.TheVariants.{Answer, Silent}
use Rattle.writer_core.specs.declared.round.Round.{Round}
use Rattle.writer_core.specs.declared.round.Round.TheVariants as round
use Rattle.writer_core.specs.declared.phase.Phase.{Phase}
use Rattle.writer_core.specs.declared.phase.Phase.TheVariants as phase
use Rattle.writer_core.specs.declared.slot.Slot.{Slot}
use Rattle.writer_core.specs.declared.slot.Slot.TheVariants.{Waiting, LeftOut, Told}
use Rattle.writer_core.specs.declared.task.Task.{Task}
use Rattle.writer_core.specs.declared.task.Begun.{Begun}
use Rattle.writer_core.specs.declared.task.Begun.TheVariants as begun
use Rattle.writer_core.specs.Views.{WriterView}
use Rattle.writer_core.specs.Rounds.{request_in, asks_all, Judgment, judgment, after_fetch}
use Rattle.writer_core.specs.Writer.{new_writer, writer_begun}

-- Who proposes which epoch, what it does then, and what it heard from which node in which round.
-- Round 0 is the proposal, and each later round is named by its serial.
pub record Takeover : Type 0 where
  pub caller : ℕ
  pub epoch : ℕ
  pub tasks : List Task
  pub heard : ℕ → ℕ → Option Reply

-- a writer in a round, and the tasks that are still to come
pub record TaskProgress : Type 0 where
  pub writer : WriterView
  pub round : Round
  pub tasks : List Task

abbrev pub heard_of : Option Reply → Heard
heard_of None = Silent
heard_of (Some answer) = Answer answer

-- the parts of the nodes from this one on, once each that was to be called was heard
unfoldable pub fill_slots : ℕ → (ℕ → Option Reply) → List Slot → List Slot
fill_slots node heard [] = []
fill_slots node heard (Waiting ∷ slots) = Told (heard_of (heard node)) ∷ fill_slots (node + 1) heard slots
fill_slots node heard (LeftOut ∷ slots) = LeftOut ∷ fill_slots (node + 1) heard slots
fill_slots node heard (Told h ∷ slots) = Told h ∷ fill_slots (node + 1) heard slots

-- a whole round is heard
abbrev pub round_heard : Round → (ℕ → Option Reply) → WriterView → Judgment
round_heard (round.Fetch node start end bodies) heard w = after_fetch node start end bodies (heard_of (heard node)) w
round_heard r heard w = judgment r (record w { slots = fill_slots 1 heard w.slots })

-- whether this node is called in the round
abbrev pub is_called : Option Slot → Bool
is_called (Some Waiting) = true
is_called _ = false

-- the next task that the writer takes
abbrev pub progress_from : Phase → WriterView → List Task → Option TaskProgress
progress_from (phase.InRound r) w tasks = Some (record { writer = w; round = r; tasks = tasks })
progress_from _ w tasks = None

abbrev pub has_begun : Begun → Bool
has_begun begun.Going = true
has_begun _ = false

-- The task that the writer takes next; those that it refuses are passed over. No takeover is among
-- them.
abbrev pub next_begun : Bool → Option TaskProgress → Option TaskProgress → Option TaskProgress
next_begun true first rest = first
next_begun false first rest = rest

unfoldable pub next_task : WriterView → List Task → Option TaskProgress
next_task w [] = None
next_task w (t ∷ ts) = next_begun (has_begun (writer_begun w t).begun) (progress_from (writer_begun w t).writer.phase (writer_begun w t).writer ts) (next_task w ts)

-- after a round: the next one, or the next task's first
abbrev pub round_after : Phase → WriterView → List Task → Option TaskProgress
round_after (phase.InRound r) w tasks = progress_from (phase.InRound r) w tasks
round_after phase.Writing w tasks = next_task w tasks
round_after phase.Idle w tasks = None
round_after phase.Stopped w tasks = None

abbrev pub next_round : (ℕ → Option Reply) → Option TaskProgress → Option TaskProgress
next_round heard None = None
next_round heard (Some u) = let w = (round_heard u.round heard u.writer).writer in round_after w.phase w u.tasks

-- a writer that proposes its epoch
abbrev pub proposer : ℕ → ℕ → WriterView
proposer nodes epoch = asks_all round.Propose (record (new_writer nodes) { epoch = epoch })

-- the writer in the round of this number, where all rounds before it were done
unfoldable pub writer_at : ℕ → Takeover → ℕ → Option TaskProgress
writer_at nodes t zero = Some (record { writer = proposer nodes t.epoch; round = round.Propose; tasks = t.tasks })
writer_at nodes t (suc s) = next_round (t.heard s) (writer_at nodes t s)

-- what the round asks, and whether it calls this node
abbrev pub request_of_round : TaskProgress → Request
request_of_round u = request_in u.writer u.round

abbrev pub is_waiting_at : ℕ → List Slot → Bool
is_waiting_at node slots = is_called (slice_get slots (node - 1))

abbrev pub calls_in : Round → List Slot → ℕ → Bool
calls_in (round.Fetch from start end bodies) slots node = node == from
calls_in r slots node = nat_lt 0 node && is_waiting_at node slots

abbrev pub calls : TaskProgress → ℕ → Bool
calls u node = calls_in u.round u.writer.slots node
