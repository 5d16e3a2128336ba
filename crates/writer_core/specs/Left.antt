-- How many calls a writer still makes at most, and that it has one to make while a round is under
-- way.
use Rattle.std.specs.Prelude.{ℕ, ◌+◌, ◌-◌, ◌*◌, ◌≡◌, ◌<◌, ◌≤◌, List, Some, true, not, length, count_by}
use Rattle.std.specs.List.{list_any}
use Rattle.journal_core.specs.Limits.{max_number}
use Rattle.journal_core.specs.declared.request.Request.{Request}
use Rattle.journal_core.specs.declared.heard.Heard.{Heard}
use Rattle.writer_core.specs.declared.round.Round.{Round}
use Rattle.writer_core.specs.declared.round.Round.TheVariants as round
use Rattle.writer_core.specs.declared.phase.Phase.{Phase}
use Rattle.writer_core.specs.declared.phase.Phase.TheVariants as phase
use Rattle.writer_core.specs.declared.slot.Slot.{Slot}
use Rattle.writer_core.specs.declared.task.Task.{Task}
use Rattle.writer_core.specs.Views.{WriterView}
use Rattle.writer_core.specs.Answers.{is_ok, is_waiting}
use Rattle.writer_core.specs.Writer.{new_writer, writer_begun, is_under_way, next_call, writer_heard, writer_stopped}
use Rattle.writer_core.specs.Sound.{IsOkAt}

-- ## How many calls are left
-- more pieces than a segment has edits
abbrev pub most_pieces : ℕ
most_pieces = 4611686018427387905

-- the calls of this round. Of a fetch: each prepare answer that counts may be fetched in as many
-- pieces.
abbrev pub calls_now : Round → List Slot → ℕ
calls_now (round.Fetch node start end bodies) slots = most_pieces * count_by (is_ok (round.Prepare start)) slots - length bodies
calls_now r slots = count_by is_waiting slots

-- the calls of the rounds that may follow it, to so many nodes
abbrev pub calls_after : Round → ℕ → ℕ
calls_after round.State nodes = (most_pieces + 6) * nodes
calls_after round.Propose nodes = (most_pieces + 5) * nodes
calls_after (round.Prepare start) nodes = (most_pieces + 4) * nodes
calls_after (round.Fetch node start end bodies) nodes = 4 * nodes
calls_after (round.Accept batch) nodes = 3 * nodes
calls_after (round.Finalize start end) nodes = 2 * nodes
calls_after round.Start nodes = nodes
calls_after round.Open nodes = 0
calls_after (round.Write bodies) nodes = 3 * nodes
calls_after (round.Purge min) nodes = 0

abbrev pub calls_left_in : Phase → WriterView → ℕ
calls_left_in (phase.InRound r) w = calls_now r w.slots + calls_after r (length w.left)
calls_left_in _ w = 0

abbrev pub calls_left : WriterView → ℕ
calls_left w = calls_left_in w.phase w

-- ## What holds of a writer that is reached
-- Edits are missing up to the told end, and the node that told it counts.
pub record FetchGoesOn (node start end : ℕ) (bodies : List (List ℕ)) (slots : List Slot) : Type 0 where
  pub missing : start + length bodies ≤ end
  pub end_fits : end ≤ max_number
  pub counted : IsOkAt (round.Prepare start) node slots

-- some node is still to be called
abbrev pub HasCallIn : Round → List Slot → Type 0
HasCallIn (round.Fetch node start end bodies) slots = FetchGoesOn node start end bodies slots
HasCallIn r slots = list_any is_waiting slots ≡ true

abbrev pub HasCall : Phase → List Slot → Type 0
HasCall (phase.InRound r) slots = HasCallIn r slots
HasCall _ slots = Unit {0}

pub record IsLive (w : WriterView) : Type 0 where
  pub same : length w.left ≡ length w.slots
  -- some node isn't left out
  pub some : list_any not w.left ≡ true
  pub call : HasCall w.phase w.slots

-- the writers that are reached from a new one by tasks begun, answers heard and stops
pub data IsReached : ℕ → WriterView → Type 0 where
  new : (nodes : ℕ) → IsReached nodes (new_writer nodes)
  begun : (nodes : ℕ) (w : WriterView) (t : Task) → IsReached nodes w → IsReached nodes (writer_begun w t).writer
  heard : (nodes : ℕ) (w : WriterView) (node : ℕ) (request : Request) (h : Heard) → next_call w ≡ Some (node, request) → IsReached nodes w
      → IsReached nodes (writer_heard w node h).writer
  stopped : (nodes : ℕ) (w : WriterView) → IsReached nodes w → IsReached nodes (writer_stopped w)

-- ## The laws
abbrev pub WritersAreLive : Type 0
WritersAreLive = (nodes : ℕ) (w : WriterView) → 0 < nodes → IsReached nodes w → IsLive w

-- While a round is under way some node is to be called.
abbrev pub SomeoneIsCalled : Type 0
SomeoneIsCalled = (w : WriterView) → IsLive w → is_under_way w.phase ≡ true → (node : ℕ) × (request : Request) × (next_call w ≡ Some (node, request))

-- Each answer leaves fewer calls.
abbrev pub CallsRunOut : Type 0
CallsRunOut =
    (w : WriterView) (node : ℕ) (request : Request) (h : Heard) → IsLive w → next_call w ≡ Some (node, request)
    → calls_left (writer_heard w node h).writer < calls_left w
