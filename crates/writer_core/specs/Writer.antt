-- A writer, call by call: the task begun, the call to make next, and what an answer does.
use Rattle.std.specs.Prelude.{ℕ, ◌+◌, ◌-◌, ◌≢◌, List, [], Option, Some, None, Bool, true, false, nat_lt, nat_le, if◌then◌else◌, length, position, option_map, slice_set, replicate}
use Rattle.std.specs.List.{list_any}
use Rattle.journal_core.specs.Limits.{max_body, max_batch, max_segment}
use Rattle.journal_core.specs.declared.request.Request.{Request}
use Rattle.journal_core.specs.declared.heard.Heard.{Heard}
use Rattle.writer_core.specs.declared.round.Round.{Round}
use Rattle.writer_core.specs.declared.round.Round.TheVariants as round
use Rattle.writer_core.specs.declared.phase.Phase.{Phase}
use Rattle.writer_core.specs.declared.phase.Phase.TheVariants as phase
use Rattle.writer_core.specs.declared.phase.Aim.TheVariants as aim
use Rattle.writer_core.specs.declared.slot.Slot.{Slot}
use Rattle.writer_core.specs.declared.slot.Slot.TheVariants.{Waiting, Told}
use Rattle.writer_core.specs.declared.cause.Cause.TheVariants as cause
use Rattle.writer_core.specs.declared.task.Task.{Task}
use Rattle.writer_core.specs.declared.task.Task.TheVariants as task
use Rattle.writer_core.specs.declared.task.Begun.{Begun}
use Rattle.writer_core.specs.declared.task.Begun.TheVariants as begun
use Rattle.writer_core.specs.Views.{WriterView}
use Rattle.writer_core.specs.Answers.{is_waiting}
use Rattle.writer_core.specs.Rounds.{request_in, asks_all, asks_others, none_left_out, end_record, Judgment, keep_going, judgment, after_fetch}

-- a writer of that many nodes, before its first task
abbrev pub new_writer : ℕ → WriterView
new_writer nodes =
    record {
      phase = phase.Idle;
      aim = aim.Takeover;
      epoch = 0;
      serial = 0;
      committed = 0;
      start = 0;
      next = 0;
      left = replicate nodes false;
      slots = replicate nodes Waiting;
      causes = replicate nodes cause.Silent;
    }

-- ## A task begins, or is refused
pub record Began : Type 0 where
  pub writer : WriterView
  pub begun : Begun

abbrev pub begins : WriterView → Began
begins w = record { writer = w; begun = begun.Going }

abbrev pub begin_nothing : Begun → WriterView → Began
begin_nothing b w = record { writer = w; begun = b }

-- the first limit that a batch would pass
unfoldable pub log_limit : WriterView → List (List ℕ) → Option ℕ
log_limit w bodies =
    if list_any (λ body. nat_lt max_body (length body)) bodies then Some max_body
    else if nat_lt max_batch (length bodies) then Some max_batch
    else if nat_le (w.start + 16383) (w.next + length bodies - 1) then Some max_segment
    else None

abbrev pub log_begins : Option ℕ → List (List ℕ) → WriterView → Began
log_begins (Some number) bodies w = begin_nothing (begun.TooLong number) w
log_begins None bodies w = begins (asks_others (round.Write bodies) (record w { aim = aim.Log }))

-- only a takeover may begin at any time
abbrev pub is_writing : Phase → Bool
is_writing phase.Writing = true
is_writing _ = false

abbrev pub if_writing : Bool → Began → WriterView → Began
if_writing true b w = b
if_writing false b w = begin_nothing begun.NotActive w

unfoldable pub writer_begun : WriterView → Task → Began
writer_begun w task.Takeover = begins (asks_all round.State (record w { aim = aim.Takeover; left = none_left_out w.left }))
writer_begun w (task.Log bodies) = if_writing (is_writing w.phase) (log_begins (log_limit w bodies) bodies w) w
writer_begun w task.Roll = if_writing (is_writing w.phase) (begins (asks_others (round.Write end_record) (record w { aim = aim.Roll }))) w
writer_begun w task.Close = if_writing (is_writing w.phase) (begins (asks_others (round.Write end_record) (record w { aim = aim.Close }))) w
writer_begun w (task.Purge min) = if_writing (is_writing w.phase) (begins (asks_all (round.Purge min) (record w { aim = aim.Purge }))) w

-- a log task has a body
abbrev pub HasBody : Task → Type 0
HasBody (task.Log bodies) = bodies ≢ []
HasBody _ = Unit {0}

-- ## The call to make next
abbrev pub is_under_way : Phase → Bool
is_under_way (phase.InRound r) = true
is_under_way _ = false

-- the first node that still waits; a fetch asks one node
abbrev pub node_in : Round → List Slot → Option ℕ
node_in (round.Fetch node start end bodies) slots = Some node
node_in r slots = option_map (λ i. i + 1) (position is_waiting slots)

abbrev pub call_in : Phase → WriterView → Option (ℕ × Request)
call_in (phase.InRound r) w = option_map (λ node. (node, request_in w r)) (node_in r w.slots)
call_in _ w = None

abbrev pub next_call : WriterView → Option (ℕ × Request)
next_call w = call_in w.phase w

-- ## An answer is heard; the last one ends the round
abbrev pub with_answer : WriterView → ℕ → Heard → WriterView
with_answer w node heard = record w { slots = slice_set w.slots (node - 1) (Told heard) }

abbrev pub judgment_when : Bool → Round → WriterView → Judgment
judgment_when true r w = keep_going w
judgment_when false r w = judgment r w

abbrev pub heard_in : Round → WriterView → ℕ → Heard → Judgment
heard_in (round.Fetch node start end bodies) w from heard = after_fetch node start end bodies heard w
heard_in r w from heard = judgment_when (list_any is_waiting (with_answer w from heard).slots) r (with_answer w from heard)

abbrev pub heard_at : Phase → WriterView → ℕ → Heard → Judgment
heard_at (phase.InRound r) w node heard = heard_in r w node heard
heard_at _ w node heard = keep_going w

unfoldable pub writer_heard : WriterView → ℕ → Heard → Judgment
writer_heard w node heard = heard_at w.phase w node heard

-- a writer that gives up what it does
abbrev pub writer_stopped : WriterView → WriterView
writer_stopped w = record w { phase = phase.Stopped }
