-- What comes of a task: by the rounds of the writer over what its calls heard.
use Rattle.std.specs.Prelude.{ℕ, ◌≡◌, ◌≢◌, List, Bool, true, false}
use Rattle.journal_core.specs.declared.peer_call.PeerCall.{PeerCall}
use Rattle.writer_core.specs.declared.cause.Cause.{Cause}
use Rattle.writer_core.specs.declared.phase.Phase.{Phase}
use Rattle.writer_core.specs.declared.phase.Phase.TheVariants as phase
use Rattle.writer_core.specs.declared.phase.Aim.{Aim}
use Rattle.writer_core.specs.declared.phase.Aim.TheVariants as aim
use Rattle.writer_core.specs.declared.task.Task.{Task}
use Rattle.writer_core.specs.declared.task.Begun.{Begun}
use Rattle.writer_core.specs.declared.task.Begun.TheVariants as begun
use Rattle.writer_core.specs.declared.turn.Turn.{Turn}
use Rattle.writer_core.specs.declared.turn.Turn.TheVariants as turn
use Rattle.writer_core.specs.Views.{WriterView}
use Rattle.writer_core.specs.Rounds.{Judgment}
use Rattle.writer_core.specs.Turns.{IsOf, IsInRound, IsTurnOf, phase_after}
use Rattle.writer_core.specs.Writer.{writer_begun, writer_stopped}
use Rattle.writer_calls.specs.declared.came.Came.{Came}
use Rattle.writer_calls.specs.declared.came.Came.TheVariants as came
use Rattle.writer_calls.specs.Led.{Leads}

-- The writer refused the task: nothing changed, and no call was made.
pub record Refuses (t : Task) (old : WriterView) (before : List PeerCall) (new : WriterView) (after : List PeerCall) (b : Begun) : Type 0 where
  pub refused : (writer_begun old t).begun ≡ b
  pub same : new ≡ old
  pub none : after ≡ before

-- The task began, and its calls led to this end; there the writer stands in this phase.
pub record Ends (t : Task) (old : WriterView) (before : List PeerCall) (new : WriterView) (after : List PeerCall) (end : Turn) (stands : Phase) : Type 0 where
  pub begun : (writer_begun old t).begun ≡ begun.Going
  pub calls : Leads (writer_begun old t).writer before after (record { writer = new; turn = end })
  pub phase : new.phase ≡ stands

-- The task began, and memory was wanting after some of its calls: the writer is stopped there.
pub record GivesUp (t : Task) (old : WriterView) (before : List PeerCall) (new : WriterView) (after : List PeerCall) : Type 0 where
  pub here : Judgment
  pub begun : (writer_begun old t).begun ≡ begun.Going
  pub calls : Leads (writer_begun old t).writer before after here
  pub stopped : new ≡ writer_stopped here.writer

-- What came of a task of the writer `old`, at peers whose list of calls grew from `before` to
-- `after`, and the writer then.
abbrev pub Comes : Task → WriterView → List PeerCall → WriterView → List PeerCall → Came → Type 0
Comes t old before new after came.NotActive = Refuses t old before new after begun.NotActive
Comes t old before new after (came.TooLong number) = Refuses t old before new after (begun.TooLong number)
Comes t old before new after (came.Done o) = Ends t old before new after (turn.Done o) (phase_after o)
Comes t old before new after (came.Aborted causes) = Ends t old before new after turn.Aborted phase.Stopped × (causes ≡ new.causes)
Comes t old before new after (came.EpochLimit told) = Ends t old before new after (turn.EpochLimit told) phase.Stopped
Comes t old before new after came.OutOfMemory = GivesUp t old before new after

-- what may come of a task with this aim
abbrev pub IsOwn : Aim → Came → Type 0
IsOwn a came.NotActive = a ≢ aim.Takeover
IsOwn a (came.TooLong number) = a ≡ aim.Log
IsOwn a (came.Done o) = IsOf a o
IsOwn a (came.Aborted causes) = Unit {0}
IsOwn a (came.EpochLimit told) = a ≡ aim.Takeover
IsOwn a came.OutOfMemory = Unit {0}

-- there are more calls to make
abbrev pub has_more_calls : Turn → Bool
has_more_calls turn.Going = true
has_more_calls _ = false

abbrev pub IsOver : Turn → Type 0
IsOver t = has_more_calls t ≡ false

-- the task of this aim is over with this turn, in this phase
pub record IsEnd (a : Aim) (p : Phase) (t : Turn) : Type 0 where
  pub over : IsOver t
  pub own : IsTurnOf a p t

-- what came of a task that is over with this turn; its causes were copied, or memory was wanting
-- for them
abbrev pub CameOf : Turn → List Cause → Came → Type 0
CameOf t causes (came.Done o) = t ≡ turn.Done o
CameOf t causes (came.EpochLimit told) = t ≡ turn.EpochLimit told
CameOf t causes (came.Aborted list) = (t ≡ turn.Aborted) × (list ≡ causes)
CameOf t causes came.OutOfMemory = t ≡ turn.Aborted
CameOf t causes came.NotActive = ⊥
CameOf t causes (came.TooLong number) = ⊥
