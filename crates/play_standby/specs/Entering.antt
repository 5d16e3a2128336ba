-- A standby takes over: the writer's rounds, and then a tail up to the txid before the first
-- segment.
use Rattle.std.specs.Prelude.{ℕ, ◌≡◌, ◌⊎◌, ◌+◌, ◌-◌, ◌≤◌, Bool, true, false, List, Some}
use Rattle.journal_core.specs.Limits.{max_number}
use Rattle.journal_core.specs.declared.peer_call.PeerCall.{PeerCall}
use Rattle.ns_edits.specs.Replay.{Image}
use Rattle.writer_core.specs.declared.task.Task.TheVariants as task
use Rattle.writer_core.specs.Views.{WriterView}
use Rattle.writer_core.specs.Writer.{is_writing, writer_stopped}
use Rattle.writer_calls.specs.declared.taken.Taken.{Taken}
use Rattle.writer_calls.specs.declared.taken.Taken.TheVariants as round
use Rattle.writer_calls.specs.Answers.{came_of_taken}
use Rattle.writer_calls.specs.Tasks.{Comes}
use Rattle.play_names.specs.Holding.{Holding, enters}
use Rattle.play_names.specs.Tails.{TailStep, pass_begun}
use Rattle.play_names.specs.declared.tailed.Tailed.{Tailed}
use Rattle.play_names.specs.declared.tailed.Tailed.TheVariants as tailed
use Rattle.play_standby.specs.Standbys.{StandbyView, held}
use Rattle.play_standby.specs.Tailing.{IsTailed}
use Rattle.play_standby.specs.declared.taking.TakenOver.{TakenOver}
use Rattle.play_standby.specs.declared.taking.TakenOver.TheVariants as taken

-- its tail begins; one that has read more begins empty
abbrev pub entry_begun : ℕ → Holding → TailStep
entry_begun first h = pass_begun (Some (first - 1)) (enters (first - 1) h)

-- The rounds were done, of this epoch and first segment, and left the writer so; then the tail came
-- to this.
pub record Enters (nodes epoch first : ℕ) (images : List Image) (old : WriterView) (from : StandbyView) (before after : List PeerCall) (w : WriterView) (to : StandbyView) (t : Tailed) : Type 0 where
  pub mid : List PeerCall
  pub took : Comes task.Takeover old before w mid (came_of_taken (round.Taken epoch first))
  pub tail : IsTailed nodes (entry_begun first (held images from)) images mid after to t

-- the tail didn't get there: the writer gives up
pub record Fails (nodes : ℕ) (images : List Image) (old : WriterView) (from : StandbyView) (before after : List PeerCall) (new : WriterView) (to : StandbyView) (t : Tailed) : Type 0 where
  pub epoch : ℕ
  pub first : ℕ
  pub writer : WriterView
  pub enters : Enters nodes epoch first images old from before after writer to t
  pub stopped : new ≡ writer_stopped writer

-- the tail met an entry that doesn't decode or isn't admitted: the writer stays as its rounds left
-- it
pub record Meets (nodes : ℕ) (images : List Image) (old : WriterView) (from : StandbyView) (before after : List PeerCall) (new : WriterView) (to : StandbyView) (t : Tailed) : Type 0 where
  pub epoch : ℕ
  pub first : ℕ
  pub enters : Enters nodes epoch first images old from before after new to t

-- there was no memory to begin empty
pub record LacksSpace (old : WriterView) (from : StandbyView) (before after : List PeerCall) (new : WriterView) (to : StandbyView) : Type 0 where
  pub epoch : ℕ
  pub first : ℕ
  pub writer : WriterView
  pub took : Comes task.Takeover old before writer after (came_of_taken (round.Taken epoch first))
  pub same : to ≡ from
  pub stopped : new ≡ writer_stopped writer

-- the rounds came to this, and the standby is as before
abbrev pub Refuses : Taken → WriterView → StandbyView → List PeerCall → List PeerCall → WriterView → StandbyView → Type 0
Refuses answer old from before after new to = Comes task.Takeover old before new after (came_of_taken answer) × (to ≡ from)

-- What came of a takeover by a standby with the writer `old`, at so many nodes.
abbrev pub IsTakenOver : ℕ → List Image → WriterView → StandbyView → List PeerCall → List PeerCall → WriterView → StandbyView → TakenOver → Type 0
IsTakenOver nodes images old from before after new to (taken.Active epoch first) = Enters nodes epoch first images old from before after new to (tailed.Reached (first - 1))
IsTakenOver nodes images old from before after new to (taken.Aborted causes) = Refuses (round.Aborted causes) old from before after new to
IsTakenOver nodes images old from before after new to (taken.EpochLimit told) = Refuses (round.EpochLimit told) old from before after new to
IsTakenOver nodes images old from before after new to (taken.Behind txid causes) = Fails nodes images old from before after new to (tailed.Behind txid causes)
IsTakenOver nodes images old from before after new to (taken.Purged first) = Fails nodes images old from before after new to (tailed.Purged first)
IsTakenOver nodes images old from before after new to (taken.BadEntry txid) = Meets nodes images old from before after new to (tailed.BadEntry txid)
IsTakenOver nodes images old from before after new to taken.OutOfMemory =
    Refuses round.OutOfMemory old from before after new to ⊎ Fails nodes images old from before after new to tailed.OutOfMemory ⊎ LacksSpace old from before after new to

-- where the writer and the standby then are
pub record IsEntered (first : ℕ) (w : WriterView) (s : StandbyView) : Type 0 where
  pub writing : is_writing w.phase ≡ true
  pub next : w.next ≡ first + 1
  pub within : first ≤ max_number
  pub position : s.position ≡ first - 1

abbrev pub StandsEntered : TakenOver → WriterView → StandbyView → Type 0
StandsEntered (taken.Active epoch first) w s = IsEntered first w s
StandsEntered _ w s = Unit {0}

-- the writer keeps its epoch
abbrev pub keeps_epoch : TakenOver → Bool
keeps_epoch (taken.Active epoch first) = true
keeps_epoch (taken.BadEntry txid) = true
keeps_epoch _ = false

-- what the tail of a takeover comes to; it lacks memory in the tail, or before it
abbrev pub IsTailedIn : ℕ → ℕ → ℕ → List Image → StandbyView → List PeerCall → List PeerCall → StandbyView → TakenOver → Type 0
IsTailedIn nodes epoch first images from before after to (taken.Active e f) =
    IsTailed nodes (entry_begun first (held images from)) images before after to (tailed.Reached (first - 1)) × (e ≡ epoch) × (f ≡ first) × (to.position ≡ first - 1)
IsTailedIn nodes epoch first images from before after to (taken.Behind txid causes) = IsTailed nodes (entry_begun first (held images from)) images before after to (tailed.Behind txid causes)
IsTailedIn nodes epoch first images from before after to (taken.Purged least) = IsTailed nodes (entry_begun first (held images from)) images before after to (tailed.Purged least)
IsTailedIn nodes epoch first images from before after to (taken.BadEntry txid) = IsTailed nodes (entry_begun first (held images from)) images before after to (tailed.BadEntry txid)
IsTailedIn nodes epoch first images from before after to taken.OutOfMemory =
    IsTailed nodes (entry_begun first (held images from)) images before after to tailed.OutOfMemory ⊎ ((after ≡ before) × (to ≡ from))
IsTailedIn nodes epoch first images from before after to (taken.Aborted causes) = ⊥
IsTailedIn nodes epoch first images from before after to (taken.EpochLimit told) = ⊥
