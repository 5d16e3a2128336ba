-- What the calls of an active name node come to.
use Rattle.std.specs.Prelude.{ℕ, ◌≡◌, ◌≢◌, List, [], ◌∷◌, Bool, true, false}
use Rattle.journal_core.specs.declared.peer_call.PeerCall.{PeerCall}
use Rattle.edit_ops.specs.Records.{EditView}
use Rattle.writer_core.specs.declared.task.Task.TheVariants as task
use Rattle.writer_core.specs.Views.{WriterView}
use Rattle.writer_calls.specs.declared.logged.Logged.{Logged}
use Rattle.writer_calls.specs.declared.logged.Logged.TheVariants as logged
use Rattle.writer_calls.specs.Answers.{came_of_logged, came_of_rolled, came_of_closed, came_of_purging}
use Rattle.writer_calls.specs.declared.rolled.Rolled.{Rolled}
use Rattle.writer_calls.specs.declared.rolled.Rolled.TheVariants as rolled
use Rattle.writer_calls.specs.declared.purging.Purging.{Purging}
use Rattle.writer_calls.specs.declared.purging.Purging.TheVariants as purging
use Rattle.writer_calls.specs.declared.closed.Closed.{Closed}
use Rattle.writer_calls.specs.declared.closed.Closed.TheVariants as closed
use Rattle.writer_calls.specs.Tasks.{Comes}
use Rattle.play_standby.specs.Standbys.{StandbyView, empty_standby}
use Rattle.play_standby.specs.declared.submitted.Submitted.{Submitted}
use Rattle.play_standby.specs.declared.submitted.Submitted.TheVariants as submitted
use Rattle.play_standby.specs.declared.synced.Synced.{Synced}
use Rattle.play_standby.specs.declared.synced.Synced.TheVariants as synced
use Rattle.play_standby.specs.Pendings.{IsOneMore}
use Rattle.play_standby.specs.Actives.{ActiveView, is_open, pending_of}

-- ## An edit is submitted
-- it is one more of the edits that were submitted, with this answer, and nothing else changes
pub record Submits (old : ActiveView) (edit : EditView) (new : ActiveView) (answer : Submitted) : Type 0 where
  pub opened : is_open old ≡ true
  pub more : IsOneMore old.writer (pending_of old) edit (pending_of new) answer
  pub rest : new ≡ record old { ahead = new.ahead; bodies = new.bodies }

abbrev pub IsSubmitted : ActiveView → EditView → ActiveView → Submitted → Type 0
IsSubmitted old edit new submitted.Ended = (is_open old ≡ false) × (new ≡ old)
IsSubmitted old edit new submitted.OutOfMemory = (is_open old ≡ true) × (new ≡ old)
IsSubmitted old edit new answer = Submits old edit new answer

-- ## Rounds
-- no call was made, and nothing changed
pub record IsIdle (old : ActiveView) (before : List PeerCall) (new : ActiveView) (after : List PeerCall) : Type 0 where
  pub same : new ≡ old
  pub none : after ≡ before

-- a task of its writer came to this
abbrev pub Logs : Logged → ActiveView → List PeerCall → ActiveView → List PeerCall → Type 0
Logs answer old before new after = Comes (task.Log old.bodies) old.writer before new.writer after (came_of_logged answer)

abbrev pub Rolls : Rolled → ActiveView → List PeerCall → ActiveView → List PeerCall → Type 0
Rolls answer old before new after = Comes task.Roll old.writer before new.writer after (came_of_rolled answer)

abbrev pub Purges : ℕ → Purging → ActiveView → List PeerCall → ActiveView → List PeerCall → Type 0
Purges min answer old before new after = Comes (task.Purge min) old.writer before new.writer after (came_of_purging answer)

abbrev pub Closes : Closed → ActiveView → List PeerCall → ActiveView → List PeerCall → Type 0
Closes answer old before new after = Comes task.Close old.writer before new.writer after (came_of_closed answer)

-- ended: the namespace is dropped at the end
pub record IsLost (new : ActiveView) : Type 0 where
  pub closed : is_open new ≡ false
  pub broken : new.whole ≡ false
  pub none : new.bodies ≡ []

pub record IsKept (old new : ActiveView) (last : ℕ) : Type 0 where
  pub position : new.position ≡ last
  pub ahead : new.ahead ≡ old.ahead
  pub none : new.bodies ≡ []
  pub whole : new.whole ≡ old.whole

abbrev pub IsSynced : ActiveView → List PeerCall → ActiveView → List PeerCall → Synced → Type 0
IsSynced old before new after (synced.Acked first last) = Logs (logged.Acked first last) old before new after × IsKept old new last × (old.bodies ≢ [])
IsSynced old before new after synced.Nothing = (old.bodies ≡ []) × (is_open old ≡ true) × IsIdle old before new after
IsSynced old before new after (synced.Aborted causes) = Logs (logged.Aborted causes) old before new after × IsLost new × (old.bodies ≢ [])
IsSynced old before new after synced.Ended = (is_open old ≡ false) × IsIdle old before new after
IsSynced old before new after synced.OutOfMemory = Logs logged.OutOfMemory old before new after × IsLost new × (old.bodies ≢ [])

abbrev pub IsRolled : ActiveView → List PeerCall → ActiveView → List PeerCall → Rolled → Type 0
IsRolled old before new after (rolled.Rolled start) = Rolls (rolled.Rolled start) old before new after × IsKept old new start
IsRolled old before new after (rolled.Aborted causes) = Rolls (rolled.Aborted causes) old before new after × IsLost new
IsRolled old before new after rolled.NotActive = (is_open old ≡ false) × IsIdle old before new after
IsRolled old before new after rolled.OutOfMemory = Rolls rolled.OutOfMemory old before new after × IsLost new

abbrev pub IsPurging : ℕ → ActiveView → List PeerCall → ActiveView → List PeerCall → Purging → Type 0
IsPurging min old before new after purging.Done = Purges min purging.Done old before new after × IsKept old new old.position
IsPurging min old before new after (purging.Aborted causes) = Purges min (purging.Aborted causes) old before new after × IsLost new
IsPurging min old before new after purging.NotActive = (is_open old ≡ false) × IsIdle old before new after
IsPurging min old before new after purging.OutOfMemory = Purges min purging.OutOfMemory old before new after × IsLost new

abbrev pub IsClosed : ActiveView → List PeerCall → ActiveView → List PeerCall → Closed → Type 0
IsClosed old before new after (closed.Closed last) = Closes (closed.Closed last) old before new after × IsKept old new last
IsClosed old before new after (closed.Aborted causes) = Closes (closed.Aborted causes) old before new after × IsLost new
IsClosed old before new after closed.NotActive = (is_open old ≡ false) × IsIdle old before new after
IsClosed old before new after closed.OutOfMemory = Closes closed.OutOfMemory old before new after × IsLost new

-- ## What it leaves
-- the namespace at the last acknowledged position, where nothing was aborted and no edit is
-- pending, and else an empty one
abbrev pub left_when : Bool → List (List ℕ) → ActiveView → StandbyView
left_when true [] a = record { space = a.ahead; position = a.position }
left_when true (b ∷ bs) a = empty_standby
left_when false bodies a = empty_standby

abbrev pub left_by : ActiveView → StandbyView
left_by a = left_when a.whole a.bodies a

-- it closed, and this standby and this writer were left
pub record IsLeft (old : ActiveView) (before after : List PeerCall) (standby : StandbyView) (writer : WriterView) (answer : Closed) : Type 0 where
  pub new : ActiveView
  pub closed : IsClosed old before new after answer
  pub stands : standby ≡ left_by new
  pub writes : writer ≡ new.writer
