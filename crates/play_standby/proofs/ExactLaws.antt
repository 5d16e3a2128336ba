-- An active name node refuses exactly where no segment is open.
use Rattle.std.proofs.Common.{◌≡◌, ◌↔◌, ℕ, List, [], Bool, true, false, refl}
use Rattle.journal_core.specs.declared.peer_call.PeerCall.{PeerCall}
use Rattle.edit_ops.specs.Records.{EditView}
use Rattle.writer_core.specs.declared.task.Task.TheVariants as task
use Rattle.writer_core.specs.declared.task.Begun.TheVariants as begun
use Rattle.writer_core.specs.declared.round.Round.TheVariants as round
use Rattle.writer_core.specs.declared.phase.Aim.TheVariants as aim
use Rattle.writer_core.specs.Rounds.{asks_all, asks_others, end_record}
use Rattle.writer_core.specs.Views.{WriterView}
use Rattle.writer_core.specs.Writer.{begins, is_writing, log_begins, log_limit, writer_begun}
use Rattle.writer_calls.specs.declared.rolled.Rolled.{Rolled}
use Rattle.writer_calls.specs.declared.rolled.Rolled.TheVariants as rolled
use Rattle.writer_calls.specs.declared.purging.Purging.{Purging}
use Rattle.writer_calls.specs.declared.purging.Purging.TheVariants as purging
use Rattle.writer_calls.specs.declared.closed.Closed.{Closed}
use Rattle.writer_calls.specs.declared.closed.Closed.TheVariants as closed
use Rattle.writer_calls.proofs.TaskBegins.{begun_open}
use Rattle.play_standby.specs.declared.submitted.Submitted.{Submitted}
use Rattle.play_standby.specs.declared.submitted.Submitted.TheVariants as submitted
use Rattle.play_standby.specs.declared.synced.Synced.{Synced}
use Rattle.play_standby.specs.declared.synced.Synced.TheVariants as synced
use Rattle.play_standby.specs.Actives.{ActiveView, is_open}
use Rattle.play_standby.specs.Acting.{IsSubmitted, IsSynced, IsRolled, IsPurging, IsClosed}

pub no_both : {P : Type 0} (b : Bool) → b ≡ true → b ≡ false → P
no_both b e f = absurd (cc (e, f))

-- one is open, and this wasn't answered
apart : (P : Type 0) (a : ActiveView) → is_open a ≡ true → (P → ⊥) → P ↔ (is_open a ≡ false)
apart P a o n = (λ p. absurd (n p), λ shut. no_both (is_open a) o shut)

-- ## A task that began
log_open : (w : WriterView) (bodies : List (List ℕ)) → (writer_begun w (task.Log bodies)).begun ≡ begun.Going → is_writing w.phase ≡ true
unfolding writer_begun
log_open w bodies e = begun_open (is_writing w.phase) (log_begins (log_limit w bodies) bodies w) w e

roll_open : (w : WriterView) → (writer_begun w task.Roll).begun ≡ begun.Going → is_writing w.phase ≡ true
unfolding writer_begun
roll_open w e = begun_open (is_writing w.phase) (begins (asks_others (round.Write end_record) (record w { aim = aim.Roll }))) w e

close_open : (w : WriterView) → (writer_begun w task.Close).begun ≡ begun.Going → is_writing w.phase ≡ true
unfolding writer_begun
close_open w e = begun_open (is_writing w.phase) (begins (asks_others (round.Write end_record) (record w { aim = aim.Close }))) w e

purge_open : (w : WriterView) (min : ℕ) → (writer_begun w (task.Purge min)).begun ≡ begun.Going → is_writing w.phase ≡ true
unfolding writer_begun
purge_open w min e = begun_open (is_writing w.phase) (begins (asks_all (round.Purge min) (record w { aim = aim.Purge }))) w e

-- ## The answers
pub submitted_exactly : (old new : ActiveView) (e : EditView) (answer : Submitted) → IsSubmitted old e new answer → (answer ≡ submitted.Ended) ↔ (is_open old ≡ false)
submitted_exactly old new e submitted.Ended is = (λ x. is.0, λ x. refl)
submitted_exactly old new e submitted.OutOfMemory is = apart _ old is.0 (λ x. cc x)
submitted_exactly old new e submitted.Taken is = apart _ old is.opened (λ x. cc x)
submitted_exactly old new e (submitted.Refused refusal) is = apart _ old is.opened (λ x. cc x)
submitted_exactly old new e (submitted.Repeated txid) is = apart _ old is.opened (λ x. cc x)
submitted_exactly old new e (submitted.TooLong number) is = apart _ old is.opened (λ x. cc x)

pub synced_exactly : (old new : ActiveView) (before after : List PeerCall) (answer : Synced) → IsSynced old before new after answer → (answer ≡ synced.Ended) ↔ (is_open old ≡ false)
synced_exactly old new before after synced.Ended is = (λ x. is.0, λ x. refl)
synced_exactly old new before after synced.Nothing is = apart _ old is.1 (λ x. cc x)
synced_exactly old new before after (synced.Acked first last) is = apart _ old (log_open old.writer old.bodies is.0.begun) (λ x. cc x)
synced_exactly old new before after (synced.Aborted causes) is = apart _ old (log_open old.writer old.bodies is.0.0.begun) (λ x. cc x)
synced_exactly old new before after synced.OutOfMemory is = apart _ old (log_open old.writer old.bodies is.0.begun) (λ x. cc x)

pub nothing_exactly : (old new : ActiveView) (before after : List PeerCall) (answer : Synced) → IsSynced old before new after answer
    → (answer ≡ synced.Nothing) ↔ ((is_open old ≡ true) × (old.bodies ≡ []))
nothing_exactly old new before after synced.Ended is = (λ x. absurd (cc x), λ x. no_both (is_open old) x.0 is.0)
nothing_exactly old new before after synced.Nothing is = (λ x. (is.1, is.0), λ x. refl)
nothing_exactly old new before after (synced.Acked first last) is = (λ x. absurd (cc x), λ x. absurd (is.2 x.1))
nothing_exactly old new before after (synced.Aborted causes) is = (λ x. absurd (cc x), λ x. absurd (is.2 x.1))
nothing_exactly old new before after synced.OutOfMemory is = (λ x. absurd (cc x), λ x. absurd (is.2 x.1))

pub rolled_exactly : (old new : ActiveView) (before after : List PeerCall) (answer : Rolled) → IsRolled old before new after answer → (answer ≡ rolled.NotActive) ↔ (is_open old ≡ false)
rolled_exactly old new before after rolled.NotActive is = (λ x. is.0, λ x. refl)
rolled_exactly old new before after (rolled.Rolled start) is = apart _ old (roll_open old.writer is.0.begun) (λ x. cc x)
rolled_exactly old new before after (rolled.Aborted causes) is = apart _ old (roll_open old.writer is.0.0.begun) (λ x. cc x)
rolled_exactly old new before after rolled.OutOfMemory is = apart _ old (roll_open old.writer is.0.begun) (λ x. cc x)

pub purged_exactly : (min : ℕ) (old new : ActiveView) (before after : List PeerCall) (answer : Purging) → IsPurging min old before new after answer
    → (answer ≡ purging.NotActive) ↔ (is_open old ≡ false)
purged_exactly min old new before after purging.NotActive is = (λ x. is.0, λ x. refl)
purged_exactly min old new before after purging.Done is = apart _ old (purge_open old.writer min is.0.begun) (λ x. cc x)
purged_exactly min old new before after (purging.Aborted causes) is = apart _ old (purge_open old.writer min is.0.0.begun) (λ x. cc x)
purged_exactly min old new before after purging.OutOfMemory is = apart _ old (purge_open old.writer min is.0.begun) (λ x. cc x)

pub closed_exactly : (old new : ActiveView) (before after : List PeerCall) (answer : Closed) → IsClosed old before new after answer → (answer ≡ closed.NotActive) ↔ (is_open old ≡ false)
closed_exactly old new before after closed.NotActive is = (λ x. is.0, λ x. refl)
closed_exactly old new before after (closed.Closed last) is = apart _ old (close_open old.writer is.0.begun) (λ x. cc x)
closed_exactly old new before after (closed.Aborted causes) is = apart _ old (close_open old.writer is.0.0.begun) (λ x. cc x)
closed_exactly old new before after closed.OutOfMemory is = apart _ old (close_open old.writer is.0.begun) (λ x. cc x)
