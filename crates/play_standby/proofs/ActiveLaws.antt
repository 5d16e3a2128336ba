-- What holds of an active name node, and of the edits that are submitted to it.
use Rattle.std.proofs.Common.{◌≡◌, ℕ, ◌+◌, ◌-◌, List, length, [], Bool, true, false, refl, sym, ap, ◌∙◌, arith}
use Rattle.std.specs.Prelude.{◌≢◌}
use Rattle.journal_core.specs.declared.peer_call.PeerCall.{PeerCall}
use Rattle.edit_ops.specs.Records.{EditView}
use Rattle.ns_tree.specs.Space.{AreRising}
use Rattle.ns_tree.specs.declared.inode.Noted.{Noted}
use Rattle.ns_tree.proofs.Noting.{rising_later}
use Rattle.writer_core.specs.Views.{WriterView}
use Rattle.writer_core.specs.declared.task.Task.TheVariants as task
use Rattle.writer_core.specs.declared.task.Begun.TheVariants as begun
use Rattle.writer_core.specs.declared.round.Round.TheVariants as round
use Rattle.writer_core.specs.declared.phase.Aim.TheVariants as aim
use Rattle.writer_core.specs.Rounds.{asks_all, asks_others, end_record}
use Rattle.writer_core.specs.Writer.{Began, begins, is_writing, if_writing, writer_begun}
use Rattle.writer_core.specs.Room.{room_of}
use Rattle.play_standby.specs.declared.submitted.Submitted.{Submitted}
use Rattle.play_standby.specs.declared.submitted.Submitted.TheVariants as submitted
use Rattle.play_standby.specs.Pendings.{PendingView, PendsAt, IsPended}
use Rattle.play_standby.specs.Actives.{ActiveView, IsActive, is_open, pending_of}
use Rattle.play_standby.specs.Acting.{IsIdle, IsSubmitted}

pub entered_calls : (first position : ℕ) (calls : List Noted) → position ≡ first - 1 → AreRising 0 position calls → AreRising 0 (first + length {A = List ℕ} []) calls
entered_calls first position calls e h = rising_later 0 position (first + length {A = List ℕ} []) calls (omega (arith, e)) h

-- ## An edit is submitted
-- what becomes of its pending edits
abbrev pub pending_as : ActiveView → PendingView → ActiveView
pending_as a p = record a { ahead = p.ahead; bodies = p.bodies }

pub pends_at : (a : ActiveView) → is_open a ≡ true → IsActive a → (room : ℕ) → room ≡ room_of a.writer → PendsAt a.writer room (a.position + 1) (pending_of a)
pends_at a opens h room is = record { writing = opens; has_room = is; is_next = sym (h.opened opens).next; fits = (h.opened opens).fits }

pub pended_submits : (a : ActiveView) (e : EditView) (p : PendingView) (t : Submitted) → is_open a ≡ true → IsPended a.writer (pending_of a) e p t → IsSubmitted a e (pending_as a p) t
pended_submits a e p submitted.Taken o h = record { opened = o; more = h; rest = refl }
pended_submits a e p (submitted.Repeated txid) o h = record { opened = o; more = h; rest = refl }
pended_submits a e p (submitted.Refused refusal) o h = record { opened = o; more = h; rest = refl }
pended_submits a e p (submitted.TooLong number) o h = record { opened = o; more = h; rest = refl }
pended_submits a e p submitted.Ended o h = absurd h
pended_submits a e p submitted.OutOfMemory o h = (o, λ i. pending_as a (h i))

-- ## Rounds
-- a task other than a takeover isn't begun where no segment is open
inactive_by : (b : Bool) (x : Began) (w : WriterView) → x.begun ≢ begun.NotActive → (if_writing b x w).begun ≡ begun.NotActive → b ≡ false
inactive_by true x w n e = absurd (n e)
inactive_by false x w n e = refl

pub roll_inactive : (w : WriterView) → (writer_begun w task.Roll).begun ≡ begun.NotActive → is_writing w.phase ≡ false
unfolding writer_begun
roll_inactive w e = inactive_by (is_writing w.phase) (begins (asks_others (round.Write end_record) (record w { aim = aim.Roll }))) w (λ x. cc x) e

pub close_inactive : (w : WriterView) → (writer_begun w task.Close).begun ≡ begun.NotActive → is_writing w.phase ≡ false
unfolding writer_begun
close_inactive w e = inactive_by (is_writing w.phase) (begins (asks_others (round.Write end_record) (record w { aim = aim.Close }))) w (λ x. cc x) e

pub purge_inactive : (w : WriterView) (min : ℕ) → (writer_begun w (task.Purge min)).begun ≡ begun.NotActive → is_writing w.phase ≡ false
unfolding writer_begun
purge_inactive w min e = inactive_by (is_writing w.phase) (begins (asks_all (round.Purge min) (record w { aim = aim.Purge }))) w (λ x. cc x) e

-- a task that isn't begun changes nothing
pub idle_by : (a v : ActiveView) (w : WriterView) (before after : List PeerCall) → a ≡ v → w ≡ a.writer → after ≡ before → IsIdle v before (record a { writer = w }) after
idle_by a v w before after is same none = record { same = ap (λ (x : WriterView). record a { writer = x }) same ∙ is; none = none }
