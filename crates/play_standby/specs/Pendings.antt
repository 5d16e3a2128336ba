-- Edits that pend: they were submitted one after the other, and are to be logged together.
use Rattle.std.specs.Prelude.{ℕ, ◌≡◌, ◌≢◌, ◌+◌, ◌-◌, ◌≤◌, nat_le, List, [], ◌∷◌, ◌++◌, length, true, None}
use Rattle.journal_core.specs.Limits.{max_number}
use Rattle.edit_ops.specs.Records.{EditView}
use Rattle.ns_tree.specs.Space.{Space, AreRising}
use Rattle.ns_edits.specs.declared.refusal.AdmitRefusal.{AdmitRefusal}
use Rattle.ns_edits.specs.declared.refusal.AdmitRefusal.TheVariants.{RepeatedCall}
use Rattle.writer_core.specs.Views.{WriterView}
use Rattle.writer_core.specs.Writer.{is_writing, log_limit}
use Rattle.writer_core.specs.Room.{room_of}
use Rattle.play_names.specs.Submissions.{Submission, Due, Pends, Refused, Repeats, TooLong, submitted_one}
use Rattle.play_standby.specs.declared.submitted.Submitted.{Submitted}
use Rattle.play_standby.specs.declared.submitted.Submitted.TheVariants as submitted

-- the namespace with them, and their bodies
pub record PendingView : Type 0 where
  pub ahead : Space
  pub bodies : List (List ℕ)

abbrev pub none_pending : Space → PendingView
none_pending s = record { ahead = s; bodies = [] }

-- the edits that were submitted, with what became of each
abbrev pub submission : List Due → PendingView → Submission
submission dues p = record { ahead = p.ahead; bodies = p.bodies; dues = dues }

-- ## Where they pend
-- From this txid on: no call that the namespace remembers is above the last of them.
pub record PendsFrom (next : ℕ) (p : PendingView) : Type 0 where
  pub some : 1 ≤ next
  pub within : next ≤ max_number + 1
  pub calls : AreRising 0 (next - 1 + length p.bodies) p.ahead.calls

-- A writer holds an open segment, with so much room and this next txid, and they fit it.
pub record PendsAt (w : WriterView) (room next : ℕ) (p : PendingView) : Type 0 where
  pub writing : is_writing w.phase ≡ true
  pub has_room : room ≡ room_of w
  pub is_next : next ≡ w.next
  pub fits : p.bodies ≢ [] → log_limit w p.bodies ≡ None

-- ## An edit is submitted
-- by a writer whose next txid is this
abbrev pub IsDue : ℕ → Submitted → Due → Type 0
IsDue next submitted.Taken due = due ≡ Pends
IsDue next (submitted.Refused refusal) due = due ≡ Refused refusal
IsDue next (submitted.Repeated txid) due = due ≡ Repeats txid (nat_le next txid)
IsDue next (submitted.TooLong number) due = due ≡ TooLong number
IsDue next submitted.Ended due = ⊥
IsDue next submitted.OutOfMemory due = ⊥

-- it is one more of the edits that were submitted, with this answer
pub record IsOneMore (w : WriterView) (old : PendingView) (edit : EditView) (new : PendingView) (answer : Submitted) : Type 0 where
  pub due : Due
  pub is : IsDue w.next answer due
  pub submitted : (dues : List Due) → submitted_one w edit (submission dues old) ≡ submission (dues ++ due ∷ []) new

abbrev pub IsPended : WriterView → PendingView → EditView → PendingView → Submitted → Type 0
IsPended w old edit new submitted.Ended = ⊥
IsPended w old edit new submitted.OutOfMemory = new ≡ old
IsPended w old edit new answer = IsOneMore w old edit new answer

-- the answer to an edit that isn't admitted
abbrev pub refused_as : AdmitRefusal → Submitted
refused_as (RepeatedCall txid) = submitted.Repeated txid
refused_as refusal = submitted.Refused refusal

-- only an edit that is taken changes anything
abbrev pub SameUnlessTaken : {V : Type 0} → V → V → Submitted → Type 0
SameUnlessTaken old new submitted.Taken = Unit {0}
SameUnlessTaken old new answer = new ≡ old
