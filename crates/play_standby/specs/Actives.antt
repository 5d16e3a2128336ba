-- An active name node: its writer, and its namespace with the edits that are to be logged.
use Rattle.std.specs.Prelude.{ℕ, ◌≡◌, ◌≢◌, ◌+◌, ◌≤◌, List, [], length, Bool, true, false, None}
use Rattle.journal_core.specs.Limits.{max_number}
use Rattle.ns_tree.specs.Space.{Space, AreRising}
use Rattle.writer_core.specs.Views.{WriterView}
use Rattle.writer_core.specs.Writer.{is_writing, log_limit}
use Rattle.play_standby.specs.Pendings.{PendingView}

pub record ActiveView : Type 0 where
  pub writer : WriterView
  -- the txid of the last record that was acknowledged
  pub position : ℕ
  -- the namespace with the pending edits, and their bodies
  pub ahead : Space
  pub bodies : List (List ℕ)
  -- no round was aborted, and none lacked memory
  pub whole : Bool

-- a segment is open
abbrev pub is_open : ActiveView → Bool
is_open a = is_writing a.writer.phase

-- what holds while a segment is open
pub record IsOpen (w : WriterView) (position : ℕ) (bodies : List (List ℕ)) : Type 0 where
  pub next : w.next ≡ position + 1
  -- the pending edits fit it
  pub fits : bodies ≢ [] → log_limit w bodies ≡ None

pub record IsActive (a : ActiveView) : Type 0 where
  pub within : a.position ≤ max_number
  pub calls : a.whole ≡ true → AreRising 0 (a.position + length a.bodies) a.ahead.calls
  pub opened : is_open a ≡ true → IsOpen a.writer a.position a.bodies
  pub whole : is_open a ≡ true → a.whole ≡ true
  -- and where none is open no edit is pending
  pub ended : is_open a ≡ false → a.bodies ≡ []

-- its namespace and bodies, as edits that pend
abbrev pub pending_of : ActiveView → PendingView
pending_of a = record { ahead = a.ahead; bodies = a.bodies }
