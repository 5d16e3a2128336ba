-- The entries of a frame in turn.
use Rattle.std.specs.Prelude.{◌≡◌, ℕ, ◌+◌, ◌^◌, ◌<◌, List, [], ◌∷◌, length, Option, Some, None, false, unwrap_or}
use Rattle.std.specs.List.{list_any}
use Rattle.disk_frame.specs.declared.entry.Entry.{Entry}
use Rattle.disk_frame.specs.Frames.{is_bad_body}
use Rattle.disk_frame.specs.Reading.{entries_in}

-- What contracts see of entries that are still to come: the txid of the next, where in the bytes it
-- begins, and the bodies.
pub record EntriesView : Type 0 where
  pub txid : ℕ
  pub place : ℕ
  pub bodies : List (List ℕ)

-- the next entry is this one, with its body after two bytes of length, and these are to come after
-- it
pub record IsNext (before : EntriesView) (entry : Entry) (after : EntriesView) : Type 0 where
  pub txid : entry.txid ≡ before.txid
  pub place : entry.place ≡ before.place + 2
  pub body : before.bodies ≡ entry.body.now ∷ after.bodies
  pub txid_after : after.txid ≡ before.txid + 1
  pub place_after : after.place ≡ entry.place + length entry.body.now

-- the answer of a cursor: none exactly where no entries are left
abbrev pub Gives : EntriesView → Option Entry → EntriesView → Type 0
Gives before None after = (before.bodies ≡ []) × (after ≡ before)
Gives before (Some entry) after = IsNext before entry after

-- the bodies of so many entries that are all of the bytes
abbrev pub bodies_in : ℕ → List ℕ → List (List ℕ)
bodies_in count bytes = unwrap_or (entries_in count bytes) []

-- what a cursor keeps: the bytes are so many entries with good bodies, and its numbers have room
pub record AreEntries (left : ℕ) (bytes : List ℕ) (txid place : ℕ) : Type 0 where
  pub bodies : List (List ℕ)
  pub entries : entries_in left bytes ≡ Some bodies
  pub good : list_any is_bad_body bodies ≡ false
  pub txids : txid + left < 2 ^ 64
  pub places : place + length bytes < 2 ^ 64
