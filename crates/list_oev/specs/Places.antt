-- Where a reader of the edits of a file stands, and what it tells next.
use Rattle.std.specs.Prelude.{◌≡◌, ◌≢◌, ℕ, ◌+◌, ◌^◌, ◌≤◌, List, [], ◌∷◌, ◌++◌, length, drop, Option, Some, None, Result, Ok, Err, Vec}
use Rattle.std.specs.declared.alloc.Global.{Global}
use Rattle.std.specs.List.{flat_map}
use Rattle.journal_core.specs.Views.{BatchView}
use Rattle.edit_ops.specs.Records.{EditView}
use Rattle.edit_ops.specs.Grammar.{IsEdit, IsRecord}
use Rattle.edit_codec.specs.Decoding.{HasOpcode}
use Rattle.disk_frame.specs.declared.entry.Entry.{Entry}
use Rattle.disk_frame.specs.Entries.{EntriesView}
use Rattle.disk_frame.specs.Frames.{frame_bytes, entry_bytes, broken_rule}
use Rattle.disk_frame.specs.Faults.{Spells}
use Rattle.list_oev.specs.declared.segment_fault.SegmentFault.{SegmentFault}
use Rattle.list_oev.specs.declared.segment_fault.SegmentFault.TheVariants.{Memory, Damage}
use Rattle.list_oev.specs.Segment.{AreRecords, Begins, IsSegment}
use Rattle.list_oev.specs.Damage.{IsBadBody, IsDamaged}
use Rattle.list_oev.specs.Listed.{IsTold}

-- What contracts see of the reader: the file, where the next frame is to be, the txid of its first
-- entry, and what is ahead of the frame before it.
pub record Reader : Type 0 where
  pub bytes : List ℕ
  pub end : ℕ
  pub txid : ℕ
  pub ahead : EntriesView

-- where no frame was entered yet, nothing is ahead
abbrev pub ahead_of : ℕ → ℕ → Option EntriesView → EntriesView
ahead_of txid end None = record { txid = txid; place = end; bodies = [] }
ahead_of txid end (Some entries) = entries

-- after these edits, all of them in whole frames
pub record Between (start : ℕ) (edits : List EditView) (r : Reader) : Type 0 where
  pub nothing : r.ahead.bodies ≡ []
  pub begins : Begins r.bytes start edits r.end
  pub txid_is : r.txid ≡ start + length edits
  pub ahead_is : r.ahead.txid ≡ start + length edits

-- after these edits, the last of them in a frame that ends where the next is to be
pub record Within (start : ℕ) (edits : List EditView) (r : Reader) : Type 0 where
  pub before : List EditView
  pub seal : ℕ
  pub begins : Begins r.bytes start before seal
  pub frame : BatchView
  pub spells : Spells (drop seal r.bytes) frame
  pub good : broken_rule (start + length before) frame ≡ None
  pub records : List (List ℕ)
  pub done : List EditView
  pub are : AreRecords records done
  pub bodies_are : frame.bodies ≡ records ++ r.ahead.bodies
  pub all : edits ≡ before ++ done
  pub end_is : r.end ≡ seal + length (frame_bytes frame)
  pub txid_is : r.txid ≡ start + length before + length frame.bodies
  pub ahead_is : r.ahead.txid ≡ start + length edits
  pub place_is : r.ahead.place ≡ seal + 17 + length (flat_map entry_bytes records)

-- the reader stands after these edits
pub data IsAt (start : ℕ) (edits : List EditView) (r : Reader) : Type 0 where
  between : Between start edits r → IsAt start edits r
  within : Within start edits r → IsAt start edits r

-- a frame with entries ahead was entered
pub record Enters (start : ℕ) (edits : List EditView) (old new : Reader) : Type 0 where
  pub at : Within start edits new
  pub some : new.ahead.bodies ≢ []
  pub same : new.bytes ≡ old.bytes
  pub ahead : new.ahead.txid ≡ old.txid

-- nothing but what is ahead has changed
pub record StandsStill (old new : Reader) : Type 0 where
  pub bytes : new.bytes ≡ old.bytes
  pub end : new.end ≡ old.end
  pub txid : new.txid ≡ old.txid

-- a reader of these bytes that has read nothing yet
pub record IsFresh (bytes : List ℕ) (r : Reader) : Type 0 where
  pub start : ℕ
  pub at : IsAt start [] r
  pub same : r.bytes ≡ bytes

-- what an entry tells: its txid and the edit of which its body is the record, or that there is
-- none; memory may be lacking where its body's fields are read
abbrev pub IsTelling : Entry → Result (Option (ℕ × EditView)) SegmentFault → Type 0
IsTelling entry (Ok (Some told)) = (told.0 ≡ entry.txid) × IsRecord entry.body.now told.1
IsTelling entry (Ok None) = ⊥
IsTelling entry (Err (Damage place cause)) = (place ≡ entry.place) × IsBadBody entry.body.now cause
IsTelling entry (Err Memory) = HasOpcode entry.body.now

-- the reader passed an edit
pub record Passes (start : ℕ) (edits : List EditView) (old new : Reader) (txid : ℕ) (edit : EditView) : Type 0 where
  pub sound : IsEdit edit
  pub txid_is : txid ≡ start + length edits
  pub small : txid ≤ 2 ^ 62
  pub at : IsAt start (edits ++ edit ∷ []) new
  pub same : new.bytes ≡ old.bytes
  pub before : old.ahead.txid ≡ txid
  pub behind : new.ahead.txid ≡ txid + 1

-- what a reader that stands after these edits tells next
abbrev pub IsNextEdit : ℕ → List EditView → Reader → Result (Option (ℕ × EditView)) SegmentFault → Reader → Type 0
IsNextEdit start edits old (Ok (Some told)) new = Passes start edits old new told.0 told.1
IsNextEdit start edits old (Ok None) new = IsSegment old.bytes start edits
IsNextEdit start edits old (Err (Damage place cause)) new = IsDamaged old.bytes place cause
IsNextEdit start edits old (Err Memory) new = Unit {0}

-- what is told of all edits of the file, or its damage
abbrev pub IsRead : (ℕ → List EditView → List ℕ) → List ℕ → Result (Vec ℕ Global) SegmentFault → Type 0
IsRead tell bytes (Ok text) = IsTold tell bytes text.items
IsRead tell bytes (Err (Damage place cause)) = IsDamaged bytes place cause
IsRead tell bytes (Err Memory) = Unit {0}
