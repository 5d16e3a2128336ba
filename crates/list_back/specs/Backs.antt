-- The right answer for a text that is to become a segment.
use Rattle.std.specs.Prelude.{◌≡◌, ◌≢◌, ℕ, ◌+◌, ◌<◌, ◌≤◌, List, ◌∷◌, ◌++◌, length, map, true, Some, IsUtf8, Result, Ok, Err, Vec}
use Rattle.std.specs.declared.alloc.Global.{Global}
use Rattle.serde_json.specs.Data.{Data, array}
use Rattle.serde_json.specs.Read.{read}
use Rattle.serde_json.specs.View.{items_of}
use Rattle.edit_ops.specs.Records.{EditView, record_of}
use Rattle.journal_core.specs.Limits.{max_segment}
use Rattle.disk_frame.specs.Segments.{IsSegmentFile}
use Rattle.list_oev.specs.Segment.{AreRecords}
use Rattle.list_back.specs.declared.answer.Back.{Back}
use Rattle.list_back.specs.declared.answer.Back.TheVariants.{NotJson, TooLong, BadEntry, Segment, OutOfMemory}
use Rattle.list_back.specs.declared.segments.Refusal.{Refusal}
use Rattle.list_back.specs.declared.segments.Refusal.TheVariants as refusal
use Rattle.list_back.specs.Pieces.{segment_bytes}
use Rattle.list_back.specs.Opening.{opens_array}
use Rattle.list_back.specs.Entries.{IsEntry, AreEntries}

-- the bytes are JSON, an array of these values
pub record IsArray (bytes : List ℕ) (ds : List Data) : Type 0 where
  pub utf8 : IsUtf8 bytes
  pub value : read bytes ≡ Some (array (items_of ds))

-- the value at that place is the first that is the object of no edit at its txid
pub record HasBadEntry (start : ℕ) (ds : List Data) (index : ℕ) : Type 0 where
  pub before : List Data
  pub value : Data
  pub behind : List Data
  pub parts : ds ≡ before ++ value ∷ behind
  pub at : index ≡ length before
  pub edits : List EditView
  pub good : AreEntries start edits before
  pub bad : (e : EditView) → IsEntry (start + index) e value → ⊥

-- these bytes are the segment of the edits whose objects the values are
pub record IsSegmentOf (start epoch : ℕ) (ds : List Data) (bytes : List ℕ) : Type 0 where
  pub edits : List EditView
  pub are : AreEntries start edits ds
  pub spelled : bytes ≡ segment_bytes start epoch (map record_of edits)

-- right answers for an array that is short enough
abbrev pub IsMade : ℕ → ℕ → List Data → Result (Vec ℕ Global) Refusal → Type 0
IsMade start epoch ds (Ok v) = IsSegmentOf start epoch ds v.items
IsMade start epoch ds (Err (refusal.Entry index)) = HasBadEntry start ds index
IsMade start epoch ds (Err refusal.Memory) = Unit {0}

-- the right answer for a value that was read; lack of memory is one everywhere
abbrev pub IsBackOf : Data → ℕ → ℕ → Back → Type 0
IsBackOf d start epoch NotJson = (ds : List Data) → d ≢ array (items_of ds)
IsBackOf d start epoch (TooLong number) = (ds : List Data) × (d ≡ array (items_of ds)) × (number ≡ max_segment) × (max_segment < length ds)
IsBackOf d start epoch (BadEntry index) = (ds : List Data) × (d ≡ array (items_of ds)) × (length ds ≤ max_segment) × HasBadEntry start ds index
IsBackOf d start epoch (Segment v) = (ds : List Data) × (d ≡ array (items_of ds)) × (length ds ≤ max_segment) × IsSegmentOf start epoch ds v.items
IsBackOf d start epoch OutOfMemory = Unit {0}

-- ## What a text is
-- no array of JSON
abbrev pub HasNoArray : List ℕ → Type 0
HasNoArray bytes = (ds : List Data) → IsArray bytes ds → ⊥

-- an array of more values than a segment may have entries, which are so many
abbrev pub HasLongArray : List ℕ → ℕ → Type 0
HasLongArray bytes number = (ds : List Data) × IsArray bytes ds × (number ≡ max_segment) × (max_segment < length ds)

-- an array whose value at that place is the first that is the object of no edit at its txid
abbrev pub HasBadMember : ℕ → List ℕ → ℕ → Type 0
HasBadMember start bytes index = (ds : List Data) × IsArray bytes ds × (length ds ≤ max_segment) × HasBadEntry start ds index

-- an array of the objects of edits, whose segment has these bytes
abbrev pub BecomesSegment : ℕ → ℕ → List ℕ → List ℕ → Type 0
BecomesSegment start epoch bytes segment = (ds : List Data) × IsArray bytes ds × (length ds ≤ max_segment) × IsSegmentOf start epoch ds segment

-- an array of the objects of edits from that txid on
abbrev pub IsOfObjects : ℕ → List ℕ → Type 0
IsOfObjects start bytes = (ds : List Data) × (edits : List EditView) × IsArray bytes ds × (length ds ≤ max_segment) × AreEntries start edits ds

-- the right answer for a text; lack of memory is one only where the first byte that is no space
-- opens an array
abbrev pub IsBack : List ℕ → ℕ → ℕ → Back → Type 0
IsBack bytes start epoch NotJson = HasNoArray bytes
IsBack bytes start epoch (TooLong number) = HasLongArray bytes number
IsBack bytes start epoch (BadEntry index) = HasBadMember start bytes index
IsBack bytes start epoch (Segment v) = BecomesSegment start epoch bytes v.items
IsBack bytes start epoch OutOfMemory = opens_array bytes ≡ true

-- the bytes are a segment's file of these edits, from the txid start on, written under that epoch
pub record IsSegmentUnder (epoch : ℕ) (bytes : List ℕ) (start : ℕ) (edits : List EditView) : Type 0 where
  pub bodies : List (List ℕ)
  pub whole_length : ℕ
  pub file : IsSegmentFile bytes start epoch bodies whole_length
  pub are : AreRecords bodies edits

-- the answer is such a segment, unless memory ran out
abbrev pub GivesSegment : ℕ → ℕ → List EditView → Back → Type 0
GivesSegment start epoch edits NotJson = ⊥
GivesSegment start epoch edits (TooLong number) = ⊥
GivesSegment start epoch edits (BadEntry index) = ⊥
GivesSegment start epoch edits (Segment v) = IsSegmentUnder epoch v.items start edits
GivesSegment start epoch edits OutOfMemory = Unit {0}
