-- Which segments a set of files stands for: the files of each start stand for one segment or for
-- none, whatever the others are.
use Rattle.std.specs.Prelude.{◌≡◌, ◌≢◌, ◌⊎◌, ℕ, ◌+◌, ◌≤◌, ◌^◌, Bool, true, false, List, length, Option, Some, None}
use Rattle.base_disk.specs.Files.{Files}
use Rattle.base_files.specs.Records.{IsRecord}
use Rattle.journal_core.specs.declared.segment.Segment.{Segment}
use Rattle.journal_core.specs.Segments.{find_segment}
use Rattle.disk_frame.specs.Segments.{IsSegmentFile}
use Rattle.disk_segment.specs.Names.{Kind, InProgress, Final, Record, UnderWay, name_of, IsKind}

-- the files of one start
abbrev pub Slot : Type 0
Slot = Kind → Option (List ℕ)

abbrev pub slot_of : Files → ℕ → Slot
slot_of files start kind = files (name_of start kind)

-- the record of an acceptance under this epoch
pub record HasEpoch (file : Option (List ℕ)) (epoch : ℕ) : Type 0 where
  pub end : ℕ
  pub bytes : List ℕ
  pub there : file ≡ Some bytes
  pub spelled : IsRecord bytes (record { epoch = epoch; end = end })

-- a record that is there is in its grammar
abbrev pub IsRecordFile : Option (List ℕ) → Type 0
IsRecordFile file = (file ≡ None) ⊎ ((epoch : ℕ) × HasEpoch file epoch)

-- an accepted segment is one whose record has the epoch of its header
abbrev pub IsAccepted : Option (List ℕ) → ℕ → Bool → Type 0
IsAccepted file epoch true = HasEpoch file epoch
IsAccepted file epoch false = HasEpoch file epoch → ⊥

-- the file has the segment's edits, under its header
pub record HoldsEdits (start : ℕ) (file : Option (List ℕ)) (g : Segment) : Type 0 where
  pub bytes : List ℕ
  pub there : file ≡ Some bytes
  pub whole_length : ℕ
  pub edits : IsSegmentFile bytes start g.epoch g.bodies whole_length

module _ (start : ℕ) (slot : Slot) where
  pub record NoFinal : Type 0 where
    pub none : (last : ℕ) → IsKind start (Final last) → slot (Final last) ≡ None

  -- the content of an acceptance counts where the record has its epoch
  pub record NoneUnderWay : Type 0 where
    pub none : (epoch : ℕ) → IsKind start (UnderWay epoch) → HasEpoch (slot Record) epoch → slot (UnderWay epoch) ≡ None

  pub record CountsUnderWay (file : Option (List ℕ)) : Type 0 where
    pub epoch : ℕ
    pub valid : IsKind start (UnderWay epoch)
    pub counts : HasEpoch (slot Record) epoch
    pub there : slot (UnderWay epoch) ≡ file

  -- it stands in place of the file in progress
  pub record CountsPlain (file : Option (List ℕ)) : Type 0 where
    pub none : NoneUnderWay
    pub there : slot InProgress ≡ file

  pub record IsFinalOf (g : Segment) : Type 0 where
    pub start_is : g.start ≡ start
    pub final : g.is_final ≡ true
    pub accepted : g.accepted ≡ false
    pub last : ℕ
    pub valid : IsKind start (Final last)
    pub ends : last + 1 ≡ start + length g.bodies
    pub content : HoldsEdits start (slot (Final last)) g
    pub alone : (other : ℕ) → IsKind start (Final other) → other ≢ last → slot (Final other) ≡ None

  -- a final file comes before one in progress
  pub record IsProgressOf (g : Segment) : Type 0 where
    pub start_is : g.start ≡ start
    pub final : g.is_final ≡ false
    pub none_final : NoFinal
    pub file : Option (List ℕ)
    pub counts : CountsUnderWay file ⊎ CountsPlain file
    pub content : HoldsEdits start file g
    pub accepted : IsAccepted (slot Record) g.epoch g.accepted

  pub record IsNone : Type 0 where
    pub none_final : NoFinal
    pub counts : CountsPlain None

  abbrev pub Holds : Option Segment → Type 0
  Holds None = IsNone
  Holds (Some g) = IsFinalOf g ⊎ IsProgressOf g

  pub record SlotStands (held : Option Segment) : Type 0 where
    pub record_ : IsRecordFile (slot Record)
    pub holds : Holds held

pub record StandsFor (files : Files) (gs : List Segment) : Type 0 where
  pub slots : (start : ℕ) → 1 ≤ start → start ≤ 2 ^ 62 → SlotStands start (slot_of files start) (find_segment start gs)
