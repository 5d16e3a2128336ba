-- What a read of a segment finds.
use Rattle.std.specs.Prelude.{◌≡◌, ℕ, ◌+◌, ◌-◌, ◌<◌, Bool, true, List, length, take, drop, Option, Some, None, Result, Ok, Err}
use Rattle.base_disk.specs.declared.disk.DiskFail.{DiskFail}
use Rattle.base_disk.specs.declared.disk.DiskFail.TheVariants as fail
use Rattle.journal_core.specs.Views.{BatchView}
use Rattle.disk_frame.specs.Segments.{IsSegmentFile}
use Rattle.disk_segment.specs.Names.{name_of, kind_of}
use Rattle.disk_segment.specs.declared.given.Given.{Given}
use Rattle.disk_segment.specs.declared.given.Given.TheVariants as given

-- the file is that of this segment, which has these bodies, and holds the txid; a final one ends as
-- its name says
pub record Serves (start end : ℕ) (is_final : Bool) (from : ℕ) (file : Option (List ℕ)) (bodies : List (List ℕ)) : Type 0 where
  pub bytes : List ℕ
  pub there : file ≡ Some bytes
  pub epoch : ℕ
  pub whole_length : ℕ
  pub edits : IsSegmentFile bytes start epoch bodies whole_length
  pub ends : is_final ≡ true → end + 1 ≡ start + length bodies
  pub more : from < start + length bodies

-- at most 256 of its edits from there on
abbrev pub piece_of : ℕ → ℕ → List (List ℕ) → BatchView
piece_of start from bodies = record { first = from; bodies = take 256 (drop (from - start) bodies) }

-- such edits, or that the bytes have none to give
abbrev pub IsFound : ℕ → ℕ → Bool → ℕ → List ℕ → Option BatchView → Type 0
IsFound start end is_final from bytes (Some b) = (bodies : List (List ℕ)) × Serves start end is_final from (Some bytes) bodies × (b ≡ piece_of start from bodies)
IsFound start end is_final from bytes None = (bodies : List (List ℕ)) → Serves start end is_final from (Some bytes) bodies → ⊥

-- such edits, or that the file has none to give, which is told by its name
abbrev pub IsGiven : ℕ → ℕ → Bool → ℕ → Option (List ℕ) → Given → Type 0
IsGiven start end is_final from file (given.Edits b) = (bodies : List (List ℕ)) × Serves start end is_final from file bodies × (b ≡ piece_of start from bodies)
IsGiven start end is_final from file (given.BadFile name) = (name ≡ name_of start (kind_of end is_final)) × ((bodies : List (List ℕ)) → Serves start end is_final from file bodies → ⊥)
IsGiven start end is_final from file given.DiskFault = Unit {0}
IsGiven start end is_final from file given.OutOfMemory = Unit {0}

-- a read as the result of a disk call
abbrev pub given_result : Given → Result (Unit {0}) DiskFail
given_result (given.Edits b) = Ok tt
given_result (given.BadFile name) = Ok tt
given_result given.DiskFault = Err fail.Failed
given_result given.OutOfMemory = Err fail.OutOfMemory

-- that the file of this name is bad, unless memory is wanted
abbrev pub IsBad : List ℕ → Given → Type 0
IsBad name (given.Edits b) = ⊥
IsBad name (given.BadFile bad) = bad ≡ name
IsBad name given.DiskFault = ⊥
IsBad name given.OutOfMemory = Unit {0}
