-- What opening the files of a node finds.
use Rattle.std.specs.Prelude.{◌≡◌, ◌⊎◌, ℕ, ◌≤◌, ◌^◌, true, false, List, ◌∷◌, ◌++◌, Result, Ok, Err}
use Rattle.base_disk.specs.Files.{Files}
use Rattle.base_disk.specs.View.{View, IsStable}
use Rattle.base_disk.specs.declared.disk.DiskFail.{DiskFail}
use Rattle.base_disk.specs.declared.disk.DiskFail.TheVariants as fail
use Rattle.base_files.specs.Records.{IsNumber}
use Rattle.journal_core.specs.declared.segment.Segment.{Segment}
use Rattle.journal_core.specs.declared.node_state.NodeState.{NodeState}
use Rattle.journal_core.specs.Segments.{has_edit, AreSound}
use Rattle.disk_segment.specs.Names.{InProgress, name_of}
use Rattle.disk_segment.specs.Stands.{StandsFor}
use Rattle.disk_opening.specs.Opening.{IsLastingFile, IsFirst, IsBadRecordFile}
use Rattle.disk_opening.specs.Opened.{IsBadSegmentFile}
use Rattle.disk_segment.specs.RowsTell.{AreRowsOf, AreStarts, TellSegments}
use Rattle.disk_opening.specs.Completing.{Spares}
use Rattle.disk_files.specs.declared.node_number.NodeNumber.{NodeNumber}
use Rattle.disk_files.specs.declared.node_number.NodeNumber.TheVariants.{Promised, Writer, Committed}
use Rattle.disk_files.specs.declared.node_numbers.NodeNumbers.{NodeNumbers}
use Rattle.disk_files.specs.declared.files.NodeFiles.{NodeFiles}
use Rattle.disk_files.specs.declared.opened.OpenedFiles.{OpenedFiles}
use Rattle.disk_files.specs.declared.opened.OpenedFiles.TheVariants as opened
use Rattle.disk_files.specs.Durable.{number_name, StandsAs, HoldsState, AreFilled}

-- each crash now leaves the files of the numbers as reads give them
abbrev pub NumbersStable : View → Type 0
NumbersStable v = (n : NodeNumber) → IsStable (number_name n) v

abbrev pub IsNumberFile : List ℕ → Type 0
IsNumberFile name = (n : NodeNumber) × (name ≡ number_name n)

-- the name is that of a file which opening syncs: a segment's that counts, or a number's
abbrev pub IsOwnFile : List ℕ → Type 0
IsOwnFile name = IsLastingFile name ⊎ IsNumberFile name

abbrev pub number_in : NodeNumber → NodeNumbers → ℕ
number_in Promised numbers = numbers.promised
number_in Writer numbers = numbers.writer
number_in Committed numbers = numbers.committed

abbrev pub HaveNodeNumbers : Files → NodeNumbers → Type 0
HaveNodeNumbers seen numbers = (n : NodeNumber) → IsNumber (seen (number_name n)) (number_in n numbers)

abbrev pub AreSmall : NodeNumbers → Type 0
AreSmall numbers = (n : NodeNumber) → number_in n numbers ≤ 2 ^ 62

-- the file of a number that isn't in its grammar
pub record IsBadNumberFile (seen : Files) (name : List ℕ) : Type 0 where
  pub number : NodeNumber
  pub named : name ≡ number_name number
  pub bad : (n : ℕ) → IsNumber (seen name) n → ⊥

abbrev pub NoneIs : (List ℕ → Type 0) → Type 0
NoneIs P = (name : List ℕ) → P name → ⊥

-- The first bad file: number files come first, and records next, with nothing changed yet; then the
-- files of segments, as the repair leaves them.
abbrev pub IsFirstBad : Files → Files → List ℕ → Type 0
IsFirstBad old new name =
    (IsFirst (IsBadNumberFile old) name × (new ≡ old))
    ⊎ ((NoneIs (IsBadNumberFile old) × IsFirst (IsBadRecordFile old) name × (new ≡ old))
    ⊎ (NoneIs (IsBadNumberFile old) × NoneIs (IsBadRecordFile old) × IsFirst (IsBadSegmentFile new) name × Spares old new))

-- the file of the first accepted segment without an edit, which no node writes
pub record IsUnfilled (old : Files) (name : List ℕ) : Type 0 where
  pub segments : List Segment
  pub stands : StandsFor old segments
  pub sound : AreSound segments
  pub starts : AreStarts segments
  pub front : List Segment
  pub segment : Segment
  pub rest : List Segment
  pub split : segments ≡ front ++ segment ∷ rest
  pub filled : AreFilled front
  pub accepted : segment.accepted ≡ true
  pub empty : has_edit segment ≡ false
  pub named : name ≡ name_of segment.start InProgress

-- what the files stood for, and what each crash now leaves stands for, is told
pub record HoldsFiles (old : Files) (new : View) (f : NodeFiles) : Type 0 where
  pub state : NodeState
  pub stood : StandsAs old state
  pub holds : HoldsState new state
  pub promised : f.promised ≡ state.promised
  pub writer : f.writer ≡ state.writer
  pub committed : f.committed ≡ state.committed
  pub rows : AreRowsOf new.seen state.segments f.table
  pub sound : AreSound state.segments

abbrev pub OpensAs : Files → View → OpenedFiles → Type 0
OpensAs old new (opened.Files f) = HoldsFiles old new f
OpensAs old new (opened.BadFile name) = Unit {0}
OpensAs old new opened.DiskFault = Unit {0}
OpensAs old new opened.OutOfMemory = Unit {0}

-- a file is refused where the files stand for no state, or for one that no node has
abbrev pub Refuses : Files → Files → OpenedFiles → Type 0
Refuses old new (opened.BadFile name) = (((s : NodeState) → StandsAs old s → ⊥) × IsFirstBad old new name) ⊎ IsUnfilled old name
Refuses old new (opened.Files f) = Unit {0}
Refuses old new opened.DiskFault = Unit {0}
Refuses old new opened.OutOfMemory = Unit {0}

-- what is told of any disk: numbers of at most 2^62, and rows of some list of segments
abbrev pub IsWithinFiles : OpenedFiles → Type 0
IsWithinFiles (opened.Files f) = (f.promised ≤ 2 ^ 62) × (f.writer ≤ 2 ^ 62) × (f.committed ≤ 2 ^ 62) × TellSegments f.table
IsWithinFiles (opened.BadFile name) = Unit {0}
IsWithinFiles opened.DiskFault = Unit {0}
IsWithinFiles opened.OutOfMemory = Unit {0}

-- an opening as the result of a disk call
abbrev pub files_result : OpenedFiles → Result (Unit {0}) DiskFail
files_result (opened.Files f) = Ok tt
files_result (opened.BadFile name) = Ok tt
files_result opened.DiskFault = Err fail.Failed
files_result opened.OutOfMemory = Err fail.OutOfMemory
