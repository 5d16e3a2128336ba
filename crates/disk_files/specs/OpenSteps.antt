-- What each step of opening finds.
use Rattle.std.specs.Prelude.{◌≡◌, ◌⊎◌, ℕ, true, false, List, [], ◌∷◌, ◌++◌, Result, Ok, Err}
use Rattle.base_disk.specs.Files.{Files}
use Rattle.base_disk.specs.View.{View}
use Rattle.base_disk.specs.declared.disk.DiskFail.{DiskFail}
use Rattle.base_files.specs.Records.{IsNumber}
use Rattle.disk_segment.specs.Names.{InProgress, name_of}
use Rattle.disk_opening.specs.Opening.{IsFirst}
use Rattle.disk_opening.specs.Opened.{IsBadSegmentFile}
use Rattle.disk_segment.specs.Rows.{row_has_edit}
use Rattle.disk_segment.specs.declared.segment_row.SegmentRow.{SegmentRow}
use Rattle.disk_files.specs.declared.node_number.NodeNumber.{NodeNumber}
use Rattle.disk_files.specs.declared.node_numbers.NodeNumbers.{NodeNumbers}
use Rattle.disk_files.specs.declared.opened.OpenedFiles.{OpenedFiles}
use Rattle.disk_files.specs.declared.opened.OpenedFiles.TheVariants as opened
use Rattle.disk_files.specs.Durable.{number_name}
use Rattle.disk_files.specs.Opening.{HaveNodeNumbers, IsBadNumberFile, IsUnfilled, HoldsFiles, files_result}

-- the answer on a number file that ends opening
abbrev pub IsNumberStop : Files → NodeNumber → OpenedFiles → Type 0
IsNumberStop seen n (opened.Files f) = ⊥
IsNumberStop seen n (opened.BadFile name) = (name ≡ number_name n) × ((k : ℕ) → IsNumber (seen (number_name n)) k → ⊥)
IsNumberStop seen n opened.DiskFault = Unit {0}
IsNumberStop seen n opened.OutOfMemory = Unit {0}

abbrev pub IsNumberRead : Files → NodeNumber → Result ℕ OpenedFiles → Type 0
IsNumberRead seen n (Ok value) = IsNumber (seen (number_name n)) value
IsNumberRead seen n (Err answer) = IsNumberStop seen n answer

-- the answer on all number files that ends opening; where it names a bad one, that is the first
abbrev pub IsNumbersStop : Files → OpenedFiles → Type 0
IsNumbersStop seen (opened.Files f) = ⊥
IsNumbersStop seen (opened.BadFile name) = IsFirst (IsBadNumberFile seen) name
IsNumbersStop seen opened.DiskFault = Unit {0}
IsNumbersStop seen opened.OutOfMemory = Unit {0}

abbrev pub AreNumbersRead : Files → Result NodeNumbers OpenedFiles → Type 0
AreNumbersRead seen (Ok numbers) = HaveNodeNumbers seen numbers
AreNumbersRead seen (Err answer) = IsNumbersStop seen answer

-- a read as the result of a disk call
abbrev pub read_result : {T : Type 0} → Result T OpenedFiles → Result (Unit {0}) DiskFail
read_result (Ok value) = Ok tt
read_result (Err answer) = files_result answer

-- the segment of the row, if it is accepted, holds an edit
abbrev pub IsFilledRow : SegmentRow → Type 0
IsFilledRow row = row.info.accepted ≡ true → row_has_edit row ≡ true

abbrev pub LacksEdit : SegmentRow → Type 0
LacksEdit row = (row.info.accepted ≡ true) × (row_has_edit row ≡ false)

-- row by row
abbrev pub AreFilledRows : List SegmentRow → Type 0
AreFilledRows [] = Unit {0}
AreFilledRows (row ∷ rows) = IsFilledRow row × AreFilledRows rows

-- the first accepted segment that holds no edit has this start
pub record IsUnfilledRow (rows : List SegmentRow) (start : ℕ) : Type 0 where
  pub front : List SegmentRow
  pub row : SegmentRow
  pub rest : List SegmentRow
  pub split : rows ≡ front ++ row ∷ rest
  pub filled : AreFilledRows front
  pub lacks : LacksEdit row
  pub start_is : row.info.start ≡ start

-- that the file of this name is bad, unless memory is wanted
abbrev pub IsBadAt : List ℕ → OpenedFiles → Type 0
IsBadAt name (opened.Files f) = ⊥
IsBadAt name (opened.BadFile bad) = bad ≡ name
IsBadAt name opened.DiskFault = ⊥
IsBadAt name opened.OutOfMemory = Unit {0}

-- the numbers and the rows, if each accepted segment holds an edit
abbrev pub IsMade : NodeNumbers → List SegmentRow → OpenedFiles → Type 0
IsMade numbers rows (opened.Files f) = AreFilledRows rows × (f ≡ record { promised = numbers.promised; writer = numbers.writer; committed = numbers.committed; table = rows })
IsMade numbers rows (opened.BadFile name) = (start : ℕ) × IsUnfilledRow rows start × (name ≡ name_of start InProgress)
IsMade numbers rows opened.DiskFault = ⊥
IsMade numbers rows opened.OutOfMemory = Unit {0}

-- what comes of opening the segments of repaired files
abbrev pub IsFoundRepaired : Files → View → OpenedFiles → Type 0
IsFoundRepaired old new (opened.Files f) = HoldsFiles old new f
IsFoundRepaired old new (opened.BadFile name) = (IsFirst (IsBadSegmentFile old) name × (new.seen ≡ old)) ⊎ IsUnfilled old name
IsFoundRepaired old new opened.DiskFault = Unit {0}
IsFoundRepaired old new opened.OutOfMemory = Unit {0}
