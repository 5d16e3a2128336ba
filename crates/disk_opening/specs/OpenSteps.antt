-- What each step of opening finds.
use Rattle.std.specs.Prelude.{◌≡◌, ◌⊎◌, ℕ, ◌+◌, ◌-◌, Bool, true, false, List, length, Option, Some, None, IsSome, Result, Ok, Err}
use Rattle.base_disk.specs.Files.{Files, ChangesOnly, IsGone}
use Rattle.base_disk.specs.View.{View}
use Rattle.base_disk.specs.Calls.{Atomic, Keeps}
use Rattle.base_disk.specs.declared.disk.DiskFail.{DiskFail}
use Rattle.base_disk.specs.declared.disk.DiskFail.TheVariants as fail
use Rattle.journal_core.specs.declared.segment.Segment.{Segment}
use Rattle.journal_core.specs.Segments.{info_of, end_of, AreSound}
use Rattle.disk_frame.specs.Segments.{IsSegmentFile}
use Rattle.disk_segment.specs.Names.{Kind, InProgress, Final, Record, name_of, kind_of}
use Rattle.disk_opening.specs.Kinds.{IsNamed}
use Rattle.disk_segment.specs.Stands.{StandsFor, IsRecordFile, IsAccepted}
use Rattle.disk_opening.specs.Opening.{IsFirst}
use Rattle.disk_opening.specs.Opened.{EndsAt, IsGoodFile, HoldsSegment, IsBadSegmentFile, opened_result}
use Rattle.disk_segment.specs.RowsTell.{AreRowsOf, AreStarts}
use Rattle.disk_segment.specs.Rows.{find_row, put_row, IsRowWithin}
use Rattle.disk_segment.specs.declared.file_scan.FileScan.{FileScan}
use Rattle.disk_segment.specs.declared.segment_row.SegmentRow.{SegmentRow}
use Rattle.disk_opening.specs.declared.opened.Opened.{Opened}
use Rattle.disk_opening.specs.declared.opened.Opened.TheVariants as opened
use Rattle.disk_opening.specs.declared.judged.Judgment.{Judgment}
use Rattle.disk_opening.specs.declared.judged.Judgment.TheVariants as judged

-- a final segment with this last txid, or one in progress
abbrev pub kind_by : Option ℕ → Kind
kind_by None = InProgress
kind_by (Some last) = Final last

abbrev pub is_final_by : Option ℕ → Bool
is_final_by None = false
is_final_by (Some last) = true

abbrev pub segment_in : ℕ → ℕ → List (List ℕ) → Bool → Segment
segment_in start epoch bodies is_final = record { start = start; epoch = epoch; bodies = bodies; is_final = is_final; accepted = false }

-- the row of the segment whose file was scanned
abbrev pub row_in : ℕ → FileScan → Bool → SegmentRow
row_in start f is_final = record {
  info = record { start = start; end = start + f.scan.count - 1; epoch = f.epoch; is_final = is_final; accepted = false };
  whole_length = 24 + f.scan.whole_length;
}

-- the row tells the segment that these bytes hold, which isn't known to be accepted
pub record IsRowIn (start : ℕ) (last : Option ℕ) (bytes : List ℕ) (g : Segment) (row : SegmentRow) : Type 0 where
  pub start_is : g.start ≡ start
  pub final_is : g.is_final ≡ is_final_by last
  pub accepted : g.accepted ≡ false
  pub edits : IsSegmentFile bytes start g.epoch g.bodies row.whole_length
  pub ends : EndsAt (kind_by last) (start + length g.bodies)
  pub info : row.info ≡ info_of g

-- the row of the segment whose file has these bytes, if they are in its grammar and end as its name
-- says
abbrev pub IsRowFound : ℕ → Option ℕ → List ℕ → Option SegmentRow → Type 0
IsRowFound start last bytes None = (epoch whole_length : ℕ) (bodies : List (List ℕ)) → IsSegmentFile bytes start epoch bodies whole_length → EndsAt (kind_by last) (start + length bodies) → ⊥
IsRowFound start last bytes (Some row) = (g : Segment) × IsRowIn start last bytes g row

-- a final segment isn't an accepted one
abbrev pub IsAcceptedAs : Bool → Option (List ℕ) → ℕ → Bool → Type 0
IsAcceptedAs true file epoch accepted = accepted ≡ false
IsAcceptedAs false file epoch accepted = IsAccepted file epoch accepted

-- the row, with whether its segment is accepted
pub record IsMarked (file : Option (List ℕ)) (old new : SegmentRow) : Type 0 where
  pub whole : new.whole_length ≡ old.whole_length
  pub info : new.info ≡ record old.info { accepted = new.info.accepted }
  pub accepted : IsAcceptedAs old.info.is_final file old.info.epoch new.info.accepted

abbrev pub IsMarkedBy : ℕ → Option (List ℕ) → SegmentRow → Judgment → Type 0
IsMarkedBy start file row judged.Other = ⊥
IsMarkedBy start file row (judged.Row new) = IsMarked file row new
IsMarkedBy start file row (judged.BadFile bad) = (bad ≡ name_of start Record) × (IsRecordFile file → ⊥)
IsMarkedBy start file row judged.DiskFault = Unit {0}
IsMarkedBy start file row judged.OutOfMemory = Unit {0}

abbrev pub IsWithinRow : Judgment → Type 0
IsWithinRow (judged.Row row) = IsRowWithin row
IsWithinRow _ = Unit {0}

-- that the file of this name is bad, unless memory is wanted
abbrev pub IsBadAt : List ℕ → Judgment → Type 0
IsBadAt name (judged.BadFile bad) = bad ≡ name
IsBadAt name judged.OutOfMemory = Unit {0}
IsBadAt name _ = ⊥

-- the file holds this segment, and the row tells it
pub record IsReadAs (seen : Files) (start : ℕ) (kind : Kind) (g : Segment) (row : SegmentRow) : Type 0 where
  pub start_is : g.start ≡ start
  pub kind_is : kind_of (end_of g) g.is_final ≡ kind
  pub bytes : List ℕ
  pub there : seen (name_of start kind) ≡ Some bytes
  pub edits : IsSegmentFile bytes start g.epoch g.bodies row.whole_length
  pub ends : EndsAt kind (start + length g.bodies)
  pub accepted : IsAcceptedAs g.is_final (seen (name_of start Record)) g.epoch g.accepted
  pub info : row.info ≡ info_of g

-- the file of this name is bad: that of the segment, or its record
abbrev pub IsFault : Files → ℕ → Kind → List ℕ → Type 0
IsFault seen start kind bad =
    ((bad ≡ name_of start kind) × (IsGoodFile seen start kind → ⊥))
    ⊎ ((bad ≡ name_of start Record) × (IsRecordFile (seen (name_of start Record)) → ⊥))

-- what a segment's file is
abbrev pub IsJudged : Files → ℕ → Kind → Judgment → Type 0
IsJudged seen start kind judged.Other = ⊥
IsJudged seen start kind (judged.Row row) = (g : Segment) × IsReadAs seen start kind g row
IsJudged seen start kind (judged.BadFile bad) = IsFault seen start kind bad
IsJudged seen start kind judged.DiskFault = Unit {0}
IsJudged seen start kind judged.OutOfMemory = Unit {0}

-- the name is that of a segment's file
pub record IsSegmentName (name : List ℕ) (start : ℕ) (kind : Kind) : Type 0 where
  pub holds : HoldsSegment kind
  pub named : IsNamed name start kind

abbrev pub IsNoSegment : List ℕ → Type 0
IsNoSegment name = (start : ℕ) (kind : Kind) → IsSegmentName name start kind → ⊥

-- what the file of this name is
abbrev pub IsJudgedName : Files → List ℕ → Judgment → Type 0
IsJudgedName seen name judged.Other = IsNoSegment name
IsJudgedName seen name (judged.Row row) = (start : ℕ) × (kind : Kind) × IsSegmentName name start kind × IsJudged seen start kind (judged.Row row)
IsJudgedName seen name (judged.BadFile bad) = (start : ℕ) × (kind : Kind) × IsSegmentName name start kind × IsJudged seen start kind (judged.BadFile bad)
IsJudgedName seen name judged.DiskFault = Unit {0}
IsJudgedName seen name judged.OutOfMemory = Unit {0}

-- the file of a segment of whose start there is no row
pub record IsNewRow (seen : Files) (name : List ℕ) (rows : List SegmentRow) (row : SegmentRow) : Type 0 where
  pub start : ℕ
  pub kind : Kind
  pub named : IsSegmentName name start kind
  pub segment : Segment
  pub read : IsReadAs seen start kind segment row
  pub first : find_row start rows ≡ None

-- a bad file, or a second one of a start
pub record IsRefused (seen : Files) (name : List ℕ) (rows : List SegmentRow) (bad : List ℕ) : Type 0 where
  pub start : ℕ
  pub kind : Kind
  pub named : IsSegmentName name start kind
  pub why : IsFault seen start kind bad ⊎ ((bad ≡ name) × IsSome (find_row start rows))

-- what the file of this name is beside those of the rows
abbrev pub IsJudgedBeside : Files → List ℕ → List SegmentRow → Judgment → Type 0
IsJudgedBeside seen name rows judged.Other = IsNoSegment name
IsJudgedBeside seen name rows (judged.Row row) = IsNewRow seen name rows row
IsJudgedBeside seen name rows (judged.BadFile bad) = IsRefused seen name rows bad
IsJudgedBeside seen name rows judged.DiskFault = Unit {0}
IsJudgedBeside seen name rows judged.OutOfMemory = Unit {0}

-- the file of this name has its row, where it is a segment's
pub record IsAdded (seen : Files) (name : List ℕ) (old new : List SegmentRow) : Type 0 where
  pub either : (IsNoSegment name × (new ≡ old)) ⊎ ((row : SegmentRow) × IsNewRow seen name old row × (new ≡ put_row row old))

-- opening goes on, or ends with an answer
abbrev pub IsStep : Files → List ℕ → List SegmentRow → List SegmentRow → Option Opened → Type 0
IsStep seen name old new None = IsAdded seen name old new
IsStep seen name old new (Some (opened.Segments rows)) = ⊥
IsStep seen name old new (Some (opened.BadFile bad)) = IsRefused seen name old bad
IsStep seen name old new (Some opened.DiskFault) = Unit {0}
IsStep seen name old new (Some opened.OutOfMemory) = Unit {0}

-- the files stand for these segments, which the rows tell, and no file of a segment is bad
pub record AreRead (seen : Files) (rows : List SegmentRow) : Type 0 where
  pub segments : List Segment
  pub sound : AreSound segments
  pub starts : AreStarts segments
  pub stands : StandsFor seen segments
  pub told : AreRowsOf seen segments rows
  pub good : (name : List ℕ) → IsBadSegmentFile seen name → ⊥

abbrev pub IsReadWhole : Files → Opened → Type 0
IsReadWhole seen (opened.Segments rows) = AreRead seen rows
IsReadWhole seen (opened.BadFile name) = IsFirst (IsBadSegmentFile seen) name
IsReadWhole seen opened.DiskFault = Unit {0}
IsReadWhole seen opened.OutOfMemory = Unit {0}

abbrev pub IsFree : Option SegmentRow → Type 0
IsFree None = Unit {0}
IsFree (Some row) = row.info.accepted ≡ false

-- the record of a segment that isn't accepted
pub record IsIdle (rows : List SegmentRow) (name : List ℕ) : Type 0 where
  pub start : ℕ
  pub named : IsNamed name start Record
  pub free : IsFree (find_row start rows)

-- such a record is removed, and else nothing changes
pub record RemovesIdle {T : Type 0} (rows : List SegmentRow) (name : List ℕ) (result : Result T DiskFail) (old new : View) : Type 0 where
  pub either : (IsIdle rows name × Atomic (ChangesOnly name IsGone) result old new) ⊎ ((IsIdle rows name → ⊥) × Keeps old new)

-- a judgement as the result of a disk call
abbrev pub judged_result : Judgment → Result (Unit {0}) DiskFail
judged_result judged.Other = Ok tt
judged_result (judged.Row row) = Ok tt
judged_result (judged.BadFile name) = Ok tt
judged_result judged.DiskFault = Err fail.Failed
judged_result judged.OutOfMemory = Err fail.OutOfMemory

-- how a step of opening went, as the result of a disk call: it goes on, or ends with an answer
abbrev pub step_result : Option Opened → Result (Unit {0}) DiskFail
step_result None = Ok tt
step_result (Some answer) = opened_result answer
