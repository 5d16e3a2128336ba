-- What opening reads of the files of segments.
use Rattle.std.specs.Prelude.{◌≡◌, ℕ, ◌+◌, ◌<◌, List, length, Some, None, IsSome, Result, Ok, Err}
use Rattle.base_disk.specs.Files.{Files}
use Rattle.base_disk.specs.View.{View}
use Rattle.base_disk.specs.declared.disk.DiskFail.{DiskFail}
use Rattle.base_disk.specs.declared.disk.DiskFail.TheVariants as fail
use Rattle.journal_core.specs.declared.segment.Segment.{Segment}
use Rattle.journal_core.specs.Segments.{AreSound}
use Rattle.disk_frame.specs.Segments.{IsSegmentFile}
use Rattle.disk_segment.specs.Names.{Kind, InProgress, Final, name_of, IsKind}
use Rattle.disk_opening.specs.Kinds.{IsNamed}
use Rattle.disk_segment.specs.Stands.{StandsFor}
use Rattle.disk_segment.specs.Effects.{IsReady}
use Rattle.disk_opening.specs.Opening.{IsFirst}
use Rattle.disk_segment.specs.RowsTell.{AreRowsOf, OnlyAccepted, AreStarts}
use Rattle.disk_segment.specs.declared.segment_row.SegmentRow.{SegmentRow}
use Rattle.disk_opening.specs.declared.opened.Opened.{Opened}
use Rattle.disk_opening.specs.declared.opened.Opened.TheVariants as opened

-- a final one ends as its name says
abbrev pub EndsAt : Kind → ℕ → Type 0
EndsAt (Final last) next = last + 1 ≡ next
EndsAt _ next = Unit {0}

-- no final file of that start comes before it in byte order, where it is final itself
abbrev pub IsFirstFinal : Files → ℕ → Kind → Type 0
IsFirstFinal seen start (Final last) = (other : ℕ) → IsKind start (Final other) → other < last → seen (name_of start (Final other)) ≡ None
IsFirstFinal seen start _ = Unit {0}

-- the file of a segment is in its grammar, has the start of its name, and ends as its name says
pub record IsGoodFile (seen : Files) (start : ℕ) (kind : Kind) : Type 0 where
  pub bytes : List ℕ
  pub there : seen (name_of start kind) ≡ Some bytes
  pub epoch : ℕ
  pub bodies : List (List ℕ)
  pub whole_length : ℕ
  pub edits : IsSegmentFile bytes start epoch bodies whole_length
  pub ends : EndsAt kind (start + length bodies)
  pub alone : IsFirstFinal seen start kind

-- final or in progress
abbrev pub HoldsSegment : Kind → Type 0
HoldsSegment InProgress = Unit {0}
HoldsSegment (Final last) = Unit {0}
HoldsSegment _ = ⊥

-- the name is that of a segment's file that is there and isn't good
pub record IsBadSegmentFile (seen : Files) (name : List ℕ) : Type 0 where
  pub start : ℕ
  pub kind : Kind
  pub holds : HoldsSegment kind
  pub named : IsNamed name start kind
  pub there : IsSome (seen name)
  pub bad : IsGoodFile seen start kind → ⊥

-- The segments that the files stood for, by the table of their rows, and each crash now leaves
-- files that stand for them.
pub record AreOpened (old : Files) (new : View) (rows : List SegmentRow) : Type 0 where
  pub segments : List Segment
  pub sound : AreSound segments
  pub starts : AreStarts segments
  pub stands : StandsFor old segments
  pub ready : IsReady new segments
  pub told : AreRowsOf new.seen segments rows
  pub records : OnlyAccepted new.seen segments

-- what came of reading these files: a bad one is told before anything changes
abbrev pub IsOpened : View → View → Opened → Type 0
IsOpened old new (opened.Segments rows) = AreOpened old.seen new rows × ((name : List ℕ) → IsBadSegmentFile old.seen name → ⊥)
IsOpened old new (opened.BadFile name) = IsFirst (IsBadSegmentFile old.seen) name × (new.seen ≡ old.seen)
IsOpened old new opened.DiskFault = Unit {0}
IsOpened old new opened.OutOfMemory = Unit {0}

-- an opening as the result of a disk call
abbrev pub opened_result : Opened → Result (Unit {0}) DiskFail
opened_result (opened.Segments rows) = Ok tt
opened_result (opened.BadFile name) = Ok tt
opened_result opened.DiskFault = Err fail.Failed
opened_result opened.OutOfMemory = Err fail.OutOfMemory
