-- What the calls on segment files promise, in the words of their contracts.
use Rattle.std.specs.Prelude.{◌≡◌, ℕ, ◌+◌, List, ◌++◌, length, Option, Some, Result, OnOk, IsErrOf}
use Rattle.base_disk.specs.Files.{ChangesOnly}
use Rattle.base_disk.specs.View.{View}
use Rattle.base_disk.specs.Calls.{Effect}
use Rattle.base_disk.specs.declared.disk.DiskFail.{DiskFail}
use Rattle.base_disk.specs.declared.disk.DiskFail.TheVariants.{Failed}
use Rattle.base_disk.specs.declared.disk.DiskModel.{Ghosts}
use Rattle.base_files.specs.Puts.{Disturbs}
use Rattle.journal_core.specs.Views.{BatchView}
use Rattle.journal_core.specs.declared.cut.Cut.{Cut}
use Rattle.journal_core.specs.declared.segment.Segment.{Segment}
use Rattle.journal_core.specs.declared.segment_line.SegmentLine.{SegmentLine}
use Rattle.journal_core.specs.Cuts.{Cost}
use Rattle.journal_core.specs.Effects.{Effect as Change, segments_after}
use Rattle.disk_frame.specs.Frames.{frame_bytes}
use Rattle.disk_segment.specs.Seal.{IsBlank, StaysBlank, Seals, IsCutAfter}
use Rattle.disk_segment.specs.Places.{Places}
use Rattle.disk_segment.specs.Names.{InProgress, kind_of, name_of}
use Rattle.disk_segment.specs.Effects.{IsReady, Becomes, IsCut, AppendsAt}
use Rattle.disk_segment.specs.Calls.{AppendsFrame}

-- the name of the file of a listed segment
abbrev pub file_of : SegmentLine → List ℕ
file_of segment = name_of segment.start (kind_of segment.end segment.is_final)

-- a seal stands blank at this place of a file
abbrev pub HasBlankSeal : List ℕ → ℕ → View → Type 0
HasBlankSeal name at v = IsBlank at (v.seen name)

-- bytes are appended after the seal, all or nothing
abbrev pub SetsSeal : {T : Type 0} → List ℕ → ℕ → List ℕ → Result T DiskFail → View → View → Type 0
SetsSeal name at behind result = Effect (ChangesOnly name (StaysBlank at)) (ChangesOnly name (Seals at behind)) result

-- where the disk failed with so many calls left, what each cut leaves of bytes that were to be
-- appended after the seal
abbrev pub IsCutBehind : {D T : Type 0} → Ghosts D → D → D → List ℕ → ℕ → List ℕ → Result T DiskFail → Type 0
IsCutBehind disk old new name at behind result = disk.tells old → (k : ℕ) → disk.left old ≡ Some k → IsErrOf result Failed → IsCutAfter k name at behind (disk.view old) (disk.view new)

-- the frame of a batch is appended to the file in progress, all or nothing
abbrev pub IsFrameAppended : {T : Type 0} → ℕ → ℕ → BatchView → Result T DiskFail → View → View → Type 0
IsFrameAppended start at b result = Effect (ChangesOnly (name_of start InProgress) (StaysBlank at)) (AppendsFrame start at b) result

-- bytes are put in the place of a file by way of another one, which may be there
abbrev pub IsPlaced : {T : Type 0} → List ℕ → List ℕ → List ℕ → Result T DiskFail → View → View → Type 0
IsPlaced name tmp bytes result = Effect (Disturbs tmp) (Places name tmp bytes) result

-- This change of the segments is made as one effect, whatever segments the files stand for, if it
-- can be.
abbrev pub Makes : {T E : Type 0} → Change → (List Segment → View → Type 0) → Result T E → View → View → Type 0
Makes change can result old new = (gs : List Segment) → IsReady old gs → can gs old → Becomes gs (segments_after gs change) result old new

-- This change of the segments, which asks for a segment, is made as one effect, whatever segments
-- the files stand for and whichever it asks for, if it can be.
abbrev pub MakesOf : {T E : Type 0} → Change → (List Segment → View → Segment → Type 0) → Result T E → View → View → Type 0
MakesOf change can result old new = (gs : List Segment) (g : Segment) → IsReady old gs → can gs old g → Becomes gs (segments_after gs change) result old new

-- Where the disk failed with so many calls left, the change is made in each cut where its deciding
-- call is among them.
abbrev pub IsCutOff : {T : Type 0} → (Cut → Cost) → Change → (List Segment → View → Type 0) → Option ℕ → Result T DiskFail → View → View → Type 0
IsCutOff cost change can left result old new = (gs : List Segment) → IsReady old gs → can gs old → IsCut cost gs (segments_after gs change) left result new

-- Where the disk failed with so many calls left, the change, which asks for a segment, is made in
-- each cut where its deciding call is among them.
abbrev pub IsCutOffOf : {T : Type 0} → (Cut → Cost) → Change → (List Segment → View → Segment → Type 0) → Option ℕ → Result T DiskFail → View → View → Type 0
IsCutOffOf cost change can left result old new = (gs : List Segment) (g : Segment) → IsReady old gs → can gs old g → IsCut cost gs (segments_after gs change) left result new

-- where a batch was appended to a segment that ends before it, the next frame goes after its own
abbrev pub Lengthens : {T : Type 0} → ℕ → ℕ → BatchView → Result T DiskFail → View → View → Type 0
Lengthens start at b result old new = (g : Segment) → g.start ≡ start → AppendsAt old g at → b.first ≡ start + length g.bodies
    → OnOk result (AppendsAt new (record g { bodies = g.bodies ++ b.bodies }) (at + length (frame_bytes b)))
