-- The number, the name and the field of each cause of a refusal.
use Rattle.std.specs.Prelude.{ℕ, List, Option, Some, None, codes}
use Rattle.journal_core.specs.declared.refusal.Refusal.{Refusal}
use Rattle.journal_core.specs.declared.refusal.Refusal.TheVariants as refusal

-- the number of a cause, by its place in the order of the tests
abbrev pub refusal_number : Refusal → ℕ
refusal_number refusal.Down = 1
refusal_number (refusal.Limit number) = 2
refusal_number (refusal.EpochRefused promised) = 3
refusal_number (refusal.OldSerial seen) = 4
refusal_number (refusal.NotWriter writer) = 5
refusal_number refusal.NoOpenSegment = 6
refusal_number (refusal.WrongSegment opened) = 7
refusal_number (refusal.WrongTxid expected) = 8
refusal_number (refusal.SegmentFinal end) = 9
refusal_number (refusal.SegmentHasEdits end) = 10
refusal_number refusal.NoSegment = 11
refusal_number (refusal.OtherEpoch epoch) = 12
refusal_number (refusal.LengthDiffers end) = 13
refusal_number (refusal.Purged first) = 14
refusal_number (refusal.NotHere last) = 15
refusal_number refusal.DiskFault = 16
refusal_number refusal.OutOfMemory = 17
refusal_number refusal.BadFile = 18

unfoldable pub refusal_name : Refusal → List ℕ
refusal_name refusal.Down = codes "Down"
refusal_name (refusal.Limit number) = codes "Limit"
refusal_name (refusal.EpochRefused promised) = codes "EpochRefused"
refusal_name (refusal.OldSerial seen) = codes "OldSerial"
refusal_name (refusal.NotWriter writer) = codes "NotWriter"
refusal_name refusal.NoOpenSegment = codes "NoOpenSegment"
refusal_name (refusal.WrongSegment opened) = codes "WrongSegment"
refusal_name (refusal.WrongTxid expected) = codes "WrongTxid"
refusal_name (refusal.SegmentFinal end) = codes "SegmentFinal"
refusal_name (refusal.SegmentHasEdits end) = codes "SegmentHasEdits"
refusal_name refusal.NoSegment = codes "NoSegment"
refusal_name (refusal.OtherEpoch epoch) = codes "OtherEpoch"
refusal_name (refusal.LengthDiffers end) = codes "LengthDiffers"
refusal_name (refusal.Purged first) = codes "Purged"
refusal_name (refusal.NotHere last) = codes "NotHere"
refusal_name refusal.DiskFault = codes "DiskFault"
refusal_name refusal.OutOfMemory = codes "OutOfMemory"
refusal_name refusal.BadFile = codes "BadFile"

-- the number that a cause tells
abbrev pub refusal_field : Refusal → Option ℕ
refusal_field refusal.Down = None
refusal_field (refusal.Limit number) = Some number
refusal_field (refusal.EpochRefused promised) = Some promised
refusal_field (refusal.OldSerial seen) = Some seen
refusal_field (refusal.NotWriter writer) = Some writer
refusal_field refusal.NoOpenSegment = None
refusal_field (refusal.WrongSegment opened) = Some opened
refusal_field (refusal.WrongTxid expected) = Some expected
refusal_field (refusal.SegmentFinal end) = Some end
refusal_field (refusal.SegmentHasEdits end) = Some end
refusal_field refusal.NoSegment = None
refusal_field (refusal.OtherEpoch epoch) = Some epoch
refusal_field (refusal.LengthDiffers end) = Some end
refusal_field (refusal.Purged first) = Some first
refusal_field (refusal.NotHere last) = Some last
refusal_field refusal.DiskFault = None
refusal_field refusal.OutOfMemory = None
refusal_field refusal.BadFile = None
