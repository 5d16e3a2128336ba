-- Faults: their statuses and their lines.
use Rattle.std.specs.Prelude.{ℕ, List, [], ◌∷◌, ◌++◌, codes, decimal}
use Rattle.list_oev.specs.declared.segment_listing.SegmentCause.{SegmentCause}
use Rattle.list_oev.specs.declared.segment_listing.SegmentCause.TheVariants as cause
use Rattle.list_oiv.specs.declared.image_listing.ImageByteCause.{ImageByteCause}
use Rattle.list_oiv.specs.declared.image_listing.ImageByteCause.TheVariants as image
use Rattle.cli_commands.specs.declared.status.Status.{Status}
use Rattle.cli_commands.specs.declared.status.Status.TheVariants as status
use Rattle.cli_commands.specs.declared.command_fault.CommandFault.{CommandFault}
use Rattle.cli_commands.specs.declared.command_fault.CommandFault.TheVariants as fault

abbrev pub status_of : CommandFault → Status
status_of (fault.Usage place) = status.Usage
status_of (fault.BadScript line rule) = status.BadScript
status_of (fault.BadReport line rule) = status.BadScript
status_of fault.NoFile = status.BadBytes
status_of (fault.BadBytes place cause) = status.BadBytes
status_of (fault.BadImage place cause) = status.BadBytes
status_of (fault.BadFile name) = status.BadBytes
status_of fault.NoPath = status.BadBytes
status_of fault.NotJson = status.BadBytes
status_of (fault.BadEntry index) = status.BadBytes
status_of (fault.TooManyEntries number) = status.Limit
status_of (fault.Limit number) = status.Limit
status_of fault.ReadFault = status.ReadFault
status_of fault.DiskFault = status.DiskFault
status_of fault.OutOfMemory = status.OutOfMemory

-- what is wrong with the bytes of a segment's file
abbrev pub cause_word : SegmentCause → List ℕ
cause_word cause.Header = codes "Header"
cause_word cause.Short = codes "Short"
cause_word cause.Length = codes "Length"
cause_word cause.Count = codes "Count"
cause_word cause.Body = codes "Body"
cause_word cause.Order = codes "Order"
cause_word cause.Opcode = codes "Opcode"
cause_word cause.Trailing = codes "Trailing"
cause_word cause.Field = codes "Field"

-- what is wrong with the bytes of an image
abbrev pub image_cause_word : ImageByteCause → List ℕ
image_cause_word image.Short = codes "Short"
image_cause_word image.Magic = codes "Magic"
image_cause_word image.Layout = codes "Layout"
image_cause_word image.Field = codes "Field"
image_cause_word image.Order = codes "Order"
image_cause_word image.NoParent = codes "NoParent"
image_cause_word image.Trailing = codes "Trailing"

abbrev pub error_line : List ℕ → List ℕ
error_line what = codes "error " ++ what ++ 10 ∷ []

abbrev pub line_of : CommandFault → List ℕ
line_of (fault.Usage place) = error_line (codes "Usage " ++ decimal place)
line_of (fault.BadScript line rule) = error_line (codes "BadScript " ++ decimal line ++ 32 ∷ decimal rule)
line_of (fault.BadReport line rule) = error_line (codes "BadReport " ++ decimal line ++ 32 ∷ decimal rule)
line_of fault.NoFile = error_line (codes "BadBytes 0 NoFile")
line_of (fault.BadBytes place cause) = error_line (codes "BadBytes " ++ decimal place ++ 32 ∷ cause_word cause)
line_of (fault.BadImage place cause) = error_line (codes "BadBytes " ++ decimal place ++ 32 ∷ image_cause_word cause)
line_of (fault.BadFile name) = error_line (codes "BadBytes 0 BadFile " ++ name)
line_of fault.NoPath = error_line (codes "BadBytes 0 NoPath")
line_of fault.NotJson = error_line (codes "BadBytes 0 Json")
line_of (fault.BadEntry index) = error_line (codes "BadBytes " ++ decimal index ++ 32 ∷ codes "Entry")
line_of (fault.TooManyEntries number) = error_line (codes "Limit " ++ decimal number)
line_of (fault.Limit number) = error_line (codes "Limit " ++ decimal number)
line_of fault.ReadFault = error_line (codes "ReadFault")
line_of fault.DiskFault = error_line (codes "DiskFault")
line_of fault.OutOfMemory = error_line (codes "OutOfMemory")
