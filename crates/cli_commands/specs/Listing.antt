-- How a tool that makes something of a file ends, and what it writes.
use Rattle.std.specs.Prelude.{ℕ, ◌≡◌, ◌+◌, ◌<◌, ◌≤◌, List, Option, Some, None, IsSome, Result, Ok, Err, length}
use Rattle.base_outside.specs.Faults.{Rose}
use Rattle.base_disk.specs.Calls.{HasCause, Rests}
use Rattle.base_disk.specs.declared.disk.DiskFail.{DiskFail}
use Rattle.base_disk.specs.declared.disk.DiskFail.TheVariants as fail
use Rattle.edit_ops.specs.Records.{EditView}
use Rattle.list_oev.specs.Lines.{lines}
use Rattle.list_oev.specs.Counts.{statistics}
use Rattle.list_oev.specs.Entries.{entry_lines}
use Rattle.list_oev.specs.Segment.{IsSegment}
use Rattle.list_oev.specs.Damage.{IsDamaged}
use Rattle.list_oev.specs.Listed.{IsTold}
use Rattle.list_back.specs.Backs.{HasNoArray, HasLongArray, HasBadMember, BecomesSegment, IsOfObjects}
use Rattle.cli_commands.specs.declared.status.Status.{Status}
use Rattle.cli_commands.specs.declared.status.Status.TheVariants as status
use Rattle.cli_commands.specs.declared.command_fault.CommandFault.{CommandFault}
use Rattle.cli_commands.specs.declared.command_fault.CommandFault.TheVariants as fault
use Rattle.ns_tree.specs.declared.inode.Row.{Row}
use Rattle.ns_tree.specs.Space.{Space, find}
use Rattle.ns_image.specs.Reading.{reading_of}
use Rattle.ns_image.specs.declared.image_cause.ImageCause.{ImageCause}
use Rattle.ns_image.specs.declared.answer.ReadImage.TheVariants.{Image, BadImage}
use Rattle.list_oiv.specs.Listed.{cause_of}
use Rattle.list_oiv.specs.Delimited.{delimited}
use Rattle.list_oiv.specs.Sizes.{sizes}
use Rattle.list_oiv.specs.Entries.{rows_json}
use Rattle.list_oiv.specs.Directory.{path_listing}
use Rattle.cli_commands.specs.declared.tool.SegmentTool.{SegmentTool}
use Rattle.cli_commands.specs.declared.tool.SegmentTool.TheVariants as segment
use Rattle.cli_commands.specs.declared.tool.ImageTool.{ImageTool}
use Rattle.cli_commands.specs.declared.tool.ImageTool.TheVariants as image
use Rattle.cli_commands.specs.Tools.{Tool}
use Rattle.cli_commands.specs.Tools as tool
use Rattle.cli_commands.specs.Uses.{SinkUse, DiskUse, NoDiskFailed}
use Rattle.cli_commands.specs.Told.{Told}

-- ## What is due of a file
abbrev pub longest_file : ℕ
longest_file = 134217728

-- what is told of a segment's edits from a txid on
abbrev pub told_by : SegmentTool → ℕ → List EditView → List ℕ
told_by segment.List = lines
told_by segment.Stats = λ start. statistics
told_by segment.Json = entry_lines

-- what is told of an image's rows
abbrev pub rows_told_by : ImageTool → List Row → List ℕ
rows_told_by image.Delimited = delimited
rows_told_by image.Sizes = sizes
rows_told_by image.Json = rows_json

-- the bytes are an image, and the text is what is told of its rows
pub record IsImageTold (tell : List Row → List ℕ) (bytes text : List ℕ) : Type 0 where
  pub space : Space
  pub txid : ℕ
  pub read : reading_of bytes ≡ Image space txid
  pub spelled : text ≡ tell space.pairs

-- the bytes are an image, and the text is what stands at the path of it
pub record IsPathTold (path bytes text : List ℕ) : Type 0 where
  pub space : Space
  pub txid : ℕ
  pub read : reading_of bytes ≡ Image space txid
  pub spelled : path_listing path space.pairs ≡ Some text

-- the bytes are an image that has nothing at the path
pub record LacksPath (path bytes : List ℕ) : Type 0 where
  pub space : Space
  pub txid : ℕ
  pub read : reading_of bytes ≡ Image space txid
  pub absent : find path space.pairs ≡ None

-- the text is what the tool tells of all of these bytes
abbrev pub IsToldBy : Tool → List ℕ → List ℕ → Type 0
IsToldBy (tool.Oev of) bytes text = IsTold (told_by of) bytes text
IsToldBy (tool.Oiv of) bytes text = IsImageTold (rows_told_by of) bytes text
IsToldBy (tool.Ls path) bytes text = IsPathTold path bytes text
IsToldBy (tool.Back start epoch) bytes text = BecomesSegment start epoch bytes text

-- the bytes are a segment's file, an image that has the path if there is one, or the objects of
-- edits, as the tool wants them
abbrev pub IsInGrammar : Tool → List ℕ → Type 0
IsInGrammar (tool.Oev of) bytes = (start : ℕ) × (edits : List EditView) × IsSegment bytes start edits
IsInGrammar (tool.Oiv of) bytes = (space : Space) × (txid : ℕ) × (reading_of bytes ≡ Image space txid)
IsInGrammar (tool.Ls path) bytes = (space : Space) × (txid : ℕ) × (reading_of bytes ≡ Image space txid) × IsSome (find path space.pairs)
IsInGrammar (tool.Back start epoch) bytes = IsOfObjects start bytes

-- The bytes aren't, and this is their first damage. Of a path: the image doesn't have it. Of a
-- listing as JSON: they are no array; or an
-- array of too many values; or the value at a place is the first that is the object of no edit.
abbrev pub IsBytesFault : Tool → List ℕ → CommandFault → Type 0
IsBytesFault (tool.Oev of) bytes (fault.BadBytes place cause) = (IsInGrammar (tool.Oev of) bytes → ⊥) × IsDamaged bytes place cause
IsBytesFault (tool.Oiv of) bytes (fault.BadImage place cause) = (why : ImageCause) × (reading_of bytes ≡ BadImage place why) × (cause_of why ≡ Some cause)
IsBytesFault (tool.Ls path) bytes (fault.BadImage place cause) = (why : ImageCause) × (reading_of bytes ≡ BadImage place why) × (cause_of why ≡ Some cause)
IsBytesFault (tool.Ls path) bytes fault.NoPath = LacksPath path bytes
IsBytesFault (tool.Back start epoch) bytes fault.NotJson = HasNoArray bytes
IsBytesFault (tool.Back start epoch) bytes (fault.TooManyEntries number) = HasLongArray bytes number
IsBytesFault (tool.Back start epoch) bytes (fault.BadEntry index) = HasBadMember start bytes index
IsBytesFault of bytes _ = ⊥

-- a file of more bytes than are listed
abbrev pub IsTooLong : Option (List ℕ) → Type 0
IsTooLong None = ⊥
IsTooLong (Some bytes) = longest_file < length bytes

-- the text is what the tool tells of the whole file
abbrev pub IsListing : Tool → Option (List ℕ) → List ℕ → Type 0
IsListing of None text = ⊥
IsListing of (Some bytes) text = (length bytes ≤ longest_file) × IsToldBy of bytes text

-- the bytes of the file have this damage
abbrev pub HasDamage : Tool → Option (List ℕ) → CommandFault → Type 0
HasDamage of None why = ⊥
HasDamage of (Some bytes) why = (length bytes ≤ longest_file) × IsBytesFault of bytes why

-- there is no such file; or its bytes aren't what the tool wants, and this is their first damage
abbrev pub IsFileFault : Tool → Option (List ℕ) → CommandFault → Type 0
IsFileFault of file fault.NoFile = file ≡ None
IsFileFault of file (fault.BadBytes place cause) = HasDamage of file (fault.BadBytes place cause)
IsFileFault of file (fault.BadImage place cause) = HasDamage of file (fault.BadImage place cause)
IsFileFault of file fault.NoPath = HasDamage of file fault.NoPath
IsFileFault of file fault.NotJson = HasDamage of file fault.NotJson
IsFileFault of file (fault.BadEntry index) = HasDamage of file (fault.BadEntry index)
IsFileFault of file (fault.TooManyEntries number) = HasDamage of file (fault.TooManyEntries number)
IsFileFault of file _ = ⊥

-- a file has one listing by a tool, and one fault
abbrev pub FilesHaveOneListing : Type 0
FilesHaveOneListing = (of : Tool) (file : Option (List ℕ)) (a b : List ℕ) → IsListing of file a → IsListing of file b → a ≡ b

abbrev pub FilesHaveOneFault : Type 0
FilesHaveOneFault = (of : Tool) (file : Option (List ℕ)) (a b : CommandFault) → IsFileFault of file a → IsFileFault of file b → a ≡ b

-- and not both
abbrev pub ListedFilesHaveNoFault : Type 0
ListedFilesHaveNoFault = (of : Tool) (file : Option (List ℕ)) (text : List ℕ) (why : CommandFault) → IsListing of file text → IsFileFault of file why → ⊥

-- ## What is due of a disk
-- the file that the disk had under the name
abbrev pub file_under : {D : Type 0} → DiskUse D → List ℕ → Option (List ℕ)
file_under disk name = (disk.view disk.before).seen name

-- where it is known how many calls the disk has left, it has one
abbrev pub HasCalls : {D : Type 0} → DiskUse D → Type 0
HasCalls disk = disk.left disk.before ≡ Some 0 → ⊥

-- this holds of the file that was read: the one under the name, where the disk tells its bytes
pub record OfFile {D : Type 0} (disk : DiskUse D) (name : List ℕ) (P : Option (List ℕ) → Type 0) : Type 0 where
  pub file : Option (List ℕ)
  pub same : disk.tells disk.before → file ≡ file_under disk name
  pub calls : HasCalls disk
  pub so : P file

-- with status Ok the listing of the file
abbrev pub GivesListing : {D : Type 0} → Tool → List ℕ → DiskUse D → Status → List ℕ → Type 0
GivesListing of name disk good text = (good ≡ status.Ok) × OfFile disk name (λ file. IsListing of file text)

-- Each fault comes only where this holds. No two of them hold of one file, but for a disk that
-- failed and lack of memory, so each comes exactly there. A disk fault comes where the disk has no
-- call left, and not where it is known to have two. Where one came, no lack of memory is told.
abbrev pub IsListFault : {D : Type 0} → Tool → List ℕ → DiskUse D → CommandFault → Type 0
IsListFault of name disk fault.NoFile = OfFile disk name (λ file. IsFileFault of file fault.NoFile)
IsListFault of name disk (fault.BadBytes place cause) = OfFile disk name (λ file. IsFileFault of file (fault.BadBytes place cause))
IsListFault of name disk (fault.BadImage place cause) = OfFile disk name (λ file. IsFileFault of file (fault.BadImage place cause))
IsListFault of name disk fault.NoPath = OfFile disk name (λ file. IsFileFault of file fault.NoPath)
IsListFault of name disk fault.NotJson = OfFile disk name (λ file. IsFileFault of file fault.NotJson)
IsListFault of name disk (fault.BadEntry index) = OfFile disk name (λ file. IsFileFault of file (fault.BadEntry index))
IsListFault of name disk (fault.TooManyEntries number) = OfFile disk name (λ file. IsFileFault of file (fault.TooManyEntries number))
IsListFault of name disk (fault.Limit number) = (number ≡ longest_file) × HasCalls disk × (disk.tells disk.before → IsTooLong (file_under disk name))
IsListFault of name disk fault.DiskFault =
    Rose (disk.faults disk.before) (disk.faults disk.now) × ((k : ℕ) → disk.left disk.before ≡ Some (2 + k) → ⊥)
IsListFault of name disk fault.OutOfMemory = NoDiskFailed disk
IsListFault of name disk _ = ⊥

-- ## What was done
-- a status as the answer of a disk
abbrev pub disk_answer : Status → Result (Unit {0}) DiskFail
disk_answer status.DiskFault = Err fail.Failed
disk_answer status.OutOfMemory = Err fail.OutOfMemory
disk_answer _ = Ok tt

-- the disk was read and not changed, and a disk fault is told just where one came
pub record IsOnlyRead {D : Type 0} (disk : DiskUse D) (s : Status) : Type 0 where
  pub rests : disk.tells disk.before → Rests (disk.view disk.before) (disk.view disk.now)
  pub cause : HasCause (disk.faults disk.before) (disk.faults disk.now) (disk.steady disk.before) (disk.steady disk.now) (disk_answer s)

-- How a listing ended.
pub record Lists {D : Type 0} (of : Tool) (name : List ℕ) (disk : DiskUse D) (sink : SinkUse) (s : Status) : Type 0 where
  pub told : Told (GivesListing of name disk) (IsListFault of name disk) s sink
  pub disk_is : IsOnlyRead disk s
