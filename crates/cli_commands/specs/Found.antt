-- What was found under a name.
use Rattle.std.specs.Prelude.{◌≡◌, ◌≤◌, ℕ, List, length, Option, Some, None, Result, Ok, Err}
use Rattle.base_disk.specs.declared.disk.DiskFail.{DiskFail}
use Rattle.base_disk.specs.declared.disk.DiskFail.TheVariants as fail
use Rattle.cli_commands.specs.declared.command_fault.CommandFault.{CommandFault}
use Rattle.cli_commands.specs.declared.command_fault.CommandFault.TheVariants as fault
use Rattle.cli_commands.specs.Tools.{Tool}
use Rattle.cli_commands.specs.declared.found.Found.{Found}
use Rattle.cli_commands.specs.declared.found.Found.TheVariants.{Absent, TooLong, Bytes}
use Rattle.cli_commands.specs.Listing.{longest_file, IsTooLong, IsListing, IsFileFault}

-- the file that has this name is so
abbrev pub IsFound : Option (List ℕ) → Found → Type 0
IsFound file Absent = file ≡ None
IsFound file TooLong = IsTooLong file
IsFound file (Bytes bytes) = file ≡ Some bytes.items

-- as many bytes as are listed
abbrev pub IsShort : Found → Type 0
IsShort Absent = Unit {0}
IsShort TooLong = Unit {0}
IsShort (Bytes bytes) = length bytes.items ≤ longest_file

-- ## What is due of it
-- bytes that aren't too many have a fault, or memory ran out
abbrev pub IsReadFault : Tool → List ℕ → CommandFault → Type 0
IsReadFault of bytes (fault.BadBytes place cause) = IsFileFault of (Some bytes) (fault.BadBytes place cause)
IsReadFault of bytes (fault.BadImage place cause) = IsFileFault of (Some bytes) (fault.BadImage place cause)
IsReadFault of bytes fault.NoPath = IsFileFault of (Some bytes) fault.NoPath
IsReadFault of bytes fault.NotJson = IsFileFault of (Some bytes) fault.NotJson
IsReadFault of bytes (fault.BadEntry index) = IsFileFault of (Some bytes) (fault.BadEntry index)
IsReadFault of bytes (fault.TooManyEntries number) = IsFileFault of (Some bytes) (fault.TooManyEntries number)
IsReadFault of bytes fault.OutOfMemory = Unit {0}
IsReadFault of bytes _ = ⊥

abbrev pub GivesFound : Tool → Found → List ℕ → Type 0
GivesFound of Absent text = ⊥
GivesFound of TooLong text = ⊥
GivesFound of (Bytes bytes) text = IsListing of (Some bytes.items) text

abbrev pub IsFoundFault : Tool → Found → CommandFault → Type 0
IsFoundFault of Absent why = why ≡ fault.NoFile
IsFoundFault of TooLong why = why ≡ fault.Limit longest_file
IsFoundFault of (Bytes bytes) why = IsReadFault of bytes.items why

-- the answer of the disk after it
abbrev pub answer_of : {T : Type 0} → Result T CommandFault → Result (Unit {0}) DiskFail
answer_of (Ok text) = Ok tt
answer_of (Err fault.DiskFault) = Err fail.Failed
answer_of (Err _) = Ok tt
