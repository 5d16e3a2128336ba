-- What is told where no command is begun.
use Rattle.std.specs.Prelude.{ℕ, ◌≡◌, List, Option, Some, None, codes, length}
use Rattle.base_outside.specs.declared.folder_disk.LockFail.{LockFail}
use Rattle.base_outside.specs.declared.folder_disk.LockFail.TheVariants as lock
use Rattle.cli_commands.specs.declared.status.Status.{Status}
use Rattle.cli_commands.specs.declared.status.Status.TheVariants as status
use Rattle.cli_commands.specs.declared.command_fault.CommandFault.TheVariants as fault
use Rattle.cli_commands.specs.Faults.{error_line, line_of}
use Rattle.cli_commands.specs.Told.{WritesLine}
use Rattle.cli_commands.specs.Uses.{SinkUse}
use Rattle.cli_commands.specs.Usage.{usage_of}

-- the place that is told, or this many words
abbrev pub place_or : ℕ → Option ℕ → ℕ
place_or count None = count
place_or count (Some place) = place

-- The place, from 0, of the first word that is missing or wrong, where after these words stands one
-- that no command has: that word's own, if a command begins with these.
abbrev pub usage_after : List (List ℕ) → ℕ
usage_after words = place_or (length words) (usage_of words)

-- ## A folder that wasn't locked
abbrev pub status_unlocked : LockFail → Status
status_unlocked lock.Taken = status.Locked
status_unlocked lock.Failed = status.DiskFault
status_unlocked lock.OutOfMemory = status.OutOfMemory

abbrev pub line_unlocked : LockFail → List ℕ
line_unlocked lock.Taken = error_line (codes "Locked")
line_unlocked lock.Failed = line_of fault.DiskFault
line_unlocked lock.OutOfMemory = line_of fault.OutOfMemory

-- the status is that of the cause, and its line was written; a write that fails changes no status
pub record TellsUnlocked (of : LockFail) (s : Status) (sink : SinkUse) : Type 0 where
  pub status_is : s ≡ status_unlocked of
  pub line : WritesLine (line_unlocked of) sink
