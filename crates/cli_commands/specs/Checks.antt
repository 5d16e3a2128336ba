-- How a check of the disk's files ends, and what it writes.
use Rattle.std.specs.Prelude.{ℕ, ◌≡◌, ◌==◌, List, if◌then◌else◌}
use Rattle.base_outside.specs.Faults.{Rose}
use Rattle.list_fsck.specs.Reports.{IsReport}
use Rattle.cli_commands.specs.declared.status.Status.{Status}
use Rattle.cli_commands.specs.declared.status.Status.TheVariants as status
use Rattle.cli_commands.specs.declared.command_fault.CommandFault.{CommandFault}
use Rattle.cli_commands.specs.declared.command_fault.CommandFault.TheVariants as fault
use Rattle.cli_commands.specs.Uses.{SinkUse, DiskUse, NoDiskFailed}
use Rattle.cli_commands.specs.Told.{Told}
use Rattle.cli_commands.specs.Listing.{HasCalls, IsOnlyRead}

-- Ok where there is no finding
abbrev pub status_with : ℕ → Status
status_with findings = if findings == 0 then status.Ok else status.Unsound

-- the report of the files' check, and the status by how many findings it tells
pub record GivesFindings {D : Type 0} (disk : DiskUse D) (good : Status) (text : List ℕ) : Type 0 where
  pub findings : ℕ
  pub good_is : good ≡ status_with findings
  pub report : IsReport (disk.tells disk.before) (disk.view disk.before).seen text findings
  pub calls : HasCalls disk

-- each fault comes only where this holds
abbrev pub IsCheckFault : {D : Type 0} → DiskUse D → CommandFault → Type 0
IsCheckFault disk fault.DiskFault = Rose (disk.faults disk.before) (disk.faults disk.now)
IsCheckFault disk fault.OutOfMemory = NoDiskFailed disk
IsCheckFault disk _ = ⊥

-- How a check ended.
pub record Checks {D : Type 0} (disk : DiskUse D) (sink : SinkUse) (s : Status) : Type 0 where
  pub told : Told (GivesFindings disk) (IsCheckFault disk) s sink
  pub disk_is : IsOnlyRead disk s
