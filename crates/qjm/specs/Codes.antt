-- The exit status of the program, by how it ended.
use Rattle.std.specs.Prelude.{ℕ}
use Rattle.cli_commands.specs.declared.status.Status.{Status}
use Rattle.cli_commands.specs.declared.status.Status.TheVariants as status

abbrev pub code_of : Status → ℕ
code_of status.Ok = 0
code_of status.Usage = 1
code_of status.BadScript = 2
code_of status.BadBytes = 3
code_of status.Limit = 4
code_of status.Unsound = 5
code_of status.ReadFault = 6
code_of status.WriteFault = 7
code_of status.DiskFault = 8
code_of status.OutOfMemory = 9
code_of status.Locked = 75
