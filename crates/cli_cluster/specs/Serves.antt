-- How a node that served clients ended, and what it leaves.
use Rattle.std.specs.Prelude.{ℕ, ◌≡◌, ◌⊎◌, List}
use Rattle.base_disk.specs.View.{View, LeavesOnly}
use Rattle.base_disk.specs.declared.disk.DiskModel.{Ghosts}
use Rattle.journal_core.specs.Step.{restarted}
use Rattle.disk_node.specs.Node.{NodeParts}
use Rattle.disk_node.specs.Opening.{IsOpenedNode, StandsAsBefore}
use Rattle.pipe_serve.specs.Crashes.{OutlastsCrashes}
use Rattle.pipe_serve.specs.Sessions.{SourceUse, SinkUse}
use Rattle.pipe_serve.specs.Trails.{Call, calls_in, IsSharedOut}
use Rattle.cli_commands.specs.declared.command_fault.CommandFault.{CommandFault}
use Rattle.cli_commands.specs.declared.command_fault.CommandFault.TheVariants as fault
use Rattle.cli_commands.specs.declared.status.Status.{Status}
use Rattle.cli_commands.specs.declared.status.Status.TheVariants as status
use Rattle.cli_commands.specs.Told.{TellsFault}
use Rattle.cli_commands.specs.Uses.{SinkUse as LineUse}

-- a node isn't opened, or can't go on, for these faults alone
abbrev pub EndsServing : CommandFault → Type 0
EndsServing (fault.BadFile name) = Unit {0}
EndsServing fault.DiskFault = Unit {0}
EndsServing fault.OutOfMemory = Unit {0}
EndsServing _ = ⊥

-- it was stopped, and nothing was written; or its fault was told
abbrev pub TellsServed : Status → LineUse → Type 0
TellsServed s sink = ((s ≡ status.Ok) × (sink.now ≡ sink.before)) ⊎ ((of : CommandFault) × EndsServing of × TellsFault of s sink)

-- ## The node that is left
-- The node was opened with the state that the files stood for, restarted. A crash while it was
-- opened leaves files that stand for what one before could have left; one at any later moment, up
-- to the end of the first call that told a fault of the disk or lack of memory, leaves files that
-- stand for the state after some of these calls, stopped inside the next one, and no fewer than
-- were answered by then.
pub record OutlastsServing {D : Type 0} (view : D → View) (old : D) (opened : NodeParts D) (new : D) (calls : List Call) : Type 0 where
  pub is : IsOpenedNode (view old).seen (view opened.disk) opened.memory opened.rows
  pub opening : LeavesOnly (view old) (view opened.disk) (StandsAsBefore (view old))
  pub crashes : OutlastsCrashes view opened.disk new (restarted is.state) calls

-- A node was opened on the disk, and one trail of all clients' requests led from it to the node that
-- is left: it has each client's calls, which are those of its sessions, in their order, and no
-- others. `At` says where a client's sessions read and wrote.
pub record IsLeftOver {D : Type 0} (disk : Ghosts D) (At : ℕ → SourceUse → SinkUse → Type 0) (old : D) (clients : ℕ) (new : NodeParts D) : Type 0 where
  pub opened : NodeParts D
  pub steady : disk.steady old → disk.steady opened.disk
  pub shared : IsSharedOut disk.tells disk.is_told disk.view (disk.steady opened.disk) At opened clients new
  pub crashes : disk.tells old → OutlastsServing disk.view old opened new.disk (calls_in shared.trail)
