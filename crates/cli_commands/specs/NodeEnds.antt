-- The parts of serving a node: a session at a node that is open, and the telling of its end.
use Rattle.std.specs.Prelude.{ℕ, ◌≡◌, ◌≢◌, ◌⊎◌, true, List, Option, Some}
use Rattle.base_disk.specs.View.{View, AllLeave}
use Rattle.journal_core.specs.declared.node_state.NodeState.{NodeState}
use Rattle.disk_files.specs.Durable.{StandsAs}
use Rattle.disk_node.specs.declared.open_fail.OpenFail.{OpenFail}
use Rattle.disk_node.specs.declared.open_fail.OpenFail.TheVariants as fail
use Rattle.journal_session.specs.Session.{IsSessionOf}
use Rattle.journal_session.specs.declared.served.Served.{Served}
use Rattle.cli_commands.specs.declared.status.Status.{Status}
use Rattle.cli_commands.specs.declared.status.Status.TheVariants as status
use Rattle.cli_commands.specs.declared.command_fault.CommandFault.{CommandFault}
use Rattle.cli_commands.specs.declared.command_fault.CommandFault.TheVariants as fault
use Rattle.cli_commands.specs.Uses.{SourceUse, SinkUse, AReadFailed, NoReadFailed, AWriteFailed, NoWriteFailed, HandsOn}
use Rattle.cli_commands.specs.Told.{WritesLine}
use Rattle.cli_commands.specs.Serving.{status_at, line_at}

-- A session's end was told: its line was written, where it has one.
pub record TellsEnd (ended : Served) (s : Status) (sink : SinkUse) : Type 0 where
  pub status_is : s ≡ status_at ended
  pub line : WritesLine (line_at ended) sink
  pub no_line : (s ≡ status.Ok) ⊎ (s ≡ status.WriteFault) → NoWriteFailed sink
  pub idle : (s ≡ status.Ok) ⊎ (s ≡ status.WriteFault) → sink.kept_now ≡ sink.kept_before

-- the files stand for the state, and those that each crash would leave do if the node is up
pub record IsKept (disk_now : View) (s : NodeState) : Type 0 where
  pub stands : StandsAs disk_now.seen s
  pub lasting : s.up ≡ true → AllLeave disk_now (λ c. StandsAs c s)

-- A session at a node of this state, where it told one, and what is left of it in the files.
-- `Trail` holds of the lines that were asked, of how that ended, and of how the sink stood then.
pub record ServesFrom (Trail : List (List ℕ) → Option (List ℕ) → Served → Option (List ℕ) → Type 0) (old : Option NodeState) (tells_now : Type 0) (disk_now : View)
    (source : SourceUse) (sink : SinkUse) (s : Status) : Type 0 where
  pub outcome : Served
  pub status_is : s ≡ status_at outcome
  pub replied : Option (List ℕ)
  pub new : Option NodeState
  pub lines : List (List ℕ)
  pub next : Option (List ℕ)
  pub trail : Trail lines next outcome replied
  pub session : IsSessionOf lines next outcome source.told source.left old new sink.before replied
  pub kept : (t : NodeState) → new ≡ Some t → IsKept disk_now t
  pub stands : tells_now → (t : NodeState) × IsKept disk_now t
  pub line : WritesLine (line_at outcome) (record sink { before = replied })
  pub read_fault : s ≡ status.ReadFault → AReadFailed source
  pub no_read_fault : s ≢ status.ReadFault → NoReadFailed source
  pub write_fault : s ≡ status.WriteFault → AWriteFailed sink
  pub no_write_fault : s ≡ status.Ok → NoWriteFailed sink
  pub handed : s ≡ status.Ok → HandsOn sink

-- the fault of a node that wasn't opened
abbrev pub fault_in : {D : Type 0} → OpenFail D → CommandFault
fault_in (fail.DiskFault disk) = fault.DiskFault
fault_in (fail.BadFile disk name) = fault.BadFile name
fault_in (fail.OutOfMemory disk) = fault.OutOfMemory
