-- A node over a disk in memory that is cut between two disk calls.
use Rattle.std.specs.Prelude.{◌≡◌}
use Rattle.base_disk.specs.MemDisk.{disk_view, IsSameBut}
use Rattle.base_disk.specs.declared.mem_disk.MemDisk.{MemDisk}
use Rattle.journal_core.specs.declared.node_state.NodeState.{NodeState}
use Rattle.disk_node.specs.FileState.{state_of}
use Rattle.disk_node.specs.Node.{NodeParts}

-- the state of a node over a disk in memory
abbrev pub state_in : NodeParts MemDisk → NodeState
state_in n = state_of (disk_view n.disk).seen n.memory n.rows

-- all but which later disk calls fail is as before
pub record IsSameNodeBut (old new : NodeParts MemDisk) : Type 0 where
  pub disk : IsSameBut old.disk new.disk
  pub memory : new.memory ≡ old.memory
  pub rows : new.rows ≡ old.rows
  pub recent : new.recent ≡ old.recent
  pub state : state_in new ≡ state_in old
