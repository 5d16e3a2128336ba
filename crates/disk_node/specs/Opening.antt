-- A node is opened on its disk.
use Rattle.std.specs.Prelude.{ℕ, ◌≡◌, ◌⊎◌, ◌≤◌, Bool, true, false, List}
use Rattle.base_disk.specs.Files.{Files}
use Rattle.base_disk.specs.View.{View}
use Rattle.journal_core.specs.declared.node_state.NodeState.{NodeState}
use Rattle.journal_core.specs.Step.{restarted}
use Rattle.journal_core.specs.Answers.{Rose}
use Rattle.disk_segment.specs.declared.segment_row.SegmentRow.{SegmentRow}
use Rattle.disk_files.specs.Durable.{StandsAs}
use Rattle.disk_files.specs.Opening.{IsFirstBad, IsUnfilled}
use Rattle.disk_node.specs.Node.{IsUp}
use Rattle.disk_node.specs.declared.open_fail.OpenFail.{OpenFail}
use Rattle.disk_node.specs.declared.open_fail.OpenFail.TheVariants as fail

-- the node is up with the state that the files stood for
pub record IsOpenedNode (old : Files) (v : View) (m : NodeState) (rows : List SegmentRow) : Type 0 where
  pub state : NodeState
  pub stood : StandsAs old state
  pub up : IsUp v m rows (restarted state)

-- the files stand for each state for which the others stand
abbrev pub Keeps : Files → Files → Type 0
Keeps old new = (s : NodeState) → StandsAs old s → StandsAs new s

-- the files stand for what a crash earlier could have left
pub record StandsAsBefore (old : View) (files : Files) : Type 0 where
  pub before : Files
  pub left : old.may_leave before
  pub kept : Keeps before files

abbrev pub disk_in : {D : Type 0} → OpenFail D → D
disk_in (fail.DiskFault disk) = disk
disk_in (fail.BadFile disk name) = disk
disk_in (fail.OutOfMemory disk) = disk

abbrev pub is_fault : {D : Type 0} → OpenFail D → Bool
is_fault (fail.DiskFault disk) = true
is_fault (fail.BadFile disk name) = false
is_fault (fail.OutOfMemory disk) = false

-- the files stand for no state, and the name is that of the first bad one; or they stand for a
-- state that no node has
abbrev pub IsRefusedFile : Files → Files → List ℕ → Type 0
IsRefusedFile old new name = (((s : NodeState) → StandsAs old s → ⊥) × IsFirstBad old new name) ⊎ IsUnfilled old name

abbrev pub IsRefusedOpening : {D : Type 0} → Files → Files → OpenFail D → Type 0
IsRefusedOpening old new (fail.BadFile disk name) = IsRefusedFile old new name
IsRefusedOpening old new (fail.DiskFault disk) = Unit {0}
IsRefusedOpening old new (fail.OutOfMemory disk) = Unit {0}

-- the count of faults doesn't fall, and rises at a fault, which a steady disk never has
pub record IsCauseOf (before now : ℕ) (was_steady is_steady : Type 0) (fault : Bool) : Type 0 where
  pub later : before ≤ now
  pub rose : fault ≡ true → Rose before now
  pub steady : was_steady → is_steady × (fault ≡ false)
