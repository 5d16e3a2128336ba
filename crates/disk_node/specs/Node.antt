-- A node over a disk: its parts, and the state that they stand for.
use Rattle.std.specs.Prelude.{ℕ, ◌≡◌, ◌≢◌, ◌≤◌, Bool, true, false, List, take, Option, Some, None, if◌then◌else◌}
use Rattle.base_disk.specs.Files.{Files}
use Rattle.base_disk.specs.View.{View}
use Rattle.base_disk.specs.Calls.{Rests}
use Rattle.journal_core.specs.declared.segment.Segment.{Segment}
use Rattle.journal_core.specs.declared.node_state.NodeState.{NodeState}
use Rattle.journal_core.specs.declared.request.Request.{Request}
use Rattle.journal_core.specs.declared.refusal.Refusal.{Refusal}
use Rattle.journal_core.specs.declared.refusal.Refusal.TheVariants.{DiskFault, OutOfMemory}
use Rattle.journal_core.specs.declared.reply.Reply.{Reply}
use Rattle.journal_core.specs.declared.reply.Reply.TheVariants.{Refused}
use Rattle.journal_core.specs.declared.request.Request.TheVariants.{Accept}
use Rattle.journal_core.specs.Segments.{any_body, AreSound}
use Rattle.journal_core.specs.Limits.{max_number}
use Rattle.journal_core.specs.Effects.{after_effects}
use Rattle.journal_core.specs.Step.{crashed, fronted, row_refused, row_then, row_reply, effects_of}
use Rattle.journal_core.specs.Answers.{Rose}
use Rattle.disk_segment.specs.Rows.{RowsRise}
use Rattle.disk_segment.specs.RowsTell.{AreStarts}
use Rattle.disk_segment.specs.declared.segment_row.SegmentRow.{SegmentRow}
use Rattle.disk_files.specs.Durable.{AreFilled}
use Rattle.disk_effects.specs.Told.{Tells}
use Rattle.disk_recent.specs.Recent.{Recent, IsRecent}
use Rattle.disk_node.specs.FileState.{state_of}
use Rattle.disk_node.specs.Held.{IsHeld, IsLeft, OpenedAt}

-- what a node is made of
pub record NodeParts (Disk : Type 0) : Type 0 where
  pub disk : Disk
  pub memory : NodeState
  pub rows : List SegmentRow
  pub recent : Recent

-- a node that is up: files, memory and table hold the state, and frames can be appended to the open
-- segment
pub record IsUp (v : View) (m : NodeState) (rows : List SegmentRow) (s : NodeState) : Type 0 where
  pub held : IsHeld v m rows s
  pub opened : OpenedAt v s.segments rows s.opened

-- one that is down: the files stand for what is left of a state, and the table has each segment
pub record IsDown (v : View) (m : NodeState) (rows : List SegmentRow) (s : NodeState) : Type 0 where
  pub opened : m.opened ≡ None
  pub serial : m.serial ≡ 0
  pub rise : RowsRise rows
  pub before : NodeState
  pub left : IsLeft v.seen rows before
  pub filled : AreFilled before.segments
  pub state : s ≡ crashed before

abbrev pub HasState : Bool → View → NodeState → List SegmentRow → NodeState → Type 0
HasState true v m rows s = IsUp v m rows s
HasState false v m rows s = IsDown v m rows s

-- What holds of every node: the table tells some segments, and where the disk tells its bytes there
-- is a state.
pub record IsNode (tells : Type 0) (v : View) (m : NodeState) (rows : List SegmentRow) : Type 0 where
  pub told : (gs : List Segment) × Tells gs rows
  pub known : m.up ≡ true → m.known ≤ max_number
  pub stands : tells → (s : NodeState) × HasState m.up v m rows s

-- of a node that is up, the newest edits of the cached segment are held, and no others
abbrev pub Recalls : View → NodeState → List SegmentRow → Recent → Type 0
Recalls v m rows recent = (s : NodeState) → m.up ≡ true → IsUp v m rows s → IsRecent recent s.segments

-- what holds of every node with what it holds of its edits
pub record IsWhole (tells : Type 0) (v : View) (m : NodeState) (rows : List SegmentRow) (recent : Recent) : Type 0 where
  pub node : IsNode tells v m rows
  pub recalls : tells → Recalls v m rows recent

-- the state, where the disk tells its bytes
abbrev pub told_state : Bool → Files → NodeState → List SegmentRow → Option NodeState
told_state told files m rows = if told then Some (state_of files m rows) else None

-- an acceptance has an edit
abbrev pub BringsEdits : Request → Type 0
BringsEdits (Accept head batch) = any_body batch.bodies ≡ true
BringsEdits _ = Unit {0}

-- ## After the effects of a request
-- what the front changes in memory alone
abbrev pub carried : NodeState → NodeState → NodeState
carried s front = record s { known = front.known; opened = front.opened; serial = front.serial }

-- what follows the effects: where the request is refused only what the front did
abbrev pub settled : Option Refusal → NodeState → NodeState → Request → NodeState
settled (Some refusal) s front r = carried s front
settled None s front r = row_then (carried s front) r

-- the state in which a request leaves a node
abbrev pub state_behind : NodeState → Request → NodeState
state_behind s r = settled (row_refused (fronted s r) r) (after_effects s (effects_of s r)) (fronted s r) r

-- the reply, by the state after the front
abbrev pub foretold : Option Refusal → NodeState → Request → Reply
foretold (Some refusal) s r = Refused refusal
foretold None s r = row_reply s r

-- no fault of the disk, and no lack of memory
pub record IsNoFault (reply : Reply) : Type 0 where
  pub disk : reply ≢ Refused DiskFault
  pub memory : reply ≢ Refused OutOfMemory

-- why an answer tells a fault of the disk
pub record IsCaused (before now : ℕ) (was_steady is_steady : Type 0) (reply : Reply) : Type 0 where
  pub later : before ≤ now
  pub fault : reply ≡ Refused DiskFault → Rose before now
  pub steady : was_steady → is_steady × (reply ≢ Refused DiskFault)

-- no file changes, and memory, the table and the held edits are as they were
pub record IsUnchanged (tells : Type 0) (old_view new_view : View) (old_memory new_memory : NodeState) (old_rows new_rows : List SegmentRow) (old_recent new_recent : Recent) : Type 0 where
  pub disk : tells → Rests old_view new_view
  pub memory : new_memory ≡ old_memory
  pub rows : new_rows ≡ old_rows
  pub recent : new_recent ≡ old_recent

-- a node went down after the first effects of a request, some number of them
pub record IsStoppedIn (v : View) (m : NodeState) (rows : List SegmentRow) (s : NodeState) (r : Request) : Type 0 where
  pub keep : ℕ
  pub down : IsDown v m rows (crashed (after_effects s (take keep (effects_of s r))))

-- the segments of a state are sound, and each start is from 1 to 2 ^ 62
abbrev pub AreSoundFrom : NodeState → Type 0
AreSoundFrom s = AreSound s.segments × AreStarts s.segments
