-- What a node over a disk keeps: memory, a table, and files that stand for its state.
use Rattle.std.specs.Prelude.{ℕ, ◌≡◌, ◌≢◌, ◌⊎◌, ◌≤◌, false, List, length, take, Option, Some, None}
use Rattle.base_disk.specs.Files.{Files}
use Rattle.base_disk.specs.View.{View}
use Rattle.journal_core.specs.declared.segment.Segment.{Segment}
use Rattle.journal_core.specs.declared.node_state.NodeState.{NodeState}
use Rattle.journal_core.specs.Segments.{find_segment, AreSound}
use Rattle.journal_core.specs.Effects.{Effect, promised_after, writer_after, committed_after, after_effects}
use Rattle.disk_segment.specs.Effects.{AppendsAt}
use Rattle.disk_segment.specs.Rows.{find_row}
use Rattle.disk_segment.specs.declared.segment_row.SegmentRow.{SegmentRow}
use Rattle.disk_files.specs.Durable.{StandsAs, HoldsState}
use Rattle.disk_node.specs.FileState.{Covers, without_segments}
use Rattle.disk_effects.specs.Told.{Tells}
use Rattle.journal_step.specs.declared.durable_effect.DurableEffect.{DurableEffect}
use Rattle.journal_step.specs.declared.durable_effect.DurableEffect.TheVariants as durable

-- The files and those that each crash now would leave stand for the state, memory has its numbers,
-- and the rows tell its segments.
pub record IsHeld (v : View) (m : NodeState) (rows : List SegmentRow) (s : NodeState) : Type 0 where
  pub memory : m ≡ without_segments s
  pub files : HoldsState v s
  pub told : Tells s.segments rows
  pub sound : AreSound s.segments

-- Frames can be appended to the open segment, at the place that its row tells.
pub record AppendsTo (v : View) (gs : List Segment) (rows : List SegmentRow) (start : ℕ) : Type 0 where
  pub segment : Segment
  pub row : SegmentRow
  pub known : find_segment start gs ≡ Some segment
  pub told : find_row start rows ≡ Some row
  pub in_progress : segment.is_final ≡ false
  pub appends : AppendsAt v segment row.whole_length

abbrev pub OpenedAt : View → List Segment → List SegmentRow → Option ℕ → Type 0
OpenedAt v gs rows None = Unit {0}
OpenedAt v gs rows (Some start) = AppendsTo v gs rows start

-- of a node that is down: what its files stand for, and that the table has each segment
pub record IsLeft (files : Files) (rows : List SegmentRow) (s : NodeState) : Type 0 where
  pub stands : StandsAs files s
  pub sound : AreSound s.segments
  pub covers : Covers rows s.segments

-- one of the two is left
abbrev pub MayLeave : List SegmentRow → NodeState → NodeState → Files → Type 0
MayLeave rows before after files = IsLeft files rows before ⊎ IsLeft files rows after

-- the files stand for the state after the first effects, some number of them
pub record StandsStopped (s : NodeState) (es : List Effect) (files : Files) : Type 0 where
  pub count : ℕ
  pub within : count ≤ length es
  pub stands : StandsAs files (after_effects s (take count es))

-- the numbers in memory after an effect
abbrev pub numbers_after : NodeState → Effect → NodeState
numbers_after m e = record m { promised = promised_after m.promised e; writer = writer_after m.writer e; committed = committed_after m.committed e }

-- the effect begins the segment that is to be open
abbrev pub Opens : Option ℕ → DurableEffect → Type 0
Opens None d = Unit {0}
Opens (Some opened) (durable.NewSegment start epoch) = start ≡ opened
Opens (Some opened) _ = ⊥

-- the effect leaves the open segment open
abbrev pub Spares : Option ℕ → DurableEffect → Type 0
Spares None d = Unit {0}
Spares (Some opened) (durable.Promise epoch) = Unit {0}
Spares (Some opened) (durable.WriterEpoch epoch) = Unit {0}
Spares (Some opened) (durable.Commit txid) = Unit {0}
Spares (Some opened) (durable.NewSegment start epoch) = start ≢ opened
Spares (Some opened) (durable.Append start at) = Unit {0}
Spares (Some opened) (durable.Replace epoch again) = ⊥
Spares (Some opened) (durable.MakeFinal start end accepted) = start ≢ opened
Spares (Some opened) (durable.Remove info) = info.start ≢ opened
