-- One effect, done at a disk and noted in the table.
use Rattle.std.specs.Prelude.{ℕ, ◌≡◌, ◌≢◌, ◌⊎◌, ◌+◌, ◌≤◌, List, ◌++◌, length, Option, Some, Result, Ok, Err, OnOk, if◌then◌else◌}
use Rattle.base_disk.specs.View.{View}
use Rattle.base_disk.specs.declared.disk.DiskFail.{DiskFail}
use Rattle.journal_core.specs.declared.cut.Cut.{Cut}
use Rattle.journal_core.specs.declared.segment.Segment.{Segment}
use Rattle.journal_core.specs.declared.node_state.NodeState.{NodeState}
use Rattle.journal_core.specs.declared.request.Request.{Request}
use Rattle.journal_core.specs.Segments.{find_segment}
use Rattle.journal_core.specs.Effects.{after_effect, empty_segment}
use Rattle.journal_core.specs.Cuts.{cost_of}
use Rattle.disk_frame.specs.Frames.{frame_bytes}
use Rattle.disk_segment.specs.Effects.{AppendsAt, IsCounted}
use Rattle.disk_segment.specs.Calls.{IsFrameOf}
use Rattle.disk_segment.specs.declared.segment_row.SegmentRow.{SegmentRow}
use Rattle.disk_files.specs.declared.node_number.NodeNumber.{NodeNumber}
use Rattle.disk_files.specs.declared.node_number.NodeNumber.TheVariants.{Promised, Writer, Committed}
use Rattle.disk_files.specs.EffectCalls.{Does, IsCutAt}
use Rattle.disk_effects.specs.Due.{batch_of, effect_of, puts_row, IsDue, rows_after}
use Rattle.disk_node.specs.Held.{IsHeld, AppendsTo}
use Rattle.journal_step.specs.declared.durable_effect.DurableEffect.{DurableEffect}
use Rattle.journal_step.specs.declared.durable_effect.DurableEffect.TheVariants as durable

-- the effect that stores a number
abbrev pub storing : NodeNumber → ℕ → DurableEffect
storing Promised value = durable.Promise value
storing Writer value = durable.WriterEpoch value
storing Committed value = durable.Commit value

-- where the frames of the segment's file end after an append
abbrev pub place_after : Request → DurableEffect → ℕ
place_after r (durable.Promise epoch) = 0
place_after r (durable.WriterEpoch epoch) = 0
place_after r (durable.Commit txid) = 0
place_after r (durable.NewSegment start epoch) = 0
place_after r (durable.Append start at) = at + length (frame_bytes (batch_of r))
place_after r (durable.Replace epoch again) = 0
place_after r (durable.MakeFinal start end accepted) = 0
place_after r (durable.Remove info) = 0

-- calls that tell no place
abbrev pub placeless : Result (Unit {0}) DiskFail → Result ℕ DiskFail
placeless (Ok done) = Ok 0
placeless (Err fail) = Err fail

-- these bytes are the frame of the request's batch, where it has one
abbrev pub HasFrame : Request → List ℕ → Type 0
HasFrame r bytes = 1 ≤ (batch_of r).first → IsFrameOf (batch_of r) bytes

-- an append needs a segment to which frames can be appended
abbrev pub HasPlace : View → List Segment → List SegmentRow → DurableEffect → Type 0
HasPlace v gs rows (durable.Promise epoch) = Unit {0}
HasPlace v gs rows (durable.WriterEpoch epoch) = Unit {0}
HasPlace v gs rows (durable.Commit txid) = Unit {0}
HasPlace v gs rows (durable.NewSegment start epoch) = Unit {0}
HasPlace v gs rows (durable.Append start at) = AppendsTo v gs rows start
HasPlace v gs rows (durable.Replace epoch again) = Unit {0}
HasPlace v gs rows (durable.MakeFinal start end accepted) = Unit {0}
HasPlace v gs rows (durable.Remove info) = Unit {0}

-- a node of this state can do the effect
pub record CanDo (v : View) (m : NodeState) (rows : List SegmentRow) (s : NodeState) (r : Request) (d : DurableEffect) : Type 0 where
  pub held : IsHeld v m rows s
  pub due : IsDue s.segments rows r d
  pub place : HasPlace v s.segments rows d

-- the effect is on another segment than the one with this start
abbrev pub Passes : ℕ → Request → DurableEffect → Type 0
Passes other r (durable.Promise epoch) = Unit {0}
Passes other r (durable.WriterEpoch epoch) = Unit {0}
Passes other r (durable.Commit txid) = Unit {0}
Passes other r (durable.NewSegment start epoch) = other ≢ start
Passes other r (durable.Append start at) = other ≢ start
Passes other r (durable.Replace epoch again) = other ≢ (batch_of r).first
Passes other r (durable.MakeFinal start end accepted) = other ≢ start
Passes other r (durable.Remove info) = other ≢ info.start

-- frames can be appended to a segment that begins, and after those that were appended
abbrev pub AppendsAfter : View → List Segment → Request → DurableEffect → Type 0
AppendsAfter v gs r (durable.Promise epoch) = Unit {0}
AppendsAfter v gs r (durable.WriterEpoch epoch) = Unit {0}
AppendsAfter v gs r (durable.Commit txid) = Unit {0}
AppendsAfter v gs r (durable.NewSegment start epoch) = AppendsAt v (empty_segment start epoch) 24
AppendsAfter v gs r (durable.Append start at) =
    (g : Segment) → find_segment start gs ≡ Some g → AppendsAt v (record g { bodies = g.bodies ++ (batch_of r).bodies }) (at + length (frame_bytes (batch_of r)))
AppendsAfter v gs r (durable.Replace epoch again) = Unit {0}
AppendsAfter v gs r (durable.MakeFinal start end accepted) = Unit {0}
AppendsAfter v gs r (durable.Remove info) = Unit {0}

-- the disk calls of an effect
pub record DoesEffect {T : Type 0} (s : NodeState) (r : Request) (d : DurableEffect) (result : Result T DiskFail) (old new : View) (left now : Option ℕ) : Type 0 where
  pub effect : Does s (after_effect s (effect_of r d)) result old new
  pub others : (g : Segment) (at : ℕ) → Passes g.start r d → AppendsAt old g at → AppendsAt new g at
  pub appends : OnOk result (AppendsAfter new s.segments r d)
  pub counts : (cut : Cut) → IsCounted (cost_of cut s.segments (effect_of r d)).calls left now result
  pub cut : IsCutAt (λ cut. cost_of cut s.segments (effect_of r d)) s (after_effect s (effect_of r d)) left result new

-- The table tells of the effect, and one that isn't done tells of it or is as it was.
pub record IsNoted {T E : Type 0} (r : Request) (d : DurableEffect) (result : Result T E) (old new : List SegmentRow) : Type 0 where
  pub done : OnOk result (new ≡ rows_after r d (place_after r d) old)
  pub failed : (new ≡ old) ⊎ (new ≡ rows_after r d (place_after r d) old)

-- What the table tells where the disk failed: an effect that may put a row is noted before its
-- calls.
abbrev pub NotedAtFault : Request → DurableEffect → List SegmentRow → List SegmentRow → Type 0
NotedAtFault r d old new = new ≡ (if puts_row d then rows_after r d 0 old else old)
