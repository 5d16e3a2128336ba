-- Effects done at a disk, one after the other.
use Rattle.std.specs.Prelude.{ℕ, ◌≡◌, ◌⊎◌, ◌≤◌, ◌<◌, ◌+◌, true, List, [], ◌∷◌, length, map, take, Option, Some, None, Result, IsErrOf}
use Rattle.base_disk.specs.Files.{Files}
use Rattle.base_disk.specs.View.{View}
use Rattle.base_disk.specs.declared.disk.DiskFail.{DiskFail}
use Rattle.base_disk.specs.declared.disk.DiskFail.TheVariants.{Failed}
use Rattle.journal_core.specs.declared.cut.Cut.{Cut}
use Rattle.journal_core.specs.declared.segment.Segment.{Segment}
use Rattle.journal_core.specs.declared.node_state.NodeState.{NodeState}
use Rattle.journal_core.specs.declared.request.Request.{Request}
use Rattle.journal_core.specs.declared.request.Request.TheVariants.{Journal}
use Rattle.journal_core.specs.Segments.{AreSound}
use Rattle.journal_core.specs.Step.{effects_of}
use Rattle.journal_core.specs.Effects.{Effect, segments_after, after_effects}
use Rattle.journal_core.specs.Cuts.{Cost, cost_of, standing}
use Rattle.disk_segment.specs.Effects.{choice_of, IsLeft}
use Rattle.disk_segment.specs.declared.segment_row.SegmentRow.{SegmentRow}
pub use Rattle.journal_step.specs.Durable.{effects_by}
use Rattle.disk_effects.specs.Due.{AreDue, puts_row}
use Rattle.disk_node.specs.Held.{IsHeld, OpenedAt, Opens, Spares}
use Rattle.disk_node.specs.Held as held
use Rattle.journal_step.specs.declared.durable_effect.DurableEffect.{DurableEffect}
use Rattle.journal_step.specs.declared.durable_effect.DurableEffect.TheVariants as durable

-- an append goes to this segment
abbrev pub GoesTo : Option ℕ → DurableEffect → Type 0
GoesTo open_ (durable.Promise epoch) = Unit {0}
GoesTo open_ (durable.WriterEpoch epoch) = Unit {0}
GoesTo open_ (durable.Commit txid) = Unit {0}
GoesTo open_ (durable.NewSegment start epoch) = Unit {0}
GoesTo open_ (durable.Append start at) = open_ ≡ Some start
GoesTo open_ (durable.Replace epoch again) = Unit {0}
GoesTo open_ (durable.MakeFinal start end accepted) = Unit {0}
GoesTo open_ (durable.Remove info) = Unit {0}

-- all appends go to one segment, which each effect leaves open
abbrev pub AppendWithin : Option ℕ → List DurableEffect → Type 0
AppendWithin open_ [] = Unit {0}
AppendWithin open_ (d ∷ ds) = GoesTo open_ d × Spares open_ d × AppendWithin open_ ds

-- an effect that may put a row is the last, and there is room for the rows and one more
abbrev pub HasRoom : List DurableEffect → ℕ → ℕ → Type 0
HasRoom [] count room = Unit {0}
HasRoom (d ∷ ds) count room = (puts_row d ≡ true → (count < room) × (ds ≡ [])) × HasRoom ds count room

-- A node of this state can do the effects. Where one is an append, frames can be appended to its
-- segment.
pub record CanDoAll (v : View) (m : NodeState) (rows : List SegmentRow) (s : NodeState) (r : Request) (ds : List DurableEffect) : Type 0 where
  pub held : IsHeld v m rows s
  pub due : AreDue s.segments rows r ds
  pub open_ : Option ℕ
  pub is_open : OpenedAt v s.segments rows open_
  pub within : AppendWithin open_ ds

-- the segment is open after the effects: where it is now and each leaves it so, or where one begins
-- it and those after it leave it so
abbrev pub EndOpen : Type 0 → Option ℕ → List DurableEffect → Type 0
EndOpen now open_ [] = now
EndOpen now open_ (d ∷ ds) = EndOpen (Opens open_ d ⊎ (Spares open_ d × now)) open_ ds

-- of a node that went down among the effects: what its files stand for, and that the table has each
-- segment
pub record LeftStopped (files : Files) (rows : List SegmentRow) (s : NodeState) (es : List Effect) : Type 0 where
  pub count : ℕ
  pub within : count ≤ length es
  pub left : held.IsLeft files rows (after_effects s (take count es))

-- an effect leaves the costs of those after it as they are
abbrev pub KeepCosts : List Segment → List Effect → Type 0
KeepCosts gs [] = Unit {0}
KeepCosts gs (e ∷ es) = ((cut : Cut) → map (cost_of cut (segments_after gs e)) es ≡ map (cost_of cut gs) es) × KeepCosts (segments_after gs e) es

-- how many disk calls they are
abbrev pub calls_of : List Cost → ℕ
calls_of [] = 0
calls_of (c ∷ cs) = c.calls + calls_of cs

-- A cut after k disk calls: the effects stand whose deciding calls are among them, and the table
-- has each segment.
pub record IsCutAmong {T : Type 0} (s : NodeState) (es : List Effect) (left : Option ℕ) (result : Result T DiskFail) (new : View) (rows : List SegmentRow) : Type 0 where
  pub stands : (k : ℕ) → left ≡ Some k → IsErrOf result Failed → (cut : Cut) (c : Files) → IsLeft (choice_of cut) new c
      → held.IsLeft c rows (after_effects s (take (standing k (map (cost_of cut s.segments) es)) es))

-- ## The effects of a request
-- each effect of a request leaves the costs of those after it
abbrev pub CostsAreKept : Type 0
CostsAreKept = (s : NodeState) (r : Request) → AreSound s.segments → KeepCosts s.segments (effects_of s r)

-- the segment to which a request appends
abbrev pub append_start : Request → Option ℕ
append_start (Journal head start batch) = Some start
append_start _ = None

-- the effects of a request append to no other, and leave it open
abbrev pub AppendsAreWithin : Type 0
AppendsAreWithin = (s : NodeState) (r : Request) (ds : List DurableEffect) → effects_by r ds ≡ effects_of s r → AppendWithin (append_start r) ds
