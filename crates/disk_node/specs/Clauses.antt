-- What the calls at a node over a disk ask and promise, in the words of their contracts.
use Rattle.std.specs.Prelude.{ℕ, ◌≡◌, ◌⊎◌, List, [], length, Option, None, Result, IsErrOf}
use Rattle.base_disk.specs.View.{LeavesOnly, AllLeave}
use Rattle.base_disk.specs.declared.disk.DiskFail.{DiskFail}
use Rattle.base_disk.specs.declared.disk.DiskFail.TheVariants.{Failed}
use Rattle.base_disk.specs.declared.disk.DiskModel.{Ghosts}
use Rattle.journal_core.specs.declared.segment.Segment.{Segment}
use Rattle.journal_core.specs.declared.node_state.NodeState.{NodeState}
use Rattle.journal_core.specs.declared.refusal.Refusal.{Refusal}
use Rattle.journal_core.specs.declared.refusal.Refusal.TheVariants.{OutOfMemory}
use Rattle.journal_core.specs.declared.reply.Reply.{Reply}
use Rattle.journal_core.specs.declared.reply.Reply.TheVariants.{Refused}
use Rattle.journal_core.specs.declared.request.Request.{Request}
use Rattle.journal_core.specs.Effects.{after_effect, after_effects}
use Rattle.journal_core.specs.Limits.{limit_of}
use Rattle.journal_core.specs.Step.{fronted, refused_at_once, row_refused, effects_of}
use Rattle.journal_core.specs.Answers.{Rose}
use Rattle.disk_segment.specs.Rows.{AreSoundRows}
use Rattle.disk_segment.specs.declared.segment_row.SegmentRow.{SegmentRow}
use Rattle.disk_files.specs.Durable.{StandsAs}
use Rattle.journal_step.specs.declared.durable_effect.DurableEffect.{DurableEffect}
use Rattle.journal_step.specs.Durable.{effect_of, effects_by}
use Rattle.disk_effects.specs.declared.plan.RequestPlan.{RequestPlan}
use Rattle.disk_effects.specs.Told.{Tells, state_with}
use Rattle.disk_effects.specs.Decided.{effects_in}
use Rattle.disk_effects.specs.Due.{IsDue, AreDue}
use Rattle.disk_recent.specs.Recent.{Recent, AsksRecent, cached_then}
use Rattle.disk_node.specs.FileState.{without_segments}
use Rattle.disk_node.specs.Held.{MayLeave, StandsStopped}
use Rattle.disk_node.specs.declared.readying.Ready.{Ready}
use Rattle.disk_node.specs.Doing.{HasFrame, CanDo, DoesEffect, NotedAtFault}
use Rattle.disk_node.specs.Done.{HasRoom}
use Rattle.disk_node.specs.Node.{IsUp, IsNoFault, IsCaused, IsUnchanged}

-- ## One effect
-- it is due over segments of which the table tells
abbrev pub HasDue : List SegmentRow → Request → DurableEffect → Type 0
HasDue rows r d = (gs : List Segment) × Tells gs rows × IsDue gs rows r d

-- it can be done over some state, where the disk tells its bytes
abbrev pub CanBeDone : {D : Type 0} → Ghosts D → D → List SegmentRow → Request → DurableEffect → Type 0
CanBeDone disk now rows r d = disk.tells now → (s : NodeState) × CanDo (disk.view now) (without_segments s) rows s r d

-- it is due over the segments of which some table tells
pub record IsDueSomewhere (r : Request) (d : DurableEffect) : Type 0 where
  pub rows : List SegmentRow
  pub segments : List Segment
  pub sound : AreSoundRows rows
  pub told : Tells segments rows
  pub due : IsDue segments rows r d

-- it can be done over some state and some table
abbrev pub CanBeDoneAt : {D : Type 0} → Ghosts D → D → Request → DurableEffect → Type 0
CanBeDoneAt disk now r d = disk.tells now → (rows : List SegmentRow) × (s : NodeState) × CanDo (disk.view now) (without_segments s) rows s r d

-- what the table tells where the disk failed
abbrev pub FaultIsNoted : {T : Type 0} → Request → DurableEffect → Result T DiskFail → List SegmentRow → List SegmentRow → Type 0
FaultIsNoted r d result old new = IsErrOf result Failed → NotedAtFault r d old new

-- its disk calls do it, over each state over which it can be done
abbrev pub DoesAt : {D T : Type 0} → Ghosts D → D → D → List SegmentRow → Request → DurableEffect → Result T DiskFail → Type 0
DoesAt disk old new rows r d result =
    disk.tells old → (s : NodeState) → CanDo (disk.view old) (without_segments s) rows s r d → DoesEffect s r d result (disk.view old) (disk.view new) (disk.left old) (disk.left new)

-- its disk calls do it, over each state and table over which it can be done
abbrev pub DoesCalls : {D T : Type 0} → Ghosts D → D → D → Request → DurableEffect → Result T DiskFail → Type 0
DoesCalls disk old new r d result = (rows : List SegmentRow) → DoesAt disk old new rows r d result

-- a crash now leaves the state without it or with it
abbrev pub LeavesEither : {D : Type 0} → Ghosts D → D → D → List SegmentRow → List SegmentRow → Request → DurableEffect → Type 0
LeavesEither disk old new rows rows_now r d =
    disk.tells old → (s : NodeState) → CanDo (disk.view old) (without_segments s) rows s r d → AllLeave (disk.view new) (MayLeave rows_now s (after_effect s (effect_of r d)))

-- ## The plan of a request
-- these are its effects
abbrev pub AreEffects : NodeState → List SegmentRow → Request → List DurableEffect → Type 0
AreEffects m rows r ds = (gs : List Segment) → Tells gs rows → effects_by r ds ≡ effects_of (state_with m gs) r

-- each is due where those before it were done
abbrev pub AreEachDue : List SegmentRow → Request → List DurableEffect → Type 0
AreEachDue rows r ds = (gs : List Segment) → Tells gs rows → AreDue gs rows r ds

-- why it is refused after its front, if it is
abbrev pub IsRefusal : NodeState → List SegmentRow → Request → Option Refusal → Type 0
IsRefusal m rows r refusal = (gs : List Segment) → Tells gs rows → refusal ≡ row_refused (state_with (fronted m r) gs) r

-- what is planned of a request that passes its front, with the memory that this wants
pub record IsPlanned (m : NodeState) (rows : List SegmentRow) (r : Request) (plan : RequestPlan) (ready : Ready) : Type 0 where
  pub at_once : refused_at_once m r ≡ None
  pub limits : limit_of r ≡ None
  pub front : plan.front ≡ state_with (fronted m r) []
  pub refused : IsRefusal m rows r plan.refusal
  pub effects : AreEffects m rows r (effects_in plan.effects)
  pub due : AreEachDue rows r (effects_in plan.effects)
  pub frame : HasFrame r ready.frame
  pub room : (gs : List Segment) → Tells gs rows → HasRoom (effects_in plan.effects) (length rows) ready.room

-- ## An answer, at a node that is up
-- a crash at any moment leaves the state after the first effects, some number of them
abbrev pub HasMoments : {D : Type 0} → Ghosts D → D → D → NodeState → List SegmentRow → Request → Type 0
HasMoments disk old new m rows r =
    disk.tells old → (s : NodeState) → IsUp (disk.view old) m rows s → LeavesOnly (disk.view old) (disk.view new) (StandsStopped s (effects_of s r))

-- where no fault is told, a crash now leaves the state after all effects
abbrev pub IsStable : {D : Type 0} → Ghosts D → D → D → NodeState → List SegmentRow → Request → Reply → Type 0
IsStable disk old new m rows r reply =
    disk.tells old → (s : NodeState) → IsUp (disk.view old) m rows s → IsNoFault reply → AllLeave (disk.view new) (λ c. StandsAs c (after_effects s (effects_of s r)))

-- where no fault is told, which segment is cached
abbrev pub IsCached : {D : Type 0} → Ghosts D → D → NodeState → List SegmentRow → Request → Reply → Option ℕ → Option ℕ → Type 0
IsCached disk old m rows r reply was is = disk.tells old → (s : NodeState) → IsUp (disk.view old) m rows s → IsNoFault reply → is ≡ cached_then was (effects_of s r)

-- edits that are held are read from no file
abbrev pub ReadsNone : {D : Type 0} → Ghosts D → D → D → NodeState → List SegmentRow → Option ℕ → Request → Type 0
ReadsNone disk old new m rows cached r = disk.tells old → (s : NodeState) → IsUp (disk.view old) m rows s → AsksRecent cached s r → disk.reads new ≡ disk.reads old

-- why a fault of the disk is told
abbrev pub HasOwnCause : {D : Type 0} → Ghosts D → D → D → Reply → Type 0
HasOwnCause disk old new reply = IsCaused (disk.faults old) (disk.faults new) (disk.steady old) (disk.steady new) reply

-- where lack of memory is told, a disk call wanted it, or all is as it was
abbrev pub IsSpared : {D : Type 0} → Ghosts D → D → D → NodeState → NodeState → List SegmentRow → List SegmentRow → Recent → Recent → Reply → Type 0
IsSpared disk old new m m_now rows rows_now recent recent_now reply =
    reply ≡ Refused OutOfMemory → Rose (disk.shortages old) (disk.shortages new) ⊎ IsUnchanged (disk.tells old) (disk.view old) (disk.view new) m m_now rows rows_now recent recent_now
