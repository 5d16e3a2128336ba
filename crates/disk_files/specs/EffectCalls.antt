-- One durable effect at a node, as calls of its disk.
use Rattle.std.specs.Prelude.{◌≡◌, ◌≢◌, ◌⊎◌, ℕ, nat_le, Bool, true, false, List, Option, Some, None, Result, OnOk, IsErrOf, if◌then◌else◌}
use Rattle.base_disk.specs.Files.{Files, IsSame, ChangesOnly, IsGone, Follows}
use Rattle.base_disk.specs.View.{View, LeavesOnly, Elapses}
use Rattle.base_disk.specs.declared.disk.DiskFail.{DiskFail}
use Rattle.base_disk.specs.declared.disk.DiskFail.TheVariants.{Failed}
use Rattle.journal_core.specs.declared.cut.Cut.{Cut}
use Rattle.journal_core.specs.declared.segment.Segment.{Segment}
use Rattle.journal_core.specs.declared.node_state.NodeState.{NodeState}
use Rattle.journal_core.specs.Views.{BatchView}
use Rattle.journal_core.specs.Segments.{find_segment, IsNotFinal}
use Rattle.journal_core.specs.Cuts.{Cost, has_record_of}
use Rattle.journal_core.specs.Effects.{Effect, Promise, WriterEpoch, Commit}
use Rattle.disk_segment.specs.Names.{Record, name_of}
use Rattle.disk_segment.specs.Calls.{HasNoEdit}
use Rattle.disk_segment.specs.Effects.{AppendsAt, choice_of, IsLeft}
use Rattle.disk_opening.specs.Opening.{IsOther}
use Rattle.disk_files.specs.declared.node_number.NodeNumber.{NodeNumber}
use Rattle.disk_files.specs.declared.node_number.NodeNumber.TheVariants.{Promised, Writer, Committed}
use Rattle.disk_files.specs.Durable.{StandsAs, HoldsState}

-- the effect that gives a number this value
abbrev pub number_effect : NodeNumber → ℕ → Effect
number_effect Promised value = Promise value
number_effect Writer value = WriterEpoch value
number_effect Committed value = Commit value

-- At every moment a crash leaves files that stand for the state without the effect or with it, and
-- once it is done only with it.
pub record Does {T E : Type 0} (before after : NodeState) (result : Result T E) (old new : View) : Type 0 where
  pub any_moment : LeavesOnly old new (λ c. StandsAs c before ⊎ StandsAs c after)
  pub done : OnOk result (HoldsState new after)

-- A cut after k disk calls: the effect stands where its deciding call is among them.
pub record IsCutAt {T : Type 0} (cost : Cut → Cost) (before after : NodeState) (left : Option ℕ) (result : Result T DiskFail) (new : View) : Type 0 where
  pub stands : (k : ℕ) → left ≡ Some k → IsErrOf result Failed → (cut : Cut) (c : Files) → IsLeft (choice_of cut) new c
      → StandsAs c (if nat_le (cost cut).decides k then after else before)

-- frames can still be appended to each segment with another start, and files that are no segment's
-- stay
pub record KeepsOthers (start : ℕ) (old new : View) : Type 0 where
  pub appends : (g : Segment) (at : ℕ) → g.start ≢ start → AppendsAt old g at → AppendsAt new g at
  pub files : (name : List ℕ) → IsOther name → new.seen name ≡ old.seen name

-- nothing stands with that start, or a segment in progress without an edit
pub record CanBegin (start : ℕ) (gs : List Segment) : Type 0 where
  pub not_final : IsNotFinal (find_segment start gs)
  pub no_edit : HasNoEdit (find_segment start gs)

-- no final segment has the batch's start, and it is told whether one has the record of an
-- acceptance under the epoch
pub record CanAccept (epoch : ℕ) (b : BatchView) (again : Bool) (gs : List Segment) : Type 0 where
  pub not_final : IsNotFinal (find_segment b.first gs)
  pub told : again ≡ has_record_of epoch (find_segment b.first gs)

-- the record of an acceptance is gone, or nothing has changed
abbrev pub MayClear : ℕ → Files → Files → Type 0
MayClear start d c = IsSame d c ⊎ ChangesOnly (name_of start Record) IsGone d c

-- the record is removed where the segment was accepted, and else nothing changes
pub record Clears {T E : Type 0} (accepted : Bool) (start : ℕ) (result : Result T E) (old new : View) : Type 0 where
  pub seen : MayClear start old.seen new.seen
  pub crash : Follows (MayClear start) old.may_leave new.may_leave
  pub done : accepted ≡ true → OnOk result (new.seen (name_of start Record) ≡ None)
  pub time : Elapses old new

-- how many disk calls that takes
abbrev pub clear_calls : Bool → ℕ
clear_calls true = 1
clear_calls false = 0
