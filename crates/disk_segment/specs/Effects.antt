-- A call that is one durable effect.
use Rattle.std.specs.Prelude.{◌≡◌, ◌≢◌, ◌⊎◌, ℕ, ◌+◌, ◌<◌, ◌≤◌, ◌^◌, nat_le, List, [], ◌∷◌, length, Option, Some, None, IsSome, Result, OnOk, IsErr, IsErrOf, if◌then◌else◌}
use Rattle.base_disk.specs.Files.{Files}
use Rattle.base_disk.specs.View.{View, LeavesOnly, AllLeave, IsStable}
use Rattle.base_disk.specs.Crash.{Chosen}
use Rattle.base_disk.specs.declared.disk.Choice.{Choice}
use Rattle.base_disk.specs.declared.disk.Choice.TheVariants.{Old, New, Fill}
use Rattle.base_disk.specs.declared.disk.DiskFail.{DiskFail}
use Rattle.base_disk.specs.declared.disk.DiskFail.TheVariants.{Failed}
use Rattle.journal_core.specs.declared.segment.Segment.{Segment}
use Rattle.journal_core.specs.declared.cut.Cut.{Cut}
use Rattle.journal_core.specs.declared.cut.Cut.TheVariants as cuts
use Rattle.journal_core.specs.Cuts.{Cost}
use Rattle.disk_frame.specs.Segments.{IsSegmentFile}
use Rattle.disk_segment.specs.Names.{Kind, InProgress, Final, UnderWay, name_of, IsKind}
use Rattle.disk_segment.specs.Stands.{StandsFor}

-- no acceptance is under way, and no start has both a final file and one in progress
pub record IsTidy (seen : Files) : Type 0 where
  pub none_under_way : (start epoch : ℕ) → 1 ≤ start → start ≤ 2 ^ 62 → IsKind start (UnderWay epoch) → seen (name_of start (UnderWay epoch)) ≡ None
  pub not_both : (start last : ℕ) → 1 ≤ start → start ≤ 2 ^ 62 → IsKind start (Final last) → IsSome (seen (name_of start (Final last))) → seen (name_of start InProgress) ≡ None

-- The files, and those that each crash would leave, stand for these segments. Each call takes this
-- and gives it back.
pub record IsReady (v : View) (gs : List Segment) : Type 0 where
  pub stands : AllLeave v (λ c. StandsFor c gs)
  pub tidy : IsTidy v.seen

-- the name is none of these of this segment
abbrev pub IsOutside : ℕ → List Kind → List ℕ → Type 0
IsOutside start [] name = Unit {0}
IsOutside start (k ∷ ks) name = (name ≢ name_of start k) × IsOutside start ks name

-- only these files of this segment change
pub record OnlyOf (start : ℕ) (kinds : List Kind) (old new : Files) : Type 0 where
  pub others : (name : List ℕ) → IsOutside start kinds name → new name ≡ old name

-- only these files of this segment change, in what is seen and in what a crash leaves at every
-- moment; other files that are stable stay so
pub record Touches (start : ℕ) (kinds : List Kind) (old new : View) : Type 0 where
  pub any_moment : LeavesOnly old new (λ c. (d : Files) × old.may_leave d × OnlyOf start kinds d c)
  pub seen : OnlyOf start kinds old.seen new.seen
  pub stable : (name : List ℕ) → IsOutside start kinds name → IsStable name old → IsStable name new

-- a frame can be appended there: the file's whole frames end before a blank seal, and each crash
-- leaves the file as it is
pub record AppendsAt (v : View) (g : Segment) (at : ℕ) : Type 0 where
  pub bytes : List ℕ
  pub there : v.seen (name_of g.start InProgress) ≡ Some bytes
  pub edits : IsSegmentFile bytes g.start g.epoch g.bodies at
  pub more : at < length bytes
  pub stable : IsStable (name_of g.start InProgress) v

-- The call is one effect: at every moment a crash leaves files that stand for the segments before
-- it or after it, and once it is done only after it.
pub record Becomes {T E : Type 0} (before after : List Segment) (result : Result T E) (old new : View) : Type 0 where
  pub any_moment : LeavesOnly old new (λ c. StandsFor c before ⊎ StandsFor c after)
  pub done : OnOk result (IsReady new after)

-- the choice of a crash that this cut makes
abbrev pub choice_of : Cut → Choice
choice_of cuts.Old = Old
choice_of cuts.New = New
choice_of cuts.A5 = Fill 165

-- what a crash by this choice leaves
abbrev pub IsLeft : Choice → View → Files → Type 0
IsLeft choice v c = v.may_leave c × ((name : List ℕ) → Chosen choice (v.synced name) (v.seen name) (c name))

-- Where it is known how many calls are left: a call that has enough of them doesn't fail, and takes
-- so many; one that has fewer isn't done.
pub record IsCounted {T : Type 0} (calls : ℕ) (before now : Option ℕ) (result : Result T DiskFail) : Type 0 where
  pub stops : (k : ℕ) → before ≡ Some k → k < calls → IsErr result
  pub counts : (k : ℕ) → before ≡ Some (calls + k) → (IsErrOf result Failed → ⊥) × OnOk result (now ≡ Some k)

-- A cut after k disk calls: the effect stands where its deciding call is among them.
pub record IsCut {T : Type 0} (cost : Cut → Cost) (before after : List Segment) (left : Option ℕ) (result : Result T DiskFail) (new : View) : Type 0 where
  pub stands : (k : ℕ) → left ≡ Some k → IsErrOf result Failed → (cut : Cut) (c : Files) → IsLeft (choice_of cut) new c
      → StandsFor c (if nat_le (cost cut).decides k then after else before)
