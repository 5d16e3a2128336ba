-- What each call of a disk does, where the disk tells its bytes, and why a call fails.
use Rattle.std.specs.Prelude.{◌≡◌, ◌⊎◌, ℕ, suc, ◌+◌, ◌-◌, ◌^◌, ◌≤◌, min, List, length, take, drop, Result, IfOk, OnOk, IsErrOf, Option, option_map, Some, IsSome, Contains}
use Rattle.std.specs.Cmp.Lexicographic.{slice_cmp}
use Rattle.std.specs.Ordering.{nat_cmp}
use Rattle.std.specs.List.Sorted.{IsStrictlySortedBy}
use Rattle.base_disk.specs.Files.{Files, bytes_of, ChangesOnly, Holds, Torn, IsShortened, Cut, Follows}
use Rattle.base_disk.specs.View.{View, Elapses, IsStable, LeavesOnly}
use Rattle.base_disk.specs.declared.disk.DiskFail.{DiskFail}
use Rattle.base_disk.specs.declared.disk.DiskFail.TheVariants.{Failed, OutOfMemory}

-- the offset is within the file of this name, or at its end
abbrev pub IsWithin : List ℕ → ℕ → View → Type 0
IsWithin name at v = at ≤ length (bytes_of (v.seen name))

-- the file of this name is there, and has so many bytes at least
abbrev pub HasBytes : List ℕ → ℕ → View → Type 0
HasBytes name count v = IsSome (v.seen name) × (count ≤ length (bytes_of (v.seen name)))

-- the result is the length of the file of this name
abbrev pub HasLength : List ℕ → Result (Option ℕ) DiskFail → View → Type 0
HasLength name result v = IfOk result (λ len. len ≡ option_map length (v.seen name))

-- the file's bytes from an offset on are in front, as many as fit
abbrev pub HasRead : List ℕ → ℕ → ℕ → List ℕ → Result ℕ DiskFail → View → Type 0
HasRead name at room into result v = IfOk result (λ n. take n into ≡ take room (drop at (bytes_of (v.seen name))))

-- no file changes, and no crash leaves what it couldn't leave before
pub record Keeps (old new : View) : Type 0 where
  pub seen : new.seen ≡ old.seen
  pub crash : (c : Files) → new.may_leave c → old.may_leave c
  pub time : Elapses old new

-- nothing becomes stable either
pub record Rests (old new : View) : Type 0 where
  pub keeps : Keeps old new
  pub synced : new.synced ≡ old.synced

-- Where it is known how many calls are left: with none left a call answers Failed and does nothing,
-- now and from then on, and else it doesn't answer Failed.
pub record Budget {T : Type 0} (before now : Option ℕ) (tells : Type 0) (result : Result T DiskFail) (old new : View) : Type 0 where
  pub stops : before ≡ Some 0 → IsErrOf result Failed × (now ≡ Some 0) × (tells → Rests old new)
  pub counts : (k : ℕ) → before ≡ Some (suc k) → (IsErrOf result Failed → ⊥) × (now ≡ Some k)

pub record Writes {T : Type 0} (name : List ℕ) (at : ℕ) (bytes : List ℕ) (result : Result T DiskFail) (old new : View) : Type 0 where
  pub done : OnOk result (ChangesOnly name (Holds at bytes) old.seen new.seen)
  pub failed : ChangesOnly name (Torn at (length bytes)) old.seen new.seen
  pub crash : Follows (ChangesOnly name (Torn at (length bytes))) old.may_leave new.may_leave
  pub synced : new.synced ≡ old.synced
  pub time : Elapses old new

pub record Cuts {T : Type 0} (name : List ℕ) (to : ℕ) (result : Result T DiskFail) (old new : View) : Type 0 where
  pub done : OnOk result (ChangesOnly name (IsShortened to) old.seen new.seen)
  pub failed : ChangesOnly name (Cut to) old.seen new.seen
  pub crash : Follows (ChangesOnly name (Cut to)) old.may_leave new.may_leave
  pub synced : new.synced ≡ old.synced
  pub time : Elapses old new

pub record Syncs {T : Type 0} (name : List ℕ) (result : Result T DiskFail) (old new : View) : Type 0 where
  pub keeps : Keeps old new
  pub done : OnOk result (IsStable name new)
  pub stored : OnOk result (ChangesOnly name (λ _ n. n ≡ old.seen name) old.synced new.synced)

-- reads and every crash agree on whether it happened
pub record Happens (step : Files → Files → Type 0) (old new : View) : Type 0 where
  pub seen : step old.seen new.seen
  pub crash : Follows step old.may_leave new.may_leave

-- a call that is all or nothing
pub record Atomic {T : Type 0} (step : Files → Files → Type 0) (result : Result T DiskFail) (old new : View) : Type 0 where
  pub done : OnOk result (Happens step old new)
  pub failed : Happens step old new ⊎ Keeps old new
  pub stored : OnOk result (step old.synced new.synced)
  pub time : Elapses old new

-- a count has risen, or stands at the end of its type
abbrev pub Rose : ℕ → ℕ → Type 0
Rose before now = min (before + 1) (2 ^ 64 - 1) ≤ now

-- A call answers Failed only where the count of faults rose, and a steady disk never does. Where it
-- answers anything else, lack of memory too, no fault came.
pub record HasCause {T : Type 0} (before now : ℕ) (was_steady is_steady : Type 0) (result : Result T DiskFail) : Type 0 where
  pub later : before ≤ now
  pub failed : IsErrOf result Failed → Rose before now
  pub still : IsErrOf result Failed ⊎ (now ≡ before)
  pub steady : was_steady → is_steady
  pub no_fault : was_steady → IsErrOf result Failed → ⊥

-- a call answers OutOfMemory only where the count of shortages rose
pub record HasShortage {T : Type 0} (before now : ℕ) (result : Result T DiskFail) : Type 0 where
  pub later : before ≤ now
  pub short : IsErrOf result OutOfMemory → Rose before now

-- these are the names of the files, in byte order and each once
pub record Lists (names : List (List ℕ)) (seen : Files) : Type 0 where
  pub there : (name : List ℕ) → Contains names name → IsSome (seen name)
  pub all : (name : List ℕ) → IsSome (seen name) → Contains names name
  pub sorted : IsStrictlySortedBy (slice_cmp nat_cmp) names

-- A call made of several: it is all or nothing but for noise. At every moment since old a crash
-- leaves an old outcome after the noise or after the step, and once the answer is Ok only after the
-- step.
pub record Effect {T E : Type 0} (noise step : Files → Files → Type 0) (result : Result T E) (old new : View) : Type 0 where
  pub any_moment : LeavesOnly old new (λ c. (d : Files) × old.may_leave d × (noise d c ⊎ step d c))
  pub done : OnOk result (Happens step old new)
  pub failed : noise old.seen new.seen ⊎ step old.seen new.seen
