-- A file is put in the place of another by way of a temporary one: three calls, of which the last
-- decides.
use Rattle.std.specs.Prelude.{◌≡◌, ◌≢◌, ℕ, ◌+◌, ◌<◌, List, ◌++◌, Option, Some, None, Result, OnOk, IsErr, IsErrOf, codes}
use Rattle.base_disk.specs.Files.{Files, ChangesOnly, Follows}
use Rattle.base_disk.specs.View.{View}
use Rattle.base_disk.specs.Calls.{Effect}
use Rattle.base_disk.specs.declared.disk.DiskModel.{Ghosts}
use Rattle.base_disk.specs.declared.disk.DiskFail.{DiskFail}
use Rattle.base_disk.specs.declared.disk.DiskFail.TheVariants.{Failed}

-- the name with .tmp after it
abbrev pub temporary : List ℕ → List ℕ
temporary name = name ++ codes ".tmp"

-- nothing but this file changes
abbrev pub Disturbs : List ℕ → Files → Files → Type 0
Disturbs name = ChangesOnly name (λ _ _. Unit {0})

-- the file has these bytes, and the temporary one is gone
pub record Puts (name tmp bytes : List ℕ) (old new : Files) : Type 0 where
  pub here : new name ≡ Some bytes
  pub gone : new tmp ≡ None
  pub others : (other : List ℕ) → other ≢ name → other ≢ tmp → new other ≡ old other

-- Where it is known how many calls are left: with fewer than three a put isn't done, and a crash
-- leaves the files as before it but for the temporary one. With three or more no call fails, and a
-- put that is done took three.
pub record PutCut {T : Type 0} (before now : Option ℕ) (tells : Type 0) (tmp : List ℕ) (result : Result T DiskFail) (old new : View) : Type 0 where
  pub stops : (k : ℕ) → before ≡ Some k → k < 3 → IsErr result × (tells → Follows (Disturbs tmp) old.may_leave new.may_leave)
  pub counts : (k : ℕ) → before ≡ Some (3 + k) → (IsErrOf result Failed → ⊥) × OnOk result (now ≡ Some k)

-- Where it is known how many calls are left: with none, a disk call does nothing. With one or more
-- it doesn't fail, and a call that is done took one.
pub record OneCut {T : Type 0} (before now : Option ℕ) (tells : Type 0) (result : Result T DiskFail) (old new : View) : Type 0 where
  pub stops : before ≡ Some 0 → IsErr result × (tells → (c : Files) → new.may_leave c → old.may_leave c)
  pub counts : (k : ℕ) → before ≡ Some (1 + k) → (IsErrOf result Failed → ⊥) × OnOk result (now ≡ Some k)

-- a put as one effect: all or nothing but for the temporary file
abbrev pub IsPut : {T : Type 0} → List ℕ → List ℕ → List ℕ → Result T DiskFail → View → View → Type 0
IsPut name tmp bytes result = Effect (Disturbs tmp) (Puts name tmp bytes) result

-- what is left after a put, and after a single call, of a disk
abbrev pub IsPutCut : {D T : Type 0} → Ghosts D → D → D → List ℕ → Result T DiskFail → Type 0
IsPutCut disk old new tmp result = PutCut (disk.left old) (disk.left new) (disk.tells old) tmp result (disk.view old) (disk.view new)

abbrev pub IsOneCut : {D T : Type 0} → Ghosts D → D → D → Result T DiskFail → Type 0
IsOneCut disk old new result = OneCut (disk.left old) (disk.left new) (disk.tells old) result (disk.view old) (disk.view new)
