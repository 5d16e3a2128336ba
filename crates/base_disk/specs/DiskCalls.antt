-- What every call over a disk promises, and what is said of a disk where it tells its bytes.
use Rattle.std.specs.Prelude.{◌≡◌, ◌↔◌, ◌≤◌, ℕ, List, None, IsSome, IsErrOf, Result}
use Rattle.base_disk.specs.View.{View}
use Rattle.base_disk.specs.Calls.{Budget, HasCause, HasShortage, Rose}
use Rattle.base_disk.specs.declared.disk.DiskFail.{DiskFail}
use Rattle.base_disk.specs.declared.disk.DiskFail.TheVariants.{OutOfMemory}
use Rattle.base_disk.specs.declared.disk.DiskModel.{Ghosts}

-- A run of disk calls, which may read, and may take memory of its own: the disk tells its bytes or
-- not, as before, and a failure of the disk has its cause.
pub record IsDiskRun {D T : Type 0} (disk : Ghosts D) (old new : D) (result : Result T DiskFail) : Type 0 where
  pub tells : disk.tells old ↔ disk.tells new
  pub cause : HasCause (disk.faults old) (disk.faults new) (disk.steady old) (disk.steady new) result

-- A run that reads nothing and takes no memory but what the disk takes: the count of reads stands
-- still, and a lack of memory has its shortage.
pub record IsDiskCall {D T : Type 0} (disk : Ghosts D) (old new : D) (result : Result T DiskFail) : Type 0 where
  pub tells : disk.tells old ↔ disk.tells new
  pub reads : disk.reads new ≡ disk.reads old
  pub cause : HasCause (disk.faults old) (disk.faults new) (disk.steady old) (disk.steady new) result
  pub shortage : HasShortage (disk.shortages old) (disk.shortages new) result

-- One call of `read`: the count of reads rises, and it takes no memory.
pub record IsDiskRead {D T : Type 0} (disk : Ghosts D) (old new : D) (result : Result T DiskFail) : Type 0 where
  pub tells : disk.tells old ↔ disk.tells new
  pub reads : Rose (disk.reads old) (disk.reads new)
  pub later : disk.reads old ≤ disk.reads new
  pub cause : HasCause (disk.faults old) (disk.faults new) (disk.steady old) (disk.steady new) result
  pub memory : IsErrOf result OutOfMemory → ⊥
  pub shortage : disk.shortages new ≡ disk.shortages old

-- what holds of the views before and after, where the disk tells its bytes
abbrev pub IfTold : {D : Type 0} → Ghosts D → D → D → (View → View → Type 0) → Type 0
IfTold disk old new P = disk.tells old → P (disk.view old) (disk.view new)

-- what holds of the view, where the disk tells its bytes
abbrev pub IfTells : {D : Type 0} → Ghosts D → D → (View → Type 0) → Type 0
IfTells disk now P = disk.tells now → P (disk.view now)

-- a file of this name is there
abbrev pub HasFile : {D : Type 0} → Ghosts D → D → List ℕ → Type 0
HasFile disk now name = disk.tells now → IsSome ((disk.view now).seen name)

-- no file of this name is there
abbrev pub LacksFile : {D : Type 0} → Ghosts D → D → List ℕ → Type 0
LacksFile disk now name = disk.tells now → (disk.view now).seen name ≡ None

-- a call that goes by how many are left, where that is known
abbrev pub KeepsBudget : {D T : Type 0} → Ghosts D → D → D → Result T DiskFail → Type 0
KeepsBudget disk old new result = Budget (disk.left old) (disk.left new) (disk.tells old) result (disk.view old) (disk.view new)
