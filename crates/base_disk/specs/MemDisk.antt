-- A disk in memory, for clauses.
use Rattle.std.specs.Prelude.{◌≡◌, ℕ, ◌+◌, ◌==◌, Option, List, Bool}
use Rattle.std.specs.List.{list_any}
use Rattle.base_disk.specs.View.{View}
use Rattle.base_disk.specs.FileView.{FileView}
use Rattle.base_disk.specs.FileMap.{file_in}
use Rattle.base_disk.specs.CallPlan.{IsSteady, left_of}
use Rattle.base_disk.specs.Timeline.{view_of}
use Rattle.base_disk.specs.declared.mem_disk.MemDisk.{MemDisk}

abbrev pub disk_view : MemDisk → View
disk_view m = view_of m.past.items m.files

abbrev pub file_of : MemDisk → List ℕ → Option FileView
file_of m name = file_in m.files name

-- no later call is set to fail
abbrev pub CannotFail : MemDisk → Type 0
CannotFail m = IsSteady m.plan

-- how many calls are left before every call fails, where that is all that is set
abbrev pub calls_left : MemDisk → Option ℕ
calls_left m = left_of m.plan

abbrev pub faults_of : MemDisk → ℕ
faults_of m = m.plan.faults

abbrev pub shortages_of : MemDisk → ℕ
shortages_of m = m.shortages

abbrev pub reads_of : MemDisk → ℕ
reads_of m = m.reads

-- the call of this number from now is one of those that fail
abbrev pub is_listed_at : MemDisk → ℕ → Bool
is_listed_at m n = list_any (λ k. k == m.plan.made + n) m.plan.failing.items

-- all but which later calls fail is as before
pub record IsSameBut (old new : MemDisk) : Type 0 where
  pub files : new.files ≡ old.files
  pub past : new.past ≡ old.past
  pub faults : faults_of new ≡ faults_of old
  pub reads : reads_of new ≡ reads_of old
