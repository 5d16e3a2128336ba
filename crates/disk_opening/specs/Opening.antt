-- What opening makes stable, and what it repairs.
use Rattle.std.specs.Prelude.{◌≡◌, ◌≢◌, ℕ, ◌≤◌, ◌^◌, List, ◌++◌, None, codes, Result, Ok, Err}
use Rattle.std.specs.Cmp.Lexicographic.{slice_cmp}
use Rattle.std.specs.Ordering.{nat_cmp}
use Rattle.std.specs.declared.cmp.Ordering.TheVariants.{Less}
use Rattle.base_disk.specs.Files.{Files}
use Rattle.base_disk.specs.View.{View, IsStable}
use Rattle.base_disk.specs.declared.disk.DiskFail.{DiskFail}
use Rattle.base_disk.specs.declared.disk.DiskFail.TheVariants as fail
use Rattle.journal_core.specs.declared.segment.Segment.{Segment}
use Rattle.disk_segment.specs.Names.{Kind, Record, Fresh, name_of, IsLasting}
use Rattle.disk_opening.specs.Kinds.{IsNamed}
use Rattle.disk_segment.specs.Stands.{IsRecordFile, StandsFor}
use Rattle.disk_segment.specs.Effects.{IsTidy}
use Rattle.disk_opening.specs.declared.completed.Completed.{Completed}
use Rattle.disk_opening.specs.declared.completed.Completed.TheVariants as completed

-- the name ends in .tmp, as those of temporary files, whatever stands before
pub record IsTemporary (name : List ℕ) : Type 0 where
  pub front : List ℕ
  pub ends : name ≡ front ++ codes ".tmp"

-- the name is that of a segment's file that counts
pub record IsLastingFile (name : List ℕ) : Type 0 where
  pub start : ℕ
  pub kind : Kind
  pub named : IsNamed name start kind
  pub lasting : IsLasting kind

-- such a file each crash now leaves as a read gives it
abbrev pub Settled : View → List ℕ → Type 0
Settled v name = IsLastingFile name → IsStable name v

-- each file of a segment that counts is stable; of other names, also foreign ones, this says
-- nothing
pub record SegmentsStable (v : View) : Type 0 where
  pub each : (name : List ℕ) → Settled v name

-- what was stored of other files than P's is still what is stored of them
abbrev pub SyncsOnly : (List ℕ → Type 0) → View → View → Type 0
SyncsOnly P old new = (name : List ℕ) → (P name → ⊥) → new.synced name ≡ old.synced name

-- the name of no file of a segment
abbrev pub IsOther : List ℕ → Type 0
IsOther name = (start : ℕ) (kind : Kind) → name_of start kind ≢ name

-- Whatever segments the old files stand for, the new ones stand for too. Other files stay, but for
-- temporary ones.
pub record Repairs (old new : Files) : Type 0 where
  pub segments : (gs : List Segment) → StandsFor old gs → StandsFor new gs
  pub others : (name : List ℕ) → IsOther name → (IsTemporary name → ⊥) → new name ≡ old name

-- the record of a segment that isn't in its grammar
pub record IsBadRecordFile (seen : Files) (name : List ℕ) : Type 0 where
  pub start : ℕ
  pub first : 1 ≤ start
  pub small : start ≤ 2 ^ 62
  pub named : name ≡ name_of start Record
  pub bad : IsRecordFile (seen name) → ⊥

-- the first name in byte order of which P holds
pub record IsFirst (P : List ℕ → Type 0) (name : List ℕ) : Type 0 where
  pub here : P name
  pub before : (other : List ℕ) → slice_cmp nat_cmp other name ≡ Less → P other → ⊥

-- No acceptance is under way, no start has both a final file and one in progress, no temporary file
-- is left, and each record that is there is in its grammar.
pub record IsRepaired (seen : Files) : Type 0 where
  pub tidy : IsTidy seen
  pub none_fresh : (start : ℕ) → 1 ≤ start → start ≤ 2 ^ 62 → seen (name_of start Fresh) ≡ None
  pub none_temporary : (front : List ℕ) → seen (front ++ codes ".tmp") ≡ None
  pub records : (name : List ℕ) → IsBadRecordFile seen name → ⊥

-- what came of the repair of these files: a bad record is told before anything changes
abbrev pub IsCompleted : Files → Files → Completed → Type 0
IsCompleted old new completed.Done = IsRepaired new × ((name : List ℕ) → IsBadRecordFile old name → ⊥)
IsCompleted old new (completed.BadFile name) = IsFirst (IsBadRecordFile old) name × (new ≡ old)
IsCompleted old new completed.DiskFault = Unit {0}
IsCompleted old new completed.OutOfMemory = Unit {0}

-- a repair as the result of a disk call
abbrev pub completed_result : Completed → Result (Unit {0}) DiskFail
completed_result completed.Done = Ok tt
completed_result (completed.BadFile name) = Ok tt
completed_result completed.DiskFault = Err fail.Failed
completed_result completed.OutOfMemory = Err fail.OutOfMemory
