-- The text of a check, and what came of it.
use Rattle.std.specs.Prelude.{◌≡◌, ℕ, ◌+◌, List, [], ◌∷◌, ◌++◌, map, Option, Some, None, Result, Ok, Err, codes, decimal}
use Rattle.std.specs.Io.KnownBytes.{Appends}
use Rattle.base_outside.specs.Faults.{Rose}
use Rattle.base_outside.specs.Whole.{TakesFront}
use Rattle.base_disk.specs.Files.{Files}
use Rattle.base_disk.specs.Calls.{Lists}
use Rattle.base_disk.specs.declared.disk.DiskFail.{DiskFail}
use Rattle.base_disk.specs.declared.disk.DiskFail.TheVariants as fail
use Rattle.list_fsck.specs.declared.finding.Finding.{Finding}
use Rattle.list_fsck.specs.declared.file_role.FileRole.{FileRole}
use Rattle.list_fsck.specs.declared.checkup.Checkup.{Checkup}
use Rattle.list_fsck.specs.declared.checkup.Checkup.TheVariants.{Found, DiskFault, WriteFault, OutOfMemory}
use Rattle.list_fsck.specs.Roles.{HasRole, end_after}
use Rattle.list_fsck.specs.Rules.{number_of, IsVerdict}

-- a file's name, and what was found
pub record Verdict : Type 0 where
  pub name : List ℕ
  pub found : Option Finding

-- ## The text
abbrev pub line_of : List ℕ → Option Finding → List ℕ
line_of name None = codes "ok " ++ (name ++ 10 ∷ [])
line_of name (Some f) = codes "bad " ++ (name ++ 32 ∷ (decimal (number_of f.rule) ++ 32 ∷ (decimal f.first ++ 32 ∷ (decimal f.second ++ 10 ∷ []))))

abbrev pub lines_of : List Verdict → List ℕ
lines_of [] = []
lines_of (v ∷ vs) = line_of v.name v.found ++ lines_of vs

abbrev pub one_if : Option Finding → ℕ
one_if None = 0
one_if (Some f) = 1

-- how many tell a finding
abbrev pub count_of : List Verdict → ℕ
count_of [] = 0
count_of (v ∷ vs) = one_if v.found + count_of vs

abbrev pub text_of : List Verdict → List ℕ
text_of vs = lines_of vs ++ (codes "findings " ++ (decimal (count_of vs) ++ 10 ∷ []))

-- ## What is right
-- Each verdict is that on its file, name by name, where a final segment ended at the first number
-- before them, and at the last after them.
abbrev pub AreVerdicts : Files → ℕ → List Verdict → ℕ → Type 0
AreVerdicts files before [] after = after ≡ before
AreVerdicts files before (v ∷ vs) after =
    (role : FileRole) × HasRole v.name role × IsVerdict files before v.name role v.found × AreVerdicts files (end_after role before) vs after

-- these are the verdicts on all files of the folder, in byte order of their names
pub record AreFindings (files : Files) (vs : List Verdict) : Type 0 where
  pub all : Lists (map (λ (v : Verdict). v.name) vs) files
  pub end : ℕ
  pub each : AreVerdicts files 0 vs end

-- The text of a check and how many findings it tells; they are those of the files, where the disk
-- tells its bytes.
pub record IsReport (tells : Type 0) (files : Files) (text : List ℕ) (findings : ℕ) : Type 0 where
  pub verdicts : List Verdict
  pub spelled : text ≡ text_of verdicts
  pub counted : findings ≡ count_of verdicts
  pub right : tells → AreFindings files verdicts

-- a folder has one report
abbrev pub FoldersHaveOneReport : Type 0
FoldersHaveOneReport = (files : Files) (text other : List ℕ) (n m : ℕ) → IsReport (Unit {0}) files text n → IsReport (Unit {0}) files other m → (text ≡ other) × (n ≡ m)

-- ## What was done
-- a sink before and now: the bytes that it took, where it tells them, its count of faults, and how
-- many bytes it keeps back
pub record SinkSeen : Type 0 where
  pub taken : Option (List ℕ)
  pub faults : ℕ
  pub kept : ℕ

-- the whole text was written, and nothing of it is kept back; or a prefix of it where the sink
-- failed, or nothing where the disk failed or memory ran out
abbrev pub IsCheckup : Type 0 → Files → Checkup → SinkSeen → SinkSeen → Type 0
IsCheckup tells files (Found findings) before now =
    (text : List ℕ) × IsReport tells files text findings × Appends before.taken now.taken text × (now.faults ≡ before.faults) × (now.kept ≡ 0)
IsCheckup tells files WriteFault before now =
    (text : List ℕ) × (findings : ℕ) × IsReport tells files text findings × TakesFront before.taken now.taken text × Rose before.faults now.faults
IsCheckup tells files DiskFault before now = (now.taken ≡ before.taken) × (now.faults ≡ before.faults) × (now.kept ≡ before.kept)
IsCheckup tells files OutOfMemory before now = (now.taken ≡ before.taken) × (now.faults ≡ before.faults) × (now.kept ≡ before.kept)

-- what came of writing this text
abbrev pub IsWritten : List ℕ → ℕ → Checkup → SinkSeen → SinkSeen → Type 0
IsWritten text findings (Found told) before now = (told ≡ findings) × Appends before.taken now.taken text × (now.faults ≡ before.faults) × (now.kept ≡ 0)
IsWritten text findings WriteFault before now = TakesFront before.taken now.taken text × Rose before.faults now.faults
IsWritten text findings _ before now = ⊥

-- as the answer of a disk
abbrev pub disk_answer : Checkup → Result (Unit {0}) DiskFail
disk_answer (Found findings) = Ok tt
disk_answer WriteFault = Ok tt
disk_answer DiskFault = Err fail.Failed
disk_answer OutOfMemory = Err fail.OutOfMemory
