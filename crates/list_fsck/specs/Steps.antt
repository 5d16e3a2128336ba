-- What the steps of a check make of what was found so far.
use Rattle.std.specs.Prelude.{◌≡◌, ◌≢◌, ◌⊎◌, ℕ, ◌+◌, ◌-◌, ◌≤◌, ◌^◌, ◌==◌, not, nat_lt, nat_le, if◌then◌else◌, List, [], ◌++◌, map, Option, Some, None, Result, Ok, Err, Bool, true, false, codes}
use Rattle.base_words.specs.Padded.{padded}
use Rattle.base_disk.specs.Files.{Files}
use Rattle.base_disk.specs.declared.disk.DiskFail.{DiskFail}
use Rattle.base_disk.specs.declared.disk.DiskFail.TheVariants as fail
use Rattle.base_files.specs.Records.{IsNumber}
use Rattle.base_files.specs.declared.answers.Got.{Got}
use Rattle.base_files.specs.declared.answers.Got.TheVariants as got
use Rattle.base_files.specs.declared.answers.GotRecord.{GotRecord}
use Rattle.base_files.specs.declared.answers.GotRecord.TheVariants as record_
use Rattle.ns_store.specs.declared.loaded.Loaded.{Loaded}
use Rattle.ns_store.specs.declared.loaded.Loaded.TheVariants as loaded
use Rattle.list_fsck.specs.declared.rule.Rule.TheVariants as rule
use Rattle.list_fsck.specs.declared.finding.Finding.{Finding}
use Rattle.list_fsck.specs.declared.file_role.FileRole.{FileRole}
use Rattle.list_fsck.specs.declared.file_role.FileRole.TheVariants as role
use Rattle.list_fsck.specs.declared.report.SoFar.{SoFar}
use Rattle.list_fsck.specs.declared.segment_bytes.SegmentBytes.{SegmentBytes}
use Rattle.list_fsck.specs.declared.segment_bytes.SegmentBytes.TheVariants.{Bad, Whole}
use Rattle.list_fsck.specs.Roles.{IsPassing, HasRole, end_after}
use Rattle.list_fsck.specs.Rules.{front_number, IsVerdict}
use Rattle.list_fsck.specs.Reports.{Verdict, line_of, lines_of, one_if, count_of, AreVerdicts}

-- ## Names
-- what stands after the txid in the name of an image, or of the file of its digest
abbrev pub IsOfImage : List ℕ → Type 0
IsOfImage rest = (rest ≡ []) ⊎ (rest ≡ codes ".md5")

-- the role of a name that isn't one of a file that lasts
abbrev pub IsLeft : List ℕ → FileRole → Type 0
IsLeft name role.Passing = IsPassing name
IsLeft name role.Unknown = ((front : List ℕ) → name ≢ front ++ codes ".tmp") × ((txid : ℕ) → txid ≤ 2 ^ 62 → name ≢ codes "fsimage.ckpt_" ++ padded 19 txid)
IsLeft name _ = ⊥

-- ## Numbers and records
-- the number that was got, and none where the file isn't in its grammar
abbrev pub held_of : Got → Result (Option ℕ) DiskFail
held_of (got.Value held) = Ok (Some held)
held_of (got.BadFile name) = Ok None
held_of got.DiskFault = Err fail.Failed
held_of got.OutOfMemory = Err fail.OutOfMemory

-- a file holds this number, or none
abbrev pub HeldIn : Option (List ℕ) → Option ℕ → Type 0
HeldIn file (Some held) = IsNumber file held
HeldIn file None = (held : ℕ) → IsNumber file held → ⊥

-- whether the record that was got is in its grammar, or absent
abbrev pub fine_of : GotRecord → Result Bool DiskFail
fine_of (record_.Found epoch end) = Ok true
fine_of record_.Absent = Ok true
fine_of (record_.BadFile name) = Ok false
fine_of record_.DiskFault = Err fail.Failed
fine_of record_.OutOfMemory = Err fail.OutOfMemory

-- what is told of the last writer's epoch, where both are in their grammars
abbrev pub judged_writer : ℕ → ℕ → Option Finding
judged_writer writer promised = if nat_lt promised writer then Some record { rule = rule.WriterPromised; first = writer; second = promised } else None

-- ## Segments
-- what is told of a segment in progress by its bytes
abbrev pub judged_progress : SegmentBytes → ℕ → Option Finding
judged_progress (Bad place) start = Some record { rule = rule.SegmentBytes; first = place; second = 0 }
judged_progress (Whole told next) start = if start == told then None else Some record { rule = rule.Start; first = start; second = told }

-- of a final one that begins at told and ends before next
abbrev pub judged_whole : ℕ → ℕ → ℕ → ℕ → ℕ → Option Finding
judged_whole start last before told next =
    if not (start == told) then Some record { rule = rule.Start; first = start; second = told }
    else if not (last == next - 1) then Some record { rule = rule.Last; first = last; second = next - 1 }
    else if nat_le start before then Some record { rule = rule.Apart; first = start; second = before }
    else None

abbrev pub judged_final : SegmentBytes → ℕ → ℕ → ℕ → Option Finding
judged_final (Bad place) start last before = Some record { rule = rule.SegmentBytes; first = place; second = 0 }
judged_final (Whole told next) start last before = judged_whole start last before told next

-- ## Images
-- what is told of what was loaded of an image
abbrev pub finding_of : Loaded → Option Finding
finding_of (loaded.Image namespace txid) = None
finding_of loaded.NoImage = Some record { rule = rule.Paired; first = 0; second = 0 }
finding_of (loaded.DigestDiffers stored computed) = Some record { rule = rule.Digest; first = front_number stored; second = front_number computed }
finding_of (loaded.BadImage place cause) = Some record { rule = rule.ImageBytes; first = place; second = 0 }

-- ## The report so far
-- one file more: its line, and the end of the last final segment
pub record AddsVerdict (tells : Type 0) (files : Files) (name : List ℕ) (old new : SoFar) : Type 0 where
  pub role : FileRole
  pub named : HasRole name role
  pub found : Option Finding
  pub verdict : tells → IsVerdict files old.before name role found
  pub text : new.text.items ≡ old.text.items ++ line_of name found
  pub findings : new.findings ≡ old.findings + one_if found
  pub before : new.before ≡ end_after role old.before

-- these files, name by name
pub record IsSoFar (tells : Type 0) (files : Files) (names : List (List ℕ)) (s : SoFar) : Type 0 where
  pub verdicts : List Verdict
  pub names_are : map (λ (v : Verdict). v.name) verdicts ≡ names
  pub text : s.text.items ≡ lines_of verdicts
  pub findings : s.findings ≡ count_of verdicts
  pub right : tells → AreVerdicts files 0 verdicts s.before
