-- The right answers for a batch that is written, and for bytes that are read.
use Rattle.std.specs.Prelude.{◌≡◌, ℕ, List, ◌++◌, length, take, drop, Option, Some, None, nat_lt, if◌then◌else◌}
use Rattle.std.specs.List.{list_any}
use Rattle.journal_core.specs.Views.{BatchView}
use Rattle.journal_core.specs.Limits.{max_body, max_segment}
use Rattle.disk_frame.specs.declared.frame_cause.FrameCause.{FrameCause}
use Rattle.disk_frame.specs.declared.framed.Framed.{Framed}
use Rattle.disk_frame.specs.declared.framed.Framed.TheVariants as framed
use Rattle.disk_frame.specs.declared.scanned.Scan.{Scan}
use Rattle.disk_frame.specs.declared.scanned.Scanned.{Scanned}
use Rattle.disk_frame.specs.declared.scanned.Scanned.TheVariants as scanned
use Rattle.disk_frame.specs.declared.checked.Checked.{Checked}
use Rattle.disk_frame.specs.declared.checked.Checked.TheVariants as checked
use Rattle.disk_frame.specs.Frames.{frame_bytes, broken_rule, BeginWithFrames, IsTail}
use Rattle.disk_frame.specs.Faults.{Spells, IsBadFrame, HaveBadFrame}

-- the first limit that a batch passes: a body of more than 4,096 bytes, or more than 16,384 bodies
abbrev pub passed_limit : BatchView → Option ℕ
passed_limit b =
    if list_any (λ body. nat_lt max_body (length body)) b.bodies then Some max_body
    else if nat_lt max_segment (length b.bodies) then Some max_segment
    else None

-- lack of memory is a right answer to every batch within the limits
abbrev pub IsFramed : List ℕ → BatchView → Framed → Type 0
IsFramed front b (framed.Bytes v) = (v.items ≡ front ++ frame_bytes b) × (passed_limit b ≡ None)
IsFramed front b (framed.TooLong number) = passed_limit b ≡ Some number
IsFramed front b framed.OutOfMemory = passed_limit b ≡ None

-- what was written breaks no rule where the batch's first txid is the next one
abbrev pub IsGoodFrame : BatchView → Framed → Type 0
IsGoodFrame b (framed.Bytes v) = broken_rule b.first b ≡ None
IsGoodFrame b (framed.TooLong number) = Unit {0}
IsGoodFrame b framed.OutOfMemory = Unit {0}

-- the bytes begin with the frames of this scan, which has of their bodies those after the first
-- `skip`, at most `most`
pub record IsScan (first : ℕ) (bytes : List ℕ) (skip most : ℕ) (s : Scan) : Type 0 where
  pub all : List (List ℕ)
  pub frames : BeginWithFrames first bytes all s.whole_length
  pub count : s.count ≡ length all
  pub piece : s.bodies ≡ take most (drop skip all)

-- what stands where no whole frame does: a tail, or a bad frame
abbrev pub IsStop : ℕ → List ℕ → Option FrameCause → Type 0
IsStop next bytes None = IsTail bytes
IsStop next bytes (Some cause) = IsBadFrame next bytes cause

abbrev pub IsScanned : ℕ → List ℕ → ℕ → ℕ → Scanned → Type 0
IsScanned first bytes skip most (scanned.Whole s) = IsScan first bytes skip most s × IsTail (drop s.whole_length bytes)
IsScanned first bytes skip most (scanned.BadFrame place cause) = HaveBadFrame first bytes place cause
IsScanned first bytes skip most scanned.OutOfMemory = Unit {0}

-- the bytes begin with a frame that breaks no rule, of so many entries and so many bytes
pub record IsWholeFrame (next : ℕ) (bytes : List ℕ) (count size : ℕ) : Type 0 where
  pub batch : BatchView
  pub spells : Spells bytes batch
  pub good : broken_rule next batch ≡ None
  pub count_is : count ≡ length batch.bodies
  pub size_is : size ≡ length (frame_bytes batch)

abbrev pub IsChecked : ℕ → List ℕ → Checked → Type 0
IsChecked next bytes checked.NoFrame = IsTail bytes
IsChecked next bytes (checked.Whole count size) = IsWholeFrame next bytes count size
IsChecked next bytes (checked.Bad cause) = IsBadFrame next bytes cause
