-- What the scan of a segment's file finds.
use Rattle.std.specs.Prelude.{◌≡◌, ℕ, ◌+◌, List, length, take, drop, Option, Some, None}
use Rattle.disk_frame.specs.declared.frame_cause.FrameCause.{FrameCause}
use Rattle.disk_frame.specs.declared.frame_cause.FrameCause.TheVariants as cause
use Rattle.disk_frame.specs.declared.scanned.Scan.{Scan}
use Rattle.disk_frame.specs.Frames.{IsTail}
use Rattle.disk_frame.specs.Faults.{HaveBadFrame}
use Rattle.disk_frame.specs.Segments.{IsSegmentFile}
use Rattle.disk_frame.specs.Answers.{IsScan}
use Rattle.disk_segment.specs.declared.file_scan.FileScan.{FileScan}
use Rattle.disk_segment.specs.declared.window_end.WindowEnd.{WindowEnd}
use Rattle.disk_segment.specs.declared.window_end.WindowEnd.TheVariants as window

-- what stands after the frames of a window is more than the window has
abbrev pub IsInside : Option FrameCause → ℕ → ℕ → Type 0
IsInside None taken size = taken ≡ size
IsInside (Some c) taken size = c ≡ cause.Short

abbrev pub IsWindowEnd : ℕ → List ℕ → ℕ → ℕ → Scan → WindowEnd → Type 0
IsWindowEnd first bytes skip most s window.Ended = IsScan first bytes skip most s × IsTail (drop s.whole_length bytes)
IsWindowEnd first bytes skip most s window.Bad = (c : FrameCause) × HaveBadFrame first bytes s.whole_length c
IsWindowEnd first bytes skip most s window.Beyond = IsScan first bytes skip most s

-- all frames of the bytes, or that one is bad
abbrev pub AreScanned : ℕ → List ℕ → ℕ → ℕ → Option Scan → Type 0
AreScanned first bytes skip most None = (place : ℕ) × (c : FrameCause) × HaveBadFrame first bytes place c
AreScanned first bytes skip most (Some s) = IsScan first bytes skip most s × IsTail (drop s.whole_length bytes)

-- the bytes are a segment file with this start, and the scan has a piece of its bodies
pub record IsFileScan (start : ℕ) (bytes : List ℕ) (skip most : ℕ) (f : FileScan) : Type 0 where
  pub bodies : List (List ℕ)
  pub file : IsSegmentFile bytes start f.epoch bodies (24 + f.scan.whole_length)
  pub count : f.scan.count ≡ length bodies
  pub piece : f.scan.bodies ≡ take most (drop skip bodies)

-- what a file is as that of a segment with this start
abbrev pub ScansFile : ℕ → Option (List ℕ) → ℕ → ℕ → Option FileScan → Type 0
ScansFile start file skip most None = (bytes : List ℕ) → file ≡ Some bytes → (epoch whole_length : ℕ) (bodies : List (List ℕ)) → IsSegmentFile bytes start epoch bodies whole_length → ⊥
ScansFile start file skip most (Some f) = (bytes : List ℕ) × (file ≡ Some bytes) × IsFileScan start bytes skip most f
