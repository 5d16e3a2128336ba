-- The bytes of a segment file: a header, frames, and a tail.
use Rattle.std.specs.Prelude.{◌≡◌, ℕ, ◌+◌, ◌≤◌, List, ◌∷◌, ◌++◌, take, drop}
use Rattle.std.specs.Int.{w32, w64, to_be_bytes}
use Rattle.journal_core.specs.Limits.{max_number}
use Rattle.disk_frame.specs.declared.frame_cause.FrameCause.{FrameCause}
use Rattle.disk_frame.specs.Frames.{AreFrames}
use Rattle.disk_frame.specs.Faults.{HaveBadFrame}

-- 24 bytes: "QJSG", the layout, the segment's first txid, and the epoch that wrote it
abbrev pub header_bytes : ℕ → ℕ → List ℕ
header_bytes start epoch = 81 ∷ 74 ∷ 83 ∷ 71 ∷ (to_be_bytes w32 1 ++ (to_be_bytes w64 start ++ to_be_bytes w64 epoch))

-- the bytes begin with a header of this start and this epoch, both from 1 to 2^62
pub record HasHeader (bytes : List ℕ) (start epoch : ℕ) : Type 0 where
  pub spelled : take 24 bytes ≡ header_bytes start epoch
  pub some_start : 1 ≤ start
  pub start_within : start ≤ max_number
  pub some_epoch : 1 ≤ epoch
  pub epoch_within : epoch ≤ max_number

-- the bytes are those of a segment file with these bodies; its whole frames end there
pub record IsSegmentFile (bytes : List ℕ) (start epoch : ℕ) (bodies : List (List ℕ)) (whole_length : ℕ) : Type 0 where
  pub header : HasHeader bytes start epoch
  pub frames_length : ℕ
  pub frames : AreFrames start (drop 24 bytes) bodies frames_length
  pub whole : whole_length ≡ 24 + frames_length

-- the bytes have a header, and a bad frame whose seal is at that place of the file
pub record HasBadSegmentFrame (bytes : List ℕ) (start epoch : ℕ) (place : ℕ) (cause : FrameCause) : Type 0 where
  pub header : HasHeader bytes start epoch
  pub behind : ℕ
  pub bad : HaveBadFrame start (drop 24 bytes) behind cause
  pub at : place ≡ 24 + behind
