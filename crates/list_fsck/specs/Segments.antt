-- What the bytes of a segment's file tell by themselves.
use Rattle.std.specs.Prelude.{◌≡◌, ℕ, ◌+◌, List, length}
use Rattle.disk_frame.specs.declared.frame_cause.FrameCause.{FrameCause}
use Rattle.disk_frame.specs.Segments.{HasHeader, IsSegmentFile, HasBadSegmentFrame}
use Rattle.list_fsck.specs.declared.segment_bytes.SegmentBytes.{SegmentBytes}
use Rattle.list_fsck.specs.declared.segment_bytes.SegmentBytes.TheVariants.{Bad, Whole}

-- a segment from this txid on; the next one would begin at that one
pub record TellsSegment (bytes : List ℕ) (start next : ℕ) : Type 0 where
  pub epoch : ℕ
  pub bodies : List (List ℕ)
  pub whole_length : ℕ
  pub file : IsSegmentFile bytes start epoch bodies whole_length
  pub next_is : next ≡ start + length bodies

-- what is wrong first, and where: no header, or a bad frame by its seal
pub data IsBadSegment (bytes : List ℕ) (place : ℕ) : Type 0 where
  no_header : ((start epoch : ℕ) → HasHeader bytes start epoch → ⊥) → place ≡ 0 → IsBadSegment bytes place
  bad_frame : (start epoch : ℕ) (cause : FrameCause) → HasBadSegmentFrame bytes start epoch place cause → IsBadSegment bytes place

abbrev pub IsReadAs : List ℕ → SegmentBytes → Type 0
IsReadAs bytes (Bad place) = IsBadSegment bytes place
IsReadAs bytes (Whole start next) = TellsSegment bytes start next
