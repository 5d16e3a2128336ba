-- Which edits the bytes of a segment's file are.
use Rattle.std.specs.Prelude.{◌≡◌, ℕ, ◌+◌, List, [], ◌∷◌, drop}
use Rattle.edit_ops.specs.Records.{EditView}
use Rattle.edit_ops.specs.Grammar.{IsRecord}
use Rattle.disk_frame.specs.Frames.{BeginWithFrames}
use Rattle.disk_frame.specs.Segments.{HasHeader, IsSegmentFile}

-- each body is the record of the edit in its place
abbrev pub AreRecords : List (List ℕ) → List EditView → Type 0
AreRecords [] [] = Unit {0}
AreRecords [] (edit ∷ edits) = ⊥
AreRecords (body ∷ bodies) [] = ⊥
AreRecords (body ∷ bodies) (edit ∷ edits) = IsRecord body edit × AreRecords bodies edits

-- the bytes are a segment's file of these edits, from the txid start on
pub record IsSegment (bytes : List ℕ) (start : ℕ) (edits : List EditView) : Type 0 where
  pub epoch : ℕ
  pub bodies : List (List ℕ)
  pub whole_length : ℕ
  pub file : IsSegmentFile bytes start epoch bodies whole_length
  pub are : AreRecords bodies edits

-- The bytes begin as such a file: a header, and whole frames of these edits, which end at that
-- place.
pub record Begins (bytes : List ℕ) (start : ℕ) (edits : List EditView) (end : ℕ) : Type 0 where
  pub epoch : ℕ
  pub bodies : List (List ℕ)
  pub behind : ℕ
  pub header : HasHeader bytes start epoch
  pub frames : BeginWithFrames start (drop 24 bytes) bodies behind
  pub are : AreRecords bodies edits
  pub end_is : end ≡ 24 + behind
