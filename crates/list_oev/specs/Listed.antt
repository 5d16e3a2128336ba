-- The right answer to a question on the edits of a segment's file.
use Rattle.std.specs.Prelude.{◌≡◌, ℕ, List}
use Rattle.edit_ops.specs.Records.{EditView}
use Rattle.list_oev.specs.declared.segment_listing.SegmentCause.{SegmentCause}
use Rattle.list_oev.specs.declared.segment_listing.SegmentListing.{SegmentListing}
use Rattle.list_oev.specs.declared.segment_listing.SegmentListing.TheVariants.{Text, BadBytes, OutOfMemory}
use Rattle.list_oev.specs.Segment.{IsSegment}
use Rattle.list_oev.specs.Damage.{IsDamaged}

-- the text, or what a text is made of, is what is told of the edits of the file
pub record IsTold {X : Type 0} (tell : ℕ → List EditView → List X) (bytes : List ℕ) (text : List X) : Type 0 where
  pub start : ℕ
  pub edits : List EditView
  pub segment : IsSegment bytes start edits
  pub spelled : text ≡ tell start edits

-- the right answer; lack of memory is one everywhere
abbrev pub IsListed : (ℕ → List EditView → List ℕ) → List ℕ → SegmentListing → Type 0
IsListed tell bytes (Text text) = IsTold tell bytes text.items
IsListed tell bytes (BadBytes place cause) = IsDamaged bytes place cause
IsListed tell bytes OutOfMemory = Unit {0}

-- the answer is this text, unless memory ran out
abbrev pub GivesText : List ℕ → SegmentListing → Type 0
GivesText text (Text given) = given.items ≡ text
GivesText text (BadBytes place cause) = ⊥
GivesText text OutOfMemory = Unit {0}

-- the answer is this damage, unless memory ran out
abbrev pub GivesDamage : ℕ → SegmentCause → SegmentListing → Type 0
GivesDamage place cause (Text given) = ⊥
GivesDamage place cause (BadBytes at of) = (at ≡ place) × (of ≡ cause)
GivesDamage place cause OutOfMemory = Unit {0}
