-- What is wrong with a segment's file, at the first place where something is.
use Rattle.std.specs.Prelude.{◌≡◌, ℕ, ◌+◌, List, ◌∷◌, ◌++◌, length, drop, Option, Some, None}
use Rattle.std.specs.List.{flat_map}
use Rattle.journal_core.specs.Views.{BatchView}
use Rattle.edit_codec.specs.declared.decoded.Decoded.{Decoded}
use Rattle.edit_codec.specs.declared.decoded.Decoded.TheVariants as decoded
use Rattle.edit_ops.specs.Records.{EditView}
use Rattle.edit_codec.specs.Decoding.{IsDecoded}
use Rattle.disk_frame.specs.declared.frame_cause.FrameCause.{FrameCause}
use Rattle.disk_frame.specs.declared.frame_cause.FrameCause.TheVariants as frame
use Rattle.disk_frame.specs.Frames.{entry_bytes, broken_rule}
use Rattle.disk_frame.specs.Faults.{Spells, IsBadFrame}
use Rattle.disk_frame.specs.Segments.{HasHeader}
use Rattle.list_oev.specs.declared.segment_listing.SegmentCause.{SegmentCause}
use Rattle.list_oev.specs.declared.segment_listing.SegmentCause.TheVariants as causes
use Rattle.list_oev.specs.Segment.{AreRecords, Begins}

abbrev pub cause_of_frame : FrameCause → SegmentCause
cause_of_frame frame.Short = causes.Short
cause_of_frame frame.Length = causes.Length
cause_of_frame frame.Count = causes.Count
cause_of_frame frame.Body = causes.Body
cause_of_frame frame.Order = causes.Order

abbrev pub cause_of_edit : Decoded → Option SegmentCause
cause_of_edit (decoded.Edit e) = None
cause_of_edit (decoded.UnknownOpcode code) = Some causes.Opcode
cause_of_edit (decoded.Short needed) = Some causes.Short
cause_of_edit (decoded.Trailing count) = Some causes.Trailing
cause_of_edit (decoded.BadField place rule) = Some causes.Field
cause_of_edit decoded.OutOfMemory = None

-- the file doesn't begin with a segment's header
abbrev pub HasNoHeader : List ℕ → Type 0
HasNoHeader bytes = (start epoch : ℕ) → HasHeader bytes start epoch → ⊥

-- after whole frames of edits stands a bad one; its seal is at the place
pub record HasBadFrame (bytes : List ℕ) (place : ℕ) (cause : FrameCause) : Type 0 where
  pub start : ℕ
  pub edits : List EditView
  pub begins : Begins bytes start edits place
  pub bad : IsBadFrame (start + length edits) (drop place bytes) cause

-- the body is the record of no edit, for this cause
pub record IsBadBody (body : List ℕ) (cause : SegmentCause) : Type 0 where
  pub answer : Decoded
  pub right : IsDecoded body answer
  pub told : cause_of_edit answer ≡ Some cause

-- After whole frames of edits stands a frame that breaks no rule. In it, after records of edits,
-- stands a body that is the record of none, and begins at the place.
pub record HasBadEdit (bytes : List ℕ) (place : ℕ) (cause : SegmentCause) : Type 0 where
  pub start : ℕ
  pub edits : List EditView
  pub seal : ℕ
  pub begins : Begins bytes start edits seal
  pub frame : BatchView
  pub spells : Spells (drop seal bytes) frame
  pub good : broken_rule (start + length edits) frame ≡ None
  pub records : List (List ℕ)
  pub done : List EditView
  pub are : AreRecords records done
  pub body : List ℕ
  pub others : List (List ℕ)
  pub bodies_are : frame.bodies ≡ records ++ body ∷ others
  pub bad : IsBadBody body cause
  pub at : place ≡ seal + 17 + length (flat_map entry_bytes records) + 2

-- The first damage of the file: no header, a bad frame, or a body that is no edit's record. What
-- stands before it has none.
pub data IsDamaged (bytes : List ℕ) (place : ℕ) (cause : SegmentCause) : Type 0 where
  header : HasNoHeader bytes → place ≡ 0 → cause ≡ causes.Header → IsDamaged bytes place cause
  bad_frame : (of : FrameCause) → HasBadFrame bytes place of → cause ≡ cause_of_frame of → IsDamaged bytes place cause
  bad_edit : HasBadEdit bytes place cause → IsDamaged bytes place cause
