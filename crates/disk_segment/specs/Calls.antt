-- What each call asks of the segments and of the files.
use Rattle.std.specs.Prelude.{◌≡◌, ℕ, ◌+◌, Bool, true, false, List, [], ◌∷◌, ◌++◌, drop, length, Option, Some, None}
use Rattle.base_disk.specs.Files.{Files, ChangesOnly}
use Rattle.base_disk.specs.View.{View, AllLeave}
use Rattle.journal_core.specs.Views.{BatchView}
use Rattle.journal_core.specs.declared.segment.Segment.{Segment}
use Rattle.journal_core.specs.Segments.{find_segment, IsNotFinal}
use Rattle.disk_frame.specs.Frames.{broken_rule, frame_bytes}
use Rattle.disk_frame.specs.Segments.{header_bytes}
use Rattle.disk_segment.specs.Seal.{Seals}
use Rattle.disk_segment.specs.Places.{Places}
use Rattle.disk_segment.specs.Names.{InProgress, Final, Record, Fresh, name_of, IsKind}
use Rattle.disk_segment.specs.Stands.{HasEpoch}
use Rattle.disk_segment.specs.Effects.{AppendsAt}

-- what is written after the seal of a batch's frame: the rest of the frame, and a blank seal
abbrev pub after_seal : BatchView → List ℕ
after_seal b = drop 1 (frame_bytes b ++ 0 ∷ [])

-- after room for a header the frame of the batch stands, which breaks no rule of its own, and a
-- blank seal
pub record IsFrameOf (b : BatchView) (bytes : List ℕ) : Type 0 where
  pub behind : drop 24 bytes ≡ frame_bytes b ++ 0 ∷ []
  pub good : broken_rule b.first b ≡ None

-- a header, a frame or none, and a blank seal
unfoldable pub content_of : ℕ → ℕ → List ℕ → List ℕ
content_of start epoch frame = header_bytes start epoch ++ (frame ++ 0 ∷ [])

-- the seal at this place is set, with the frame of the batch, which breaks no rule of its own
pub record AppendsFrame (start at : ℕ) (b : BatchView) (old new : Files) : Type 0 where
  pub change : ChangesOnly (name_of start InProgress) (Seals at (after_seal b)) old new
  pub good : broken_rule b.first b ≡ None

-- the frame of the batch stands after a header in the file in progress, and breaks no rule of its
-- own
pub record PlacesFrame (epoch : ℕ) (b : BatchView) (old new : Files) : Type 0 where
  pub places : Places (name_of b.first InProgress) (name_of b.first Fresh) (content_of b.first epoch (frame_bytes b)) old new
  pub good : broken_rule b.first b ≡ None

abbrev pub HasNoEdit : Option Segment → Type 0
HasNoEdit None = Unit {0}
HasNoEdit (Some g) = g.bodies ≡ []

-- the record of this segment isn't of this epoch, nor does a crash leave one that is
abbrev pub HasOtherEpoch : ℕ → ℕ → View → Type 0
HasOtherEpoch start epoch v = AllLeave v (λ c. HasEpoch (c (name_of start Record)) epoch → ⊥)

-- nothing stands with that start, or a segment in progress without an edit
pub record CanCreate (start epoch : ℕ) (gs : List Segment) (v : View) : Type 0 where
  pub not_final : IsNotFinal (find_segment start gs)
  pub no_edit : HasNoEdit (find_segment start gs)
  pub other_epoch : HasOtherEpoch start epoch v

-- this segment in progress ends before the batch
pub record CanAppend (start at : ℕ) (b : BatchView) (gs : List Segment) (v : View) (g : Segment) : Type 0 where
  pub known : find_segment start gs ≡ Some g
  pub start_is : g.start ≡ start
  pub in_progress : g.is_final ≡ false
  pub appends : AppendsAt v g at
  pub next : b.first ≡ start + length g.bodies

-- this segment in progress holds an edit and has that end
pub record CanFinalize (start end : ℕ) (gs : List Segment) (g : Segment) : Type 0 where
  pub known : find_segment start gs ≡ Some g
  pub in_progress : g.is_final ≡ false
  pub valid : IsKind start (Final end)
  pub ends : end + 1 ≡ start + length g.bodies

-- this segment is final or in progress as is told, and a final one has that end
pub record CanDiscard (start end : ℕ) (is_final : Bool) (gs : List Segment) (g : Segment) : Type 0 where
  pub known : find_segment start gs ≡ Some g
  pub final : g.is_final ≡ is_final
  pub valid : is_final ≡ true → IsKind start (Final end) × (end + 1 ≡ start + length g.bodies)

-- no final segment has the batch's start, and the record is of another epoch
pub record CanReplace (epoch : ℕ) (b : BatchView) (gs : List Segment) (v : View) : Type 0 where
  pub not_final : IsNotFinal (find_segment b.first gs)
  pub other_epoch : HasOtherEpoch b.first epoch v

-- a segment in progress has the batch's start, and its record this epoch
pub record CanReplaceAgain (epoch : ℕ) (b : BatchView) (gs : List Segment) (v : View) (g : Segment) : Type 0 where
  pub known : find_segment b.first gs ≡ Some g
  pub in_progress : g.is_final ≡ false
  pub same_epoch : AllLeave v (λ c. HasEpoch (c (name_of b.first Record)) epoch)
