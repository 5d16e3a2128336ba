-- A repeated acceptance as an effect on the segments.
use Rattle.std.proofs.Common.{◌≡◌, ℕ, List, [], ◌∷◌, ◌++◌, ap, sym, ◌∙◌, refl, subst, ◌^◌, ◌≤◌, ◌+◌, false, length, append_assoc}
use Rattle.std.specs.Prelude.{Option, Some, None, Result}
use Rattle.base_disk.specs.View.{View, IsSound}
use Rattle.base_disk.specs.Calls.{Effect}
use Rattle.base_files.specs.Puts.{Disturbs}
use Rattle.journal_core.specs.Views.{BatchView}
use Rattle.journal_core.specs.declared.segment.Segment.{Segment}
use Rattle.journal_core.specs.Segments.{find_segment, put_segment, IsNotFinal}
use Rattle.journal_core.specs.Effects.{accepted_segment}
use Rattle.disk_frame.specs.Frames.{frame_bytes, broken_rule}
use Rattle.disk_frame.specs.Segments.{IsSegmentFile, header_bytes}
use Rattle.disk_segment.specs.Names.{InProgress, Fresh, name_of}
use Rattle.disk_segment.specs.Places.{Places}
use Rattle.disk_segment.specs.Effects.{IsReady, Touches, Becomes}
use Rattle.disk_segment.specs.Calls.{CanReplaceAgain, PlacesFrame, content_of}
use Rattle.disk_segment.proofs.FileBytes.{InRange, one_frame}
use Rattle.disk_segment.proofs.EffectLaws.{becomes, touches, effect_by}
use Rattle.disk_segment.proofs.PlacedLaws.{quiet, done, tidy_then}

content_split : (start epoch : ℕ) (frame behind : List ℕ) → content_of start epoch frame ++ behind ≡ header_bytes start epoch ++ (frame ++ (0 ∷ behind))
unfolding content_of
content_split start epoch frame behind = append_assoc (header_bytes start epoch) (frame ++ 0 ∷ []) behind ∙ ap (λ (l : List ℕ). header_bytes start epoch ++ l) (append_assoc frame (0 ∷ []) behind)

-- a content of one frame, with anything after it
pub frame_edits : (epoch : ℕ) (b : BatchView) → InRange b.first epoch → broken_rule b.first b ≡ None → (behind : List ℕ)
    → IsSegmentFile (content_of b.first epoch (frame_bytes b) ++ behind) b.first epoch b.bodies (24 + length (frame_bytes b))
frame_edits epoch b range good behind = subst (λ (l : List ℕ). IsSegmentFile l b.first epoch b.bodies (24 + length (frame_bytes b)))
    (sym (content_split b.first epoch (frame_bytes b) behind)) (one_frame epoch b behind range good)

pub open_of : (g : Segment) (held : Option Segment) → held ≡ Some g → g.is_final ≡ false → IsNotFinal held
open_of g held is open_ = subst IsNotFinal (sym is) open_

module _ (epoch : ℕ) (b : BatchView) (range : InRange b.first epoch) (v0 : View) (sound : IsSound v0) (gs : List Segment) (ready : IsReady v0 gs)
    (g : Segment) (can : CanReplaceAgain epoch b gs v0 g) where
  small : b.first ≤ 2 ^ 62
  small = range.start_within

  was_open : IsNotFinal (find_segment b.first gs)
  was_open = open_of g (find_segment b.first gs) can.known can.in_progress

  pub again_becomes : {T E : Type 0} (result : Result T E) (v1 : View) → Effect (Disturbs (name_of b.first Fresh)) (PlacesFrame epoch b) result v0 v1
      → Becomes gs (put_segment (accepted_segment epoch b) gs) result v0 v1
  again_becomes result v1 effect = becomes (Disturbs (name_of b.first Fresh)) (PlacesFrame epoch b) result v0 v1 effect gs (put_segment (accepted_segment epoch b) gs)
      (quiet b.first range.some_start small v0 sound gs ready)
      (λ d c left deed. done b.first range.some_start small v0 sound gs ready (content_of b.first epoch (frame_bytes b)) (accepted_segment epoch b)
      (24 + length (frame_bytes b)) refl refl was_open (frame_edits epoch b range deed.good) can.same_epoch d c left deed.places)
      (λ deed. tidy_then b.first range.some_start small v0 sound gs ready (content_of b.first epoch (frame_bytes b)) (accepted_segment epoch b)
      (24 + length (frame_bytes b)) refl refl was_open (frame_edits epoch b range deed.good) can.same_epoch v1.seen deed.places)

pub again_touches : (epoch : ℕ) (b : BatchView) {T E : Type 0} (result : Result T E) (v0 v1 : View) → IsSound v1
    → Effect (Disturbs (name_of b.first Fresh)) (PlacesFrame epoch b) result v0 v1 → Touches b.first (InProgress ∷ Fresh ∷ []) v0 v1
again_touches epoch b result v0 v1 sound effect = touches (Disturbs (name_of b.first Fresh)) (PlacesFrame epoch b) result v0 v1 effect b.first (InProgress ∷ Fresh ∷ []) sound
    (λ d c noise. record { others = λ name outside. noise.others name outside.1.0 })
    (λ d c deed. record { others = λ name outside. deed.places.others name outside.0 outside.1.0 })

-- a frame is placed as the batch's, where its start and its bytes are equal to the batch's
pub frame_effect : (epoch : ℕ) (b : BatchView) (start : ℕ) (frame : List ℕ) {T E : Type 0} (result : Result T E) (v0 v1 : View) → start ≡ b.first → frame ≡ frame_bytes b → broken_rule b.first b ≡ None
    → Effect (Disturbs (name_of start Fresh)) (Places (name_of start InProgress) (name_of start Fresh) (content_of start epoch frame)) result v0 v1
    → Effect (Disturbs (name_of b.first Fresh)) (PlacesFrame epoch b) result v0 v1
frame_effect epoch b start frame result v0 v1 start_is frame_is good effect =
    let named : Effect (Disturbs (name_of b.first Fresh)) (Places (name_of b.first InProgress) (name_of b.first Fresh) (content_of b.first epoch (frame_bytes b))) result v0 v1 =
    subst (λ (n : ℕ). Effect (Disturbs (name_of n Fresh)) (Places (name_of n InProgress) (name_of n Fresh) (content_of n epoch (frame_bytes b))) result v0 v1) start_is
    (subst (λ (l : List ℕ). Effect (Disturbs (name_of start Fresh)) (Places (name_of start InProgress) (name_of start Fresh) (content_of start epoch l)) result v0 v1) frame_is effect) in
    effect_by (Disturbs (name_of b.first Fresh)) (Places (name_of b.first InProgress) (name_of b.first Fresh)
    (content_of b.first epoch (frame_bytes b))) (PlacesFrame epoch b) result v0 v1 (λ d c places. record { places = places; good = good }) named
