-- A content that is put in the place of a file in progress, as an effect on the segments.
use Rattle.std.proofs.Common.{◌≡◌, ℕ, List, [], ◌∷◌, ◌++◌, ◌∙◌, arith, ◌^◌, ◌≤◌, ◌<◌, false, length, length-append}
use Rattle.std.specs.Prelude.{Result, Ok, Err, OnOk}
use Rattle.base_disk.specs.Files.{Files}
use Rattle.base_disk.specs.View.{View, IsSound, AllLeave, IsStable}
use Rattle.base_disk.specs.Calls.{Effect, Happens}
use Rattle.base_files.specs.Puts.{Disturbs}
use Rattle.journal_core.specs.declared.segment.Segment.{Segment}
use Rattle.journal_core.specs.Segments.{find_segment, put_segment, IsNotFinal}
use Rattle.journal_core.specs.Effects.{empty_segment}
use Rattle.disk_frame.specs.Segments.{IsSegmentFile}
use Rattle.disk_segment.specs.Names.{InProgress, Final, Record, UnderWay, Fresh, name_of}
use Rattle.disk_segment.specs.Stands.{StandsFor, IsAccepted}
use Rattle.disk_segment.specs.Places.{Places}
use Rattle.disk_segment.specs.Effects.{IsTidy, IsReady, Touches, Becomes, AppendsAt}
use Rattle.disk_segment.specs.Calls.{content_of}
use Rattle.disk_segment.proofs.Frame.{kinds_apart}
use Rattle.disk_segment.proofs.FileBytes.{InRange, empty_file}
use Rattle.disk_segment.proofs.Single.{tidy_left, Before, temporary_stands, placed_stands, no_final_here}
use Rattle.disk_segment.proofs.EffectLaws.{becomes, touches, tidy_by, none_both}

module _ (start : ℕ) (first : 1 ≤ start) (small : start ≤ 2 ^ 62) (v0 : View) (sound : IsSound v0) (gs : List Segment) (ready : IsReady v0 gs) where
  pub before_all : (d : Files) → v0.may_leave d → Before start d gs
  before_all d left = record { first = first; small = small; tidy = tidy_left v0 d sound ready.tidy left; stands = ready.stands d left }

  -- only the temporary file changes
  pub quiet : (d c : Files) → v0.may_leave d → Disturbs (name_of start Fresh) d c → StandsFor c gs
  quiet d c left noise = temporary_stands start Fresh d c gs small tt (λ is. is) noise.others (ready.stands d left)

  module _ (bytes : List ℕ) (g : Segment) (whole : ℕ) (start_is : g.start ≡ start) (open_ : g.is_final ≡ false) (was_open : IsNotFinal (find_segment start gs))
      (edits : (behind : List ℕ) → IsSegmentFile (bytes ++ behind) start g.epoch g.bodies whole) (accepted : AllLeave v0 (λ c. IsAccepted (c (name_of start Record)) g.epoch g.accepted)) where
    abbrev Deed : Files → Files → Type 0
    Deed = Places (name_of start InProgress) (name_of start Fresh) bytes

    pub done : (d c : Files) → v0.may_leave d → Places (name_of start InProgress) (name_of start Fresh) bytes d c → StandsFor c (put_segment g gs)
    done d c left places = placed_stands start d gs (before_all d left) c bytes places g whole start_is open_ was_open edits (accepted d left)

    pub tidy_then : (c : Files) → Places (name_of start InProgress) (name_of start Fresh) bytes v0.seen c → IsTidy c
    tidy_then c places = tidy_by start v0.seen c small ready.tidy InProgress Fresh places.others
        (λ epoch ok. places.others (name_of start (UnderWay epoch)) (kinds_apart start InProgress (UnderWay epoch) tt ok (λ is. absurd (cc)))
        (kinds_apart start Fresh (UnderWay epoch) tt ok (λ is. absurd (cc))) ∙ ready.tidy.none_under_way start epoch first small ok)
        (λ last ok there. none_both start last c (c (name_of start InProgress))
        (places.others (name_of start (Final last)) (kinds_apart start InProgress (Final last) tt ok (λ is. absurd (cc))) (kinds_apart start Fresh (Final last) tt ok (λ is. absurd (cc)))
        ∙ (no_final_here start v0.seen gs (before_all v0.seen sound.seen_now) was_open).none last ok) there)

    pub placed_becomes : {T E : Type 0} (result : Result T E) (v1 : View)
        → Effect (Disturbs (name_of start Fresh)) (Places (name_of start InProgress) (name_of start Fresh) bytes) result v0 v1
        → Becomes gs (put_segment g gs) result v0 v1
    placed_becomes result v1 effect = becomes (Disturbs (name_of start Fresh)) (Places (name_of start InProgress) (name_of start Fresh) bytes) result
        v0 v1 effect gs (put_segment g gs) quiet done (tidy_then v1.seen)

pub placed_touches : (start : ℕ) (bytes : List ℕ) {T E : Type 0} (result : Result T E) (v0 v1 : View) → IsSound v1
    → Effect (Disturbs (name_of start Fresh)) (Places (name_of start InProgress) (name_of start Fresh) bytes) result v0 v1
    → Touches start (InProgress ∷ Fresh ∷ []) v0 v1
placed_touches start bytes result v0 v1 sound effect = touches (Disturbs (name_of start Fresh))
    (Places (name_of start InProgress) (name_of start Fresh) bytes) result v0 v1 effect start (InProgress ∷ Fresh ∷ []) sound
    (λ d c noise. record { others = λ name outside. noise.others name outside.1.0 })
    (λ d c places. record { others = λ name outside. places.others name outside.0 outside.1.0 })

pub empty_edits : (start epoch : ℕ) → InRange start epoch → (behind : List ℕ) → IsSegmentFile (content_of start epoch [] ++ behind) start epoch [] 24
unfolding content_of
empty_edits start epoch range behind = empty_file start epoch behind range

long_content : (start epoch : ℕ) (behind : List ℕ) → 24 < length (content_of start epoch [] ++ behind)
unfolding content_of
long_content start epoch behind = omega (arith, length-append (content_of start epoch []) behind)

pub placed_appends : (start epoch : ℕ) → InRange start epoch → {T E : Type 0} (result : Result T E) (v0 v1 : View)
    → Effect (Disturbs (name_of start Fresh)) (Places (name_of start InProgress) (name_of start Fresh) (content_of start epoch [])) result v0 v1
    → OnOk result (IsStable (name_of start InProgress) v1) → OnOk result (AppendsAt v1 (empty_segment start epoch) 24)
placed_appends start epoch range result v0 v1 effect stable = both result effect.done stable
  where
    both : {T E : Type 0} (r : Result T E) → OnOk r (Happens (Places (name_of start InProgress) (name_of start Fresh) (content_of start epoch [])) v0
        v1) → OnOk r (IsStable (name_of start InProgress) v1) → OnOk r (AppendsAt v1 (empty_segment start epoch) 24)
    both (Ok x) h stays = record { bytes = _; there = h.seen.here; edits = empty_edits start epoch range h.seen.behind; more = long_content start epoch h.seen.behind; stable = stays }
    both (Err e) h stays = tt
