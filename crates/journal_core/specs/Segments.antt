-- Segments and lists of them by rising start.
use Rattle.std.specs.Prelude.{ℕ, ◌+◌, ◌-◌, ◌==◌, ◌≡◌, ◌≤◌, Bool, true, false, max, nat_lt, List, [], ◌∷◌, length, Option, Some, None, slice_get, if◌then◌else◌}
use Rattle.std.specs.List.{AllByRecursion}
use Rattle.base_words.specs.Starts.{Above, Rises}
use Rattle.journal_core.specs.declared.segment.Segment.{Segment}
use Rattle.journal_core.specs.declared.segment_info.SegmentInfo.{SegmentInfo}

abbrev pub any_body : List (List ℕ) → Bool
any_body [] = false
any_body (body ∷ bodies) = true

-- it holds an edit
abbrev pub has_edit : Segment → Bool
has_edit g = any_body g.bodies

-- the txid of the last edit; one below the start where there is none
abbrev pub end_of : Segment → ℕ
end_of g = g.start + length g.bodies - 1

-- its state, without the edits
abbrev pub info_of : Segment → SegmentInfo
info_of g = record { start = g.start; end = end_of g; epoch = g.epoch; is_final = g.is_final; accepted = g.accepted }

-- the segment has this body at this txid
abbrev pub HasAt : Segment → ℕ → List ℕ → Type 0
HasAt g txid body = (k : ℕ) × (txid ≡ g.start + k) × (slice_get g.bodies k ≡ Some body)

-- the segment with that start
unfoldable pub find_segment : ℕ → List Segment → Option Segment
find_segment start [] = None
find_segment start (g ∷ gs) = if g.start == start then Some g else find_segment start gs

-- none stands there, or one in progress
abbrev pub IsNotFinal : Option Segment → Type 0
IsNotFinal None = Unit {0}
IsNotFinal (Some g) = g.is_final ≡ false

-- with this segment, in place of the one with its start
unfoldable pub put_segment : Segment → List Segment → List Segment
put_segment new [] = new ∷ []
put_segment new (g ∷ gs) =
    if g.start == new.start then new ∷ gs
    else if nat_lt new.start g.start then new ∷ g ∷ gs
    else g ∷ put_segment new gs

-- without the segment with that start
unfoldable pub remove_segment : ℕ → List Segment → List Segment
remove_segment start [] = []
remove_segment start (g ∷ gs) = if g.start == start then remove_segment start gs else g ∷ remove_segment start gs

-- the greater one, where there is another
abbrev pub max_or : ℕ → Option ℕ → ℕ
max_or m None = m
max_or m (Some k) = max m k

-- the greatest start of a segment that holds an edit
unfoldable pub newest : List Segment → Option ℕ
newest [] = None
newest (g ∷ gs) = if has_edit g then Some (max_or g.start (newest gs)) else newest gs

-- all starts are above that
abbrev pub AreAbove : ℕ → List Segment → Type 0
AreAbove = Above (λ (g : Segment). g.start)

abbrev pub AreRising : List Segment → Type 0
AreRising = Rises (λ (g : Segment). g.start)

-- its txids are at most 2 ^ 62
abbrev pub IsWithin : Segment → Type 0
IsWithin g = g.start + length g.bodies ≤ 4611686018427387905

abbrev pub AreWithin : List Segment → Type 0
AreWithin = AllByRecursion IsWithin

-- what holds of every node's list
pub record AreSound (gs : List Segment) : Type 0 where
  pub rising : AreRising gs
  pub within : AreWithin gs
