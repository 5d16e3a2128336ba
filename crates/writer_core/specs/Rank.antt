-- How prepared answers rank, and the best of a list of them.
use Rattle.std.specs.Prelude.{ℕ, ◌≡◌, ◌<◌, ◌+◌, List, [], ◌∷◌, Bool, true, false, Option, Some, None, option_map, option_and_then, slice_get, if◌then◌else◌}
use Rattle.std.specs.declared.cmp.Ordering.{Ordering}
use Rattle.std.specs.declared.cmp.Ordering.TheVariants.{Less, Equal, Greater}
use Rattle.journal_core.specs.declared.segment_info.SegmentInfo.{SegmentInfo}
use Rattle.journal_core.specs.declared.reply.Reply.{Reply}
use Rattle.journal_core.specs.declared.reply.Reply.TheVariants as reply
use Rattle.writer_core.specs.Best.{Best, outranks, better, told_by}

-- the segment of a prepared answer; other answers tell none
abbrev pub segment_of : Reply → Option SegmentInfo
segment_of (reply.Prepared writer committed segment) = segment
segment_of _ = None

-- the first stands above the second: a segment above none, and of two the one that outranks
abbrev pub is_above : Option SegmentInfo → Option SegmentInfo → Bool
is_above None other = false
is_above (Some a) None = true
is_above (Some a) (Some b) = outranks a b

abbrev pub rank_of : Option SegmentInfo → Option SegmentInfo → Ordering
rank_of a b = if is_above a b then Greater else if is_above b a then Less else Equal

-- the best of the answers from this place on
unfoldable pub best_among : ℕ → List Reply → Option Best
best_among place [] = None
best_among place (answer ∷ answers) = better (told_by place (segment_of answer)) (best_among (place + 1) answers)

abbrev pub best_place : List Reply → Option ℕ
best_place answers = option_map (λ b. b.node) (best_among 0 answers)

-- the segment told at that place of the list
abbrev pub segment_at : List Reply → ℕ → Option SegmentInfo
segment_at answers place = option_and_then segment_of (slice_get answers place)

-- no answer has a segment
abbrev pub NoneTold : List Reply → Type 0
NoneTold answers = (k : ℕ) → segment_at answers k ≡ None

-- an answer with a segment; none stands above it, and it stands above each before it
pub record IsFirstBest (answers : List Reply) (place : ℕ) : Type 0 where
  pub info : SegmentInfo
  pub told : segment_at answers place ≡ Some info
  pub highest : (k : ℕ) → is_above (segment_at answers k) (Some info) ≡ false
  pub lowest : (k : ℕ) → k < place → is_above (Some info) (segment_at answers k) ≡ true
