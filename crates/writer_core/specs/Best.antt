-- The rank of prepare answers, and the best one: with a segment before without one; a final one
-- before one in progress; then the greater header epoch; then the greater end; of equal ones the
-- lowest node's.
use Rattle.std.specs.Prelude.{ℕ, ◌+◌, ◌==◌, ◌&&◌, ◌||◌, not, max, Bool, true, false, List, [], ◌∷◌, Option, Some, None, nat_lt, if◌then◌else◌}
use Rattle.journal_core.specs.declared.segment_info.SegmentInfo.{SegmentInfo}
use Rattle.journal_core.specs.declared.reply.Reply.{Reply}
use Rattle.journal_core.specs.declared.reply.Reply.TheVariants as reply
use Rattle.journal_core.specs.declared.heard.Heard.TheVariants.{Answer, Silent}
use Rattle.writer_core.specs.declared.slot.Slot.{Slot}
use Rattle.writer_core.specs.declared.slot.Slot.TheVariants.{Waiting, LeftOut, Told}
use Rattle.writer_core.specs.Answers.{fits_prepare, fits_state, fits_propose}

-- the first stands above the second
abbrev pub outranks : SegmentInfo → SegmentInfo → Bool
outranks a b =
    (a.is_final && not b.is_final)
    || ((a.is_final || not b.is_final) && (nat_lt b.epoch a.epoch || ((b.epoch == a.epoch) && nat_lt b.end a.end)))

-- a segment, and the node that told it
pub record Best : Type 0 where
  pub node : ℕ
  pub info : SegmentInfo

abbrev pub better : Option Best → Option Best → Option Best
better None other = other
better (Some a) None = Some a
better (Some a) (Some b) = if outranks b.info a.info then Some b else Some a

abbrev pub told_by : ℕ → Option SegmentInfo → Option Best
told_by node None = None
told_by node (Some info) = Some (record { node = node; info = info })

-- the segment that an answer of the Ok kind tells
abbrev pub segment_told : Bool → Reply → Option SegmentInfo
segment_told true (reply.Prepared writer committed segment) = segment
segment_told true _ = None
segment_told false answer = None

abbrev pub segment_in : ℕ → Slot → Option SegmentInfo
segment_in start (Told (Answer answer)) = segment_told (fits_prepare start answer) answer
segment_in start (Told Silent) = None
segment_in start Waiting = None
segment_in start LeftOut = None

-- the best of the answers of the nodes from this one on
unfoldable pub best_from : ℕ → ℕ → List Slot → Option Best
best_from start node [] = None
best_from start node (slot ∷ slots) = better (told_by node (segment_in start slot)) (best_from start (node + 1) slots)

-- the best answer to a prepare of the segment with that start
abbrev pub best_of : ℕ → List Slot → Option Best
best_of start slots = best_from start 1 slots

-- the greatest promise told
abbrev pub promise_told : Bool → Reply → ℕ
promise_told true (reply.State promised) = promised
promise_told true _ = 0
promise_told false answer = 0

abbrev pub promise_in : Slot → ℕ
promise_in (Told (Answer answer)) = promise_told (fits_state answer) answer
promise_in (Told Silent) = 0
promise_in Waiting = 0
promise_in LeftOut = 0

unfoldable pub greatest_promise : List Slot → ℕ
greatest_promise [] = 0
greatest_promise (slot ∷ slots) = max (promise_in slot) (greatest_promise slots)

-- the greatest start told as newest
abbrev pub greater : Option ℕ → Option ℕ → Option ℕ
greater None other = other
greater (Some m) None = Some m
greater (Some m) (Some k) = Some (max m k)

abbrev pub newest_told : Bool → Reply → Option ℕ
newest_told true (reply.NewEpoch newest) = newest
newest_told true _ = None
newest_told false answer = None

abbrev pub newest_in : Slot → Option ℕ
newest_in (Told (Answer answer)) = newest_told (fits_propose answer) answer
newest_in (Told Silent) = None
newest_in Waiting = None
newest_in LeftOut = None

unfoldable pub greatest_newest : List Slot → Option ℕ
greatest_newest [] = None
greatest_newest (slot ∷ slots) = greater (newest_in slot) (greatest_newest slots)
