-- Worked examples of the best answer, computed by the check.
use Rattle.std.specs.Prelude.{ℕ, ◌≡◌, List, [], ◌∷◌, Option, Some, None, option_map, true, false}
use Rattle.std.specs.declared.cmp.Ordering.TheVariants.{Less, Equal, Greater}
use Rattle.journal_core.specs.declared.segment_info.SegmentInfo.{SegmentInfo}
use Rattle.journal_core.specs.declared.reply.Reply.TheVariants.{Prepared}
use Rattle.journal_core.specs.declared.heard.Heard.TheVariants.{Answer, Silent}
use Rattle.writer_core.specs.declared.slot.Slot.{Slot}
use Rattle.writer_core.specs.declared.slot.Slot.TheVariants.{Told}
use Rattle.writer_core.specs.Best.{best_of}
use Rattle.writer_core.specs.Rank.{rank_of}

-- segments that start at 101
abbrev pub in_progress : ℕ → ℕ → SegmentInfo
in_progress epoch end = record { start = 101; end = end; epoch = epoch; is_final = false; accepted = false }

abbrev pub final : ℕ → ℕ → SegmentInfo
final epoch end = record { start = 101; end = end; epoch = epoch; is_final = true; accepted = false }

abbrev pub tells : Option SegmentInfo → Slot
tells o = Told (Answer (Prepared 1 0 o))

-- the node of the best answer to a prepare of 101
abbrev pub best_node : List Slot → Option ℕ
best_node slots = option_map (λ b. b.node) (best_of 101 slots)

-- A final segment stands above a later epoch, and a later epoch above a longer segment. Of one
-- epoch the longer one is better, and of equal ones the lowest node's. An answer without the
-- segment, with another one or with none heard doesn't count.
abbrev pub BestAnswers : Type 0
BestAnswers =
    (best_node (tells (Some (in_progress 3 106)) ∷ tells (Some (in_progress 5 102)) ∷ tells (Some (final 3 101)) ∷ []) ≡ Some 3)
    × (best_node (tells (Some (in_progress 3 106)) ∷ tells (Some (in_progress 5 102)) ∷ Told Silent ∷ []) ≡ Some 2)
    × (best_node (tells (Some (in_progress 5 102)) ∷ tells None ∷ tells (Some (in_progress 5 103)) ∷ []) ≡ Some 3)
    × (best_node (tells None ∷ tells (Some (in_progress 5 102)) ∷ tells (Some (in_progress 5 102)) ∷ []) ≡ Some 2)
    × (best_node (tells (Some (record (final 9 200) { start = 100 })) ∷ tells (Some (in_progress 1 101)) ∷ []) ≡ Some 2)
    × (best_node (tells None ∷ tells None ∷ Told Silent ∷ []) ≡ None)
    × (rank_of (Some (final 3 101)) (Some (in_progress 5 102)) ≡ Greater)
    × (rank_of (Some (in_progress 3 106)) (Some (in_progress 5 102)) ≡ Less)
    × (rank_of None None ≡ Equal)
