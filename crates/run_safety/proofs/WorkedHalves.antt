-- Worked halves: who took epoch 2, what it accepted, and a purge from segment 4.
use Rattle.std.proofs.Common.{◌≡◌, ℕ, zero, suc, ◌<◌, ◌≤◌, true, false, List, [], ◌∷◌, reverse, drop, Some, None, refl, inl, inr, arith}
use Rattle.journal_core.specs.Effects.{after_effects}
use Rattle.journal_core.specs.Limits.{limit_of}
use Rattle.journal_core.specs.Segments.{find_segment, put_segment, remove_segment, newest}
use Rattle.journal_core.specs.Step.{node_step, effects_of}
use Rattle.journal_core.specs.declared.reply.Reply.TheVariants as reply
use Rattle.journal_core.specs.declared.request.Request.TheVariants.{NewEpoch, Accept}
use Rattle.journal_core.specs.declared.segment.Segment.{Segment}
use Rattle.writer_core.specs.Best.{best_from, greatest_newest}
use Rattle.writer_core.specs.Rounds.{judgment, after_fetch}
use Rattle.writer_core.specs.Writer.{log_limit, writer_begun}
use Rattle.writer_core.specs.Whole.{fill_slots, next_task, writer_at}
use Rattle.run_safety.specs.Majority.{Member, IsMajority}
use Rattle.journal_history.specs.Entries.{Heard, Entry, Earlier, now, before, node_after}
use Rattle.run_safety.specs.Parts.{IsFrom, TookEpoch}
use Rattle.run_safety.specs.Run.{IsRun}
use Rattle.run_safety.specs.Safe.{IsHeld}
use Rattle.run_safety.specs.Tables.{story_of}
use Rattle.run_safety.specs.Examples.{recovered_edit, recovered_log, recovered, tables, head, heard_at, begin, purged, purging_tables}
use Rattle.run_safety.proofs.Checker.{passes, follows}
use Rattle.run_safety.proofs.Halves.{one_proposal, accepted_value}
use Rattle.run_safety.proofs.Worked.{is_run}

-- what is left after the first entries stands earlier
dropped : (k : ℕ) (xs : List Entry) → Earlier (drop k xs) xs
dropped zero xs = now
dropped (suc k) [] = now
dropped (suc k) (x ∷ xs) = before (dropped k xs)

-- ## Who took epoch 2
pub took_two : TookEpoch (story_of tables) (reverse recovered_edit) 1 2 (1 ∷ 2 ∷ [])
took_two i (inl e) = (drop 22 (reverse recovered_edit), heard_at 1 (NewEpoch 2) (reply.NewEpoch (Some 1)) 1, dropped 21 (reverse recovered_edit), e, refl, (1, Heard, Some 1, refl))
took_two i (inr (inl e)) = (drop 21 (reverse recovered_edit), heard_at 1 (NewEpoch 2) (reply.NewEpoch (Some 1)) 2, dropped 20 (reverse recovered_edit), e, refl, (1, Heard, Some 1, refl))
took_two i (inr (inr none)) = absurd none

two_nodes : IsMajority 3 (1 ∷ 2 ∷ [])
two_nodes = record { distinct = (λ m. elim m [ inl e ↦ omega arith | inr none ↦ none ], (λ m. m, tt)); within = within; more = omega arith }
  where
    within : (i : ℕ) → Member i (1 ∷ 2 ∷ []) → (1 ≤ i) × (i ≤ 3)
    within i (inl e) = (omega arith, omega arith)
    within i (inr (inl e)) = (omega arith, omega arith)
    within i (inr (inr none)) = absurd none

pub one_takeover : (takeover : ℕ) (nodes : List ℕ) → IsMajority 3 nodes → TookEpoch (story_of tables) (reverse recovered_edit) takeover 2 nodes → takeover ≡ 1
unfolding is_run
one_takeover takeover nodes majority took = one_proposal 3 is_run.0 (reverse recovered_edit) is_run.1 takeover 1 2 nodes (1 ∷ 2 ∷ []) majority two_nodes took took_two

-- ## What it accepted
pub one_value : (node : ℕ) (g : Segment) → IsHeld (reverse recovered_edit) node g → g.start ≡ 1 → g.epoch ≡ 2 → g.bodies ≡ recovered_log
one_value node g held start epoch = accepted_value 3 is_run.0 (reverse recovered_edit) is_run.1 (drop 15 (reverse recovered_edit))
    (heard_at 1 (Accept (head 2 3 0) recovered) reply.Ok 1) (head 2 3 0) recovered node g
    (dropped 14 (reverse recovered_edit)) (inl (1, Heard, reply.Ok, refl)) held start epoch

-- ## A purge
purge_passes : passes 1 purging_tables (reverse purged) ≡ true
unfolding find_segment put_segment remove_segment newest limit_of after_effects node_step effects_of best_from greatest_newest judgment after_fetch
    log_limit writer_begun fill_slots next_task writer_at node_after
purge_passes = refl

pub purge_is_run : IsRun 1 purged
purge_is_run = (story_of purging_tables, follows 1 purging_tables (reverse purged) purge_passes)

pub purge_is_from : IsFrom 1 (story_of purging_tables) (drop 1 (reverse purged)) 4
unfolding best_from greatest_newest judgment after_fetch log_limit writer_begun fill_slots next_task writer_at limit_of
purge_is_from = (_, refl, refl)

pub first_gone : find_segment 1 (node_after 1 (reverse purged)).segments ≡ None
unfolding find_segment put_segment remove_segment newest limit_of after_effects node_step effects_of node_after
first_gone = refl

pub second_kept : find_segment 4 (node_after 1 (reverse purged)).segments ≡ Some (record { start = 4; epoch = 1; bodies = begin ∷ []; is_final = false; accepted = false })
unfolding find_segment put_segment remove_segment newest limit_of after_effects node_step effects_of node_after
second_kept = refl
