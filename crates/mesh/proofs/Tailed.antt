-- A caller that tails another one's log: their lists agree.
use Rattle.std.proofs.Common.{◌≡◌, ℕ, zero, suc, ◌+◌, ◌<◌, ◌≤◌, [], ◌∷◌, refl, arith}
use Rattle.journal_core.specs.Segments.{find_segment, put_segment, remove_segment, newest}
use Rattle.journal_core.specs.Limits.{limit_of}
use Rattle.journal_core.specs.Effects.{after_effects}
use Rattle.journal_core.specs.Reads.{serving, last_below, least_served, edits_from}
use Rattle.journal_core.specs.Step.{node_step, effects_of}
use Rattle.journal_core.specs.Cuts.{standing}
use Rattle.writer_core.specs.declared.task.Task.TheVariants as task
use Rattle.writer_core.specs.Best.{best_from, greatest_promise, greatest_newest}
use Rattle.writer_core.specs.Rounds.{judgment, after_fetch}
use Rattle.writer_core.specs.Writer.{log_limit, writer_begun, writer_heard}
use Rattle.journal_history.specs.Cell.{cell_takes, fresh_cell, IsLocalRun}
use Rattle.journal_history.specs.Moving.{epoch_of, moves, move_of, entry_of, moving_of}
use Rattle.mesh.specs.Marks.{IsMarked, AreCopied}
use Rattle.mesh.specs.Makers.{Writes, Tails, maker_of, maker_hears, HaveBodies, IsMade, IsOfChores, IsOperators}
use Rattle.mesh.specs.Matches.{reaches, reached, lines_of, IsSame, AreSame, AreWithin, CallersWithin}
use Rattle.mesh.specs.Agree.{Agrees, history_at, record_of, plan_of}
use Rattle.mesh.specs.Owners.{wins, owns}
use Rattle.mesh.specs.Order.{placed_from, place_of, key_of, is_below, tags_of, blocks_cut, blocks_from, put_block, sorted, entries_in, epoch_order}
use Rattle.mesh.specs.Examples.{logged, tailed, tailed_order}
use Rattle.mesh.proofs.Crossed.{unmarked}

pub tailed_epochs : epoch_order tailed ≡ tailed_order
unfolding find_segment put_segment remove_segment newest limit_of after_effects serving last_below least_served edits_from node_step effects_of
    standing cell_takes epoch_of moves move_of entry_of moving_of reaches reached lines_of wins owns placed_from place_of key_of is_below tags_of
    blocks_cut blocks_from put_block sorted entries_in epoch_order tailed tailed_order
tailed_epochs = refl

local_of : (i : ℕ) → i < 1 → IsLocalRun fresh_cell (history_at tailed i)
unfolding tailed IsLocalRun find_segment put_segment remove_segment newest limit_of after_effects serving last_below least_served edits_from node_step effects_of standing cell_takes
local_of zero l = (refl, (refl, (refl, (refl, (refl, (refl, (refl, tt)))))))
local_of (suc i) l = absurd (omega (arith, l))

made_of : (c : ℕ) → c < 2 → IsOfChores 1 (record_of tailed c)
unfolding tailed HaveBodies IsMade find_segment newest limit_of best_from greatest_promise greatest_newest judgment after_fetch log_limit writer_begun writer_heard maker_of maker_hears
made_of zero l = (Writes task.Takeover ∷ Writes (task.Log logged) ∷ [], (tt, ((λ e. cc e), tt)), (refl, (refl, (refl, (refl, (refl, tt))))))
made_of (suc zero) l = (Tails 0 1 ∷ [], tt, (refl, (refl, tt)))
made_of (suc (suc c)) l = absurd (omega (arith, l))

same_of : (i c : ℕ) → i < 1 → c ≤ 2 → AreSame (reached (i + 1) (record_of tailed c)) (lines_of c (history_at tailed i))
unfolding tailed reaches reached lines_of AreSame IsSame
same_of zero zero l m = ((refl, refl), ((refl, refl), ((refl, refl), ((refl, refl), ((refl, refl), tt)))))
same_of zero (suc zero) l m = ((refl, refl), ((refl, refl), tt))
same_of zero (suc (suc zero)) l m = tt
same_of zero (suc (suc (suc c))) l m = absurd (omega (arith, m))
same_of (suc i) c l m = absurd (omega (arith, l))

marked_of : (c : ℕ) → c < 2 → IsMarked (plan_of tailed c) [] (record_of tailed c)
unfolding tailed IsMarked
marked_of zero l = (unmarked 1 _ _, (unmarked 1 _ _, (unmarked 1 _ _, (unmarked 1 _ _, (unmarked 1 _ _, tt)))))
marked_of (suc zero) l = (unmarked 1 _ _, (unmarked 1 _ _, tt))
marked_of (suc (suc c)) l = absurd (omega (arith, l))

copied_of : (c : ℕ) → c < 2 → AreCopied (plan_of tailed c) (record_of tailed c)
unfolding tailed
copied_of zero l node r = omega arith
copied_of (suc zero) l node r = omega arith
copied_of (suc (suc c)) l node r = absurd (omega (arith, l))

callers_of : (i : ℕ) → i < 1 → CallersWithin 2 (history_at tailed i)
unfolding tailed CallersWithin
callers_of zero l = (omega arith, (omega arith, (omega arith, (omega arith, (omega arith, (omega arith, (omega arith, tt)))))))
callers_of (suc i) l = absurd (omega (arith, l))

within_of : (c : ℕ) → c ≤ 2 → AreWithin 1 (record_of tailed c)
unfolding tailed AreWithin
within_of zero l = ((omega arith, omega arith), ((omega arith, omega arith), ((omega arith, omega arith), ((omega arith, omega arith), ((omega arith, omega arith), tt)))))
within_of (suc zero) l = ((omega arith, omega arith), ((omega arith, omega arith), tt))
within_of (suc (suc zero)) l = tt
within_of (suc (suc (suc c))) l = absurd (omega (arith, l))

pub tailed_agrees : Agrees tailed
unfolding tailed IsOperators
tailed_agrees = record {
  lists = record { local = local_of; operated = tt; same = same_of; marked = marked_of; copied = copied_of; callers = callers_of; within = within_of };
  made = made_of;
  histories = refl;
  records = refl;
}
