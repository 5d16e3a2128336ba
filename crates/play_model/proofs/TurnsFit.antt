-- The txids of a log that is done are in range, a takeover that is done tells the writer's epoch
-- and segment, and a log that begins is one batch at most.
use Rattle.std.proofs.Common.{◌≡◌, ℕ, ◌+◌, ◌-◌, ◌≤◌, List, ◌∷◌, length, Bool, true, false, cond, refl, Option, Some, None, arith, ◌&&◌, nat_lt}
use Rattle.std.specs.List.{list_any, list_all}
use Rattle.std.proofs.lemmas.Bool.Decides.{nat_tests}
use Rattle.journal_core.specs.Views.{BatchView, last_txid}
use Rattle.journal_core.specs.Limits.{max_number, max_batch, head_numbers}
use Rattle.journal_core.specs.declared.reply.Reply.{Reply}
use Rattle.journal_core.specs.declared.reply.Reply.TheVariants as reply
use Rattle.journal_core.specs.declared.heard.Heard.{Heard}
use Rattle.journal_core.specs.declared.heard.Heard.TheVariants.{Answer, Silent}
use Rattle.writer_core.specs.declared.round.Round.{Round}
use Rattle.writer_core.specs.declared.round.Round.TheVariants as round
use Rattle.writer_core.specs.declared.phase.Phase.{Phase}
use Rattle.writer_core.specs.declared.phase.Phase.TheVariants as phase
use Rattle.writer_core.specs.declared.phase.Aim.{Aim}
use Rattle.writer_core.specs.declared.phase.Aim.TheVariants as aim
use Rattle.writer_core.specs.declared.task.Task.{Task}
use Rattle.writer_core.specs.declared.task.Task.TheVariants as task
use Rattle.writer_core.specs.declared.task.Begun.TheVariants as begun
use Rattle.writer_core.specs.declared.turn.Turn.TheVariants as turn
use Rattle.writer_core.specs.Views.{WriterView}
use Rattle.writer_core.specs.Answers.{is_waiting, has_majority, fits_edits, fits}
use Rattle.writer_core.specs.Best.{greatest_promise}
use Rattle.writer_core.specs.Rounds.{Judgment, keep_going, stops_with, next_serial, begin_propose, after_state, after_finalize, after_open}
use Rattle.writer_core.specs.Rounds.{after_write, after_round, with_causes, judgment_by, judgment, without_answer_of, after_edits, after_no_edits}
use Rattle.writer_core.specs.Rounds.{after_fetch, numbers_fit, left_out_after, head_now, batch_from}
use Rattle.writer_core.specs.Writer.{with_answer, judgment_when, heard_in, heard_at, writer_heard, writer_begun, log_begins, log_limit, is_writing, if_writing}
use Rattle.play_names.specs.ResultLists.{TurnFits, IsFew}
use Rattle.play_model.specs.Went.{TellsTaken}
use Rattle.writer_core.proofs.Judging.{numbers_anyhow}

abbrev Fits : Judgment → Type 0
Fits j = TurnFits j.turn × TellsTaken j.turn j.writer

state_fits : (told : ℕ) (w : WriterView) → Fits (after_state told w)
state_fits told w = by_told (nat_lt told max_number)
  where
    by_told : (b : Bool) → Fits (cond b (keep_going (begin_propose told w)) (stops_with (turn.EpochLimit told) w))
    by_told true = (tt, tt)
    by_told false = (tt, tt)

finalize_fits : (a : Aim) (end : ℕ) (w : WriterView) → Fits (after_finalize a end w)
finalize_fits aim.Close end w = (tt, tt)
finalize_fits aim.Takeover end w = (tt, tt)
finalize_fits aim.Log end w = (tt, tt)
finalize_fits aim.Roll end w = (tt, tt)
finalize_fits aim.Purge end w = (tt, tt)

open_fits : (a : Aim) (w : WriterView) → Fits (after_open a w)
open_fits aim.Close w = (tt, (refl, refl))
open_fits aim.Takeover w = (tt, (refl, refl))
open_fits aim.Log w = (tt, (refl, refl))
open_fits aim.Roll w = (tt, tt)
open_fits aim.Purge w = (tt, (refl, refl))

write_fits : (a : Aim) (first last : ℕ) (w : WriterView) → first ≤ max_number → Fits (after_write a first last w)
write_fits aim.Close first last w h = (tt, tt)
write_fits aim.Takeover first last w h = (h, tt)
write_fits aim.Log first last w h = (h, tt)
write_fits aim.Roll first last w h = (tt, tt)
write_fits aim.Purge first last w h = (h, tt)

-- the first txid is one of the request's numbers
second_fits : (a b : ℕ) (ns : List ℕ) → list_all fits (a ∷ b ∷ ns) ≡ true → b ≤ max_number
second_fits a b ns h = grind (arith, nat_tests)

done_fits : (r : Round) (w : WriterView) → numbers_fit w r ≡ true → Fits (after_round r w)
done_fits round.State w n = state_fits (greatest_promise w.slots) w
done_fits round.Propose w n = (tt, tt)
done_fits (round.Prepare start) w n = (tt, tt)
done_fits (round.Fetch node start end bodies) w n = (tt, tt)
done_fits (round.Accept batch) w n = (tt, tt)
done_fits (round.Finalize start end) w n = finalize_fits w.aim end (next_serial w)
done_fits round.Start w n = (tt, tt)
done_fits round.Open w n = open_fits w.aim (record (next_serial w) { committed = w.start; next = w.start + 1; left = left_out_after round.Open w.slots })
done_fits (round.Write bodies) w n =
    let last : ℕ = w.next + length bodies - 1 in
    write_fits w.aim w.next last (record (next_serial w) { committed = last; next = last + 1; left = left_out_after (round.Write bodies) w.slots })
    (second_fits w.start w.next (last_txid (batch_from w.next bodies) ∷ head_numbers (head_now w)) n)
done_fits (round.Purge min) w n = (tt, tt)

-- a prepare that is judged again needs no numbers
prepare_fits : (b : Bool) (start : ℕ) (w : WriterView) → Fits (judgment_by b (round.Prepare start) w)
prepare_fits true start w = (tt, tt)
prepare_fits false start w = (tt, tt)

edits_fits : (b : Bool) (node start end : ℕ) (bodies : List (List ℕ)) (batch : BatchView) (w : WriterView) → Fits (after_edits b node start end bodies batch w)
edits_fits true node start end bodies batch w = (tt, tt)
edits_fits false node start end bodies batch w = prepare_fits (has_majority (round.Prepare start) (without_answer_of node Silent w).slots) start (without_answer_of node Silent w)

out_fits : (node start : ℕ) (heard : Heard) (w : WriterView) → Fits (after_no_edits node start heard w)
out_fits node start heard w = prepare_fits (has_majority (round.Prepare start) (without_answer_of node heard w).slots) start (without_answer_of node heard w)

reply_fits : (node start end : ℕ) (bodies : List (List ℕ)) (answer : Reply) (w : WriterView) → Fits (after_fetch node start end bodies (Answer answer) w)
unfolding after_fetch
reply_fits node start end bodies (reply.Edits batch) w =
    edits_fits (numbers_fit w (round.Fetch node start end bodies) && fits_edits (start + length bodies) batch) node start end bodies batch w
reply_fits node start end bodies reply.Ok w = out_fits node start (Answer reply.Ok) w
reply_fits node start end bodies (reply.State p) w = out_fits node start (Answer (reply.State p)) w
reply_fits node start end bodies (reply.NewEpoch o) w = out_fits node start (Answer (reply.NewEpoch o)) w
reply_fits node start end bodies (reply.Prepared x y z) w = out_fits node start (Answer (reply.Prepared x y z)) w
reply_fits node start end bodies (reply.Segments ls) w = out_fits node start (Answer (reply.Segments ls)) w
reply_fits node start end bodies (reply.Refused f) w = out_fits node start (Answer (reply.Refused f)) w

fetched_fits : (node start end : ℕ) (bodies : List (List ℕ)) (heard : Heard) (w : WriterView) → Fits (after_fetch node start end bodies heard w)
unfolding after_fetch
fetched_fits node start end bodies (Answer answer) w = reply_fits node start end bodies answer w
fetched_fits node start end bodies Silent w = out_fits node start Silent w

judged_fits : (a b : Bool) (r : Round) (w : WriterView) → numbers_fit (with_causes r w) r ≡ a → Fits (judgment_by (a && b) r w)
judged_fits true true r w e = done_fits r (with_causes r w) e
judged_fits true false r w e = (tt, tt)
judged_fits false b r w e = (tt, tt)

when_fits : (b : Bool) (r : Round) (w : WriterView) → Fits (judgment_when b r w)
unfolding judgment
when_fits true r w = (tt, tt)
when_fits false r w = judged_fits (numbers_fit w r) (has_majority r w.slots) r w (numbers_anyhow r w)

answer_fits : (r : Round) (w : WriterView) (node : ℕ) (heard : Heard) → Fits (judgment_when (list_any is_waiting (with_answer w node heard).slots) r (with_answer w node heard))
answer_fits r w node heard = when_fits (list_any is_waiting (with_answer w node heard).slots) r (with_answer w node heard)

in_fits : (r : Round) (w : WriterView) (node : ℕ) (heard : Heard) → Fits (heard_in r w node heard)
in_fits (round.Fetch from start end bodies) w node heard = fetched_fits from start end bodies heard w
in_fits round.State w node heard = answer_fits round.State w node heard
in_fits round.Propose w node heard = answer_fits round.Propose w node heard
in_fits (round.Prepare start) w node heard = answer_fits (round.Prepare start) w node heard
in_fits (round.Accept batch) w node heard = answer_fits (round.Accept batch) w node heard
in_fits (round.Finalize start end) w node heard = answer_fits (round.Finalize start end) w node heard
in_fits round.Start w node heard = answer_fits round.Start w node heard
in_fits round.Open w node heard = answer_fits round.Open w node heard
in_fits (round.Write bodies) w node heard = answer_fits (round.Write bodies) w node heard
in_fits (round.Purge min) w node heard = answer_fits (round.Purge min) w node heard

at_fits : (x : Phase) (w : WriterView) (node : ℕ) (heard : Heard) → Fits (heard_at x w node heard)
at_fits (phase.InRound r) w node heard = in_fits r w node heard
at_fits phase.Idle w node heard = (tt, tt)
at_fits phase.Writing w node heard = (tt, tt)
at_fits phase.Stopped w node heard = (tt, tt)

heard_both : (w : WriterView) (node : ℕ) (heard : Heard) → Fits (writer_heard w node heard)
unfolding writer_heard
heard_both w node heard = at_fits w.phase w node heard

pub heard_fits : (w : WriterView) (node : ℕ) (heard : Heard) → TurnFits (writer_heard w node heard).turn
heard_fits w node heard = (heard_both w node heard).0

pub heard_taken : (w : WriterView) (node : ℕ) (heard : Heard) → TellsTaken (writer_heard w node heard).turn (writer_heard w node heard).writer
heard_taken w node heard = (heard_both w node heard).1

-- ## A log that begins
limit_few : (w : WriterView) (bodies : List (List ℕ)) → log_limit w bodies ≡ None → length bodies ≤ max_batch
unfolding log_limit
limit_few w bodies e = grind (arith, nat_tests)

log_few : (b : Bool) (o : Option ℕ) (bodies : List (List ℕ)) (w : WriterView) → log_limit w bodies ≡ o → (if_writing b (log_begins o bodies w) w).begun ≡ begun.Going → length bodies ≤ max_batch
log_few true None bodies w o e = limit_few w bodies o
log_few true (Some number) bodies w o e = absurd (no e)
  where
    no : begun.TooLong number ≡ begun.Going → ⊥
    no e = cc
log_few false o bodies w h e = absurd (no e)
  where
    no : begun.NotActive ≡ begun.Going → ⊥
    no e = cc

pub begun_few : (w : WriterView) (t : Task) → (writer_begun w t).begun ≡ begun.Going → IsFew t
unfolding writer_begun
begun_few w task.Takeover e = tt
begun_few w (task.Log bodies) e = log_few (is_writing w.phase) (log_limit w bodies) bodies w refl e
begun_few w task.Roll e = tt
begun_few w task.Close e = tt
begun_few w (task.Purge min) e = tt
