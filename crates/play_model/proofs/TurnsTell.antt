-- A turn tells whether a round is under way.
use Rattle.std.proofs.Common.{◌≡◌, ℕ, ◌+◌, ◌-◌, List, length, Bool, true, false, cond, refl, Option, Some, None, ◌&&◌, nat_lt}
use Rattle.std.specs.List.{list_any}
use Rattle.journal_core.specs.Views.{BatchView}
use Rattle.journal_core.specs.Limits.{max_number}
use Rattle.journal_core.specs.declared.reply.Reply.{Reply}
use Rattle.journal_core.specs.declared.reply.Reply.TheVariants as reply
use Rattle.journal_core.specs.declared.heard.Heard.{Heard}
use Rattle.journal_core.specs.declared.heard.Heard.TheVariants.{Answer, Silent}
use Rattle.writer_core.specs.declared.round.Round.{Round}
use Rattle.writer_core.specs.declared.round.Round.TheVariants as round
use Rattle.writer_core.specs.declared.phase.Phase.{Phase}
use Rattle.writer_core.specs.declared.phase.Phase.TheVariants as phase
use Rattle.writer_core.specs.declared.phase.Aim.{Aim}
use Rattle.writer_core.specs.declared.phase.Aim.TheVariants as aim
use Rattle.writer_core.specs.declared.turn.Turn.TheVariants as turn
use Rattle.writer_core.specs.Views.{WriterView}
use Rattle.writer_core.specs.Answers.{is_waiting, has_majority, fits_edits}
use Rattle.writer_core.specs.Best.{Best, best_of, greatest_promise, greatest_newest}
use Rattle.writer_core.specs.Rounds.{Judgment, keep_going, stops_with, next_serial, begin_propose, after_state, after_propose, begin_recovery}
use Rattle.writer_core.specs.Rounds.{after_finalize, after_open, after_write, after_round, with_causes, judgment_by, judgment, without_answer_of}
use Rattle.writer_core.specs.Rounds.{keep_piece, after_edits, after_no_edits, after_fetch, numbers_fit, asks_all, batch_from, left_out_after}
use Rattle.writer_core.specs.Writer.{is_under_way, with_answer, judgment_when, heard_in, heard_at, writer_heard}
use Rattle.play_model.specs.Ready.{is_going}

abbrev Tells : Judgment → Type 0
Tells j = is_under_way j.writer.phase ≡ is_going j.turn

state_tells : (told : ℕ) (w : WriterView) → Tells (after_state told w)
state_tells told w = by_told (nat_lt told max_number)
  where
    by_told : (b : Bool) → Tells (cond b (keep_going (begin_propose told w)) (stops_with (turn.EpochLimit told) w))
    by_told true = refl
    by_told false = refl

propose_tells : (o : Option ℕ) (w : WriterView) → Tells (keep_going (after_propose o w))
propose_tells None w = refl
propose_tells (Some start) w = refl

recovering_tells : (start : ℕ) (o : Option Best) (w : WriterView) → Tells (keep_going (begin_recovery start o w))
recovering_tells start None w = refl
recovering_tells start (Some best) w = refl

finalize_tells : (a : Aim) (end : ℕ) (w : WriterView) → Tells (after_finalize a end w)
finalize_tells aim.Close end w = refl
finalize_tells aim.Takeover end w = refl
finalize_tells aim.Log end w = refl
finalize_tells aim.Roll end w = refl
finalize_tells aim.Purge end w = refl

open_tells : (a : Aim) (w : WriterView) → Tells (after_open a w)
open_tells aim.Close w = refl
open_tells aim.Takeover w = refl
open_tells aim.Log w = refl
open_tells aim.Roll w = refl
open_tells aim.Purge w = refl

write_tells : (a : Aim) (first last : ℕ) (w : WriterView) → Tells (after_write a first last w)
write_tells aim.Close first last w = refl
write_tells aim.Takeover first last w = refl
write_tells aim.Log first last w = refl
write_tells aim.Roll first last w = refl
write_tells aim.Purge first last w = refl

done_tells : (r : Round) (w : WriterView) → Tells (after_round r w)
done_tells round.State w = state_tells (greatest_promise w.slots) w
done_tells round.Propose w = propose_tells (greatest_newest w.slots) (next_serial w)
done_tells (round.Prepare start) w = recovering_tells start (best_of start w.slots) (next_serial w)
done_tells (round.Fetch node start end bodies) w = recovering_tells start (best_of start w.slots) (next_serial w)
done_tells (round.Accept batch) w = refl
done_tells (round.Finalize start end) w = finalize_tells w.aim end (next_serial w)
done_tells round.Start w = refl
done_tells round.Open w = open_tells w.aim (record (next_serial w) { committed = w.start; next = w.start + 1; left = left_out_after round.Open w.slots })
done_tells (round.Write bodies) w =
    let last : ℕ = w.next + length bodies - 1 in
    write_tells w.aim w.next last (record (next_serial w) { committed = last; next = last + 1; left = left_out_after (round.Write bodies) w.slots })
done_tells (round.Purge min) w = refl

judged_tells : (b : Bool) (r : Round) (w : WriterView) → Tells (judgment_by b r w)
judged_tells true r w = done_tells r (with_causes r w)
judged_tells false r w = refl

pieced_tells : (node start end : ℕ) (bodies : List (List ℕ)) (w : WriterView) → Tells (keep_going (keep_piece node start end bodies w))
pieced_tells node start end bodies w = by_end (nat_lt end (start + length bodies))
  where
    by_end : (b : Bool) → Tells (keep_going (cond b (asks_all (round.Accept (batch_from start bodies)) w) (record w { phase = phase.InRound (round.Fetch node start end bodies) })))
    by_end true = refl
    by_end false = refl

out_tells : (node start : ℕ) (heard : Heard) (w : WriterView) → Tells (after_no_edits node start heard w)
out_tells node start heard w = judged_tells (has_majority (round.Prepare start) (without_answer_of node heard w).slots) (round.Prepare start) (without_answer_of node heard w)

edits_tells : (b : Bool) (node start end : ℕ) (bodies : List (List ℕ)) (batch : BatchView) (w : WriterView) → Tells (after_edits b node start end bodies batch w)
edits_tells true node start end bodies batch w = pieced_tells node start end _ (next_serial w)
edits_tells false node start end bodies batch w = out_tells node start Silent w

reply_tells : (node start end : ℕ) (bodies : List (List ℕ)) (answer : Reply) (w : WriterView) → Tells (after_fetch node start end bodies (Answer answer) w)
unfolding after_fetch
reply_tells node start end bodies (reply.Edits batch) w =
    edits_tells (numbers_fit w (round.Fetch node start end bodies) && fits_edits (start + length bodies) batch) node start end bodies batch w
reply_tells node start end bodies reply.Ok w = out_tells node start (Answer reply.Ok) w
reply_tells node start end bodies (reply.State p) w = out_tells node start (Answer (reply.State p)) w
reply_tells node start end bodies (reply.NewEpoch o) w = out_tells node start (Answer (reply.NewEpoch o)) w
reply_tells node start end bodies (reply.Prepared x y z) w = out_tells node start (Answer (reply.Prepared x y z)) w
reply_tells node start end bodies (reply.Segments ls) w = out_tells node start (Answer (reply.Segments ls)) w
reply_tells node start end bodies (reply.Refused f) w = out_tells node start (Answer (reply.Refused f)) w

fetched_tells : (node start end : ℕ) (bodies : List (List ℕ)) (heard : Heard) (w : WriterView) → Tells (after_fetch node start end bodies heard w)
unfolding after_fetch
fetched_tells node start end bodies (Answer answer) w = reply_tells node start end bodies answer w
fetched_tells node start end bodies Silent w = out_tells node start Silent w

when_tells : (b : Bool) (r : Round) (w : WriterView) → is_under_way w.phase ≡ true → Tells (judgment_when b r w)
unfolding judgment
when_tells true r w u = u
when_tells false r w u = judged_tells (numbers_fit w r && has_majority r w.slots) r w

answer_tells : (r : Round) (w : WriterView) (node : ℕ) (heard : Heard) → is_under_way w.phase ≡ true
    → Tells (judgment_when (list_any is_waiting (with_answer w node heard).slots) r (with_answer w node heard))
answer_tells r w node heard u = when_tells (list_any is_waiting (with_answer w node heard).slots) r (with_answer w node heard) u

heard_tells : (r : Round) (w : WriterView) (node : ℕ) (heard : Heard) → is_under_way w.phase ≡ true → Tells (heard_in r w node heard)
heard_tells (round.Fetch from start end bodies) w node heard u = fetched_tells from start end bodies heard w
heard_tells round.State w node heard u = answer_tells round.State w node heard u
heard_tells round.Propose w node heard u = answer_tells round.Propose w node heard u
heard_tells (round.Prepare start) w node heard u = answer_tells (round.Prepare start) w node heard u
heard_tells (round.Accept batch) w node heard u = answer_tells (round.Accept batch) w node heard u
heard_tells (round.Finalize start end) w node heard u = answer_tells (round.Finalize start end) w node heard u
heard_tells round.Start w node heard u = answer_tells round.Start w node heard u
heard_tells round.Open w node heard u = answer_tells round.Open w node heard u
heard_tells (round.Write bodies) w node heard u = answer_tells (round.Write bodies) w node heard u
heard_tells (round.Purge min) w node heard u = answer_tells (round.Purge min) w node heard u

at_tells : (x : Phase) (w : WriterView) (node : ℕ) (heard : Heard) → is_under_way w.phase ≡ true → is_under_way x ≡ true → Tells (heard_at x w node heard)
at_tells (phase.InRound r) w node heard u v = heard_tells r w node heard u
at_tells phase.Idle w node heard u v = absurd (cc v)
at_tells phase.Writing w node heard u v = absurd (cc v)
at_tells phase.Stopped w node heard u v = absurd (cc v)

-- after an answer a round is under way exactly where the turn says so
pub turn_tells : (w : WriterView) (node : ℕ) (heard : Heard) → is_under_way w.phase ≡ true
    → is_under_way (writer_heard w node heard).writer.phase ≡ is_going (writer_heard w node heard).turn
unfolding writer_heard
turn_tells w node heard u = at_tells w.phase w node heard u u
