-- How a writer stands at the end of a task.
use Rattle.std.proofs.Common.{◌≡◌, ◌⊎◌, inl, inr, ℕ, ◌+◌, ◌-◌, ◌≤◌, ◌&&◌, nat_lt, List, [], ◌∷◌, Bool, true, false, Option, Some, None, if◌then◌else◌, refl, sym, ap, ◌∙◌, subst, arith, length}
use Rattle.std.specs.List.{list_any}
use Rattle.std.proofs.lemmas.Bool.Decides.{nat_tests}
use Rattle.journal_core.specs.Limits.{max_number}
use Rattle.journal_core.specs.Views.{BatchView}
use Rattle.journal_core.specs.declared.request.Request.{Request}
use Rattle.journal_core.specs.declared.reply.Reply.TheVariants as reply
use Rattle.journal_core.specs.declared.heard.Heard.{Heard}
use Rattle.journal_core.specs.declared.heard.Heard.TheVariants.{Answer, Silent}
use Rattle.journal_core.specs.declared.peer_call.PeerCall.{PeerCall}
use Rattle.writer_core.specs.declared.round.Round.{Round}
use Rattle.writer_core.specs.declared.round.Round.TheVariants as round
use Rattle.writer_core.specs.declared.phase.Phase.{Phase}
use Rattle.writer_core.specs.declared.phase.Phase.TheVariants as phase
use Rattle.writer_core.specs.declared.phase.Aim.{Aim}
use Rattle.writer_core.specs.declared.phase.Aim.TheVariants as aim
use Rattle.writer_core.specs.declared.turn.Turn.{Turn}
use Rattle.writer_core.specs.declared.turn.Turn.TheVariants as turn
use Rattle.writer_core.specs.declared.turn.Outcome.{Outcome}
use Rattle.writer_core.specs.declared.turn.Outcome.TheVariants as outcome
use Rattle.writer_core.specs.Views.{WriterView}
use Rattle.writer_core.specs.Answers.{fits, is_waiting, has_majority, fits_edits}
use Rattle.writer_core.specs.Best.{greatest_promise}
use Rattle.writer_core.specs.Rounds.{numbers_fit, Judgment, keep_going, stops_with, begin_propose, after_round, with_causes, judgment_by, judgment}
use Rattle.writer_core.specs.Rounds.{without_answer_of, after_fetch, after_finalize, after_open, after_write, after_edits, after_no_edits}
use Rattle.writer_core.specs.Rounds.{next_serial, asks_all, asks_others, end_record}
use Rattle.writer_core.specs.declared.task.Task.TheVariants as task
use Rattle.writer_core.specs.declared.task.Begun.TheVariants as begun
use Rattle.writer_core.specs.Writer.{begins, writer_begun, if_writing, is_writing, log_begins, log_limit, next_call, with_answer, judgment_when, heard_in, heard_at, writer_heard}
use Rattle.writer_calls.specs.Led.{IsLed, judgment_along, Leads}
use Rattle.std.proofs.lemmas.Bool.{and_parts}

-- what an outcome tells of the writer
abbrev pub IsOutcome : Outcome → WriterView → Type 0
IsOutcome (outcome.Takeover epoch first) w = (w.next ≡ first + 1) × (first ≤ max_number)
IsOutcome (outcome.Log first last) w = (w.next ≡ last + 1) × (last ≤ max_number)
IsOutcome (outcome.Roll start) w = (w.next ≡ start + 1) × (start ≤ max_number)
IsOutcome (outcome.Close last) w = last ≤ max_number
IsOutcome outcome.Purge w = Unit {0}

abbrev pub IsTurnAt : Turn → WriterView → Type 0
IsTurnAt (turn.Done o) w = IsOutcome o w
IsTurnAt turn.Going w = Unit {0}
IsTurnAt turn.Aborted w = Unit {0}
IsTurnAt (turn.EpochLimit told) w = Unit {0}

abbrev StandsSo : Judgment → Type 0
StandsSo j = IsTurnAt j.turn j.writer

fits_is : (n : ℕ) → fits n ≡ true → n ≤ max_number
fits_is n e = grind (arith, nat_tests)

state_so : (b : Bool) (told : ℕ) (w : WriterView) → StandsSo (if b then keep_going (begin_propose told w) else stops_with (turn.EpochLimit told) w)
state_so true told w = tt
state_so false told w = tt

finalize_so : (a : Aim) (end : ℕ) (w : WriterView) → end ≤ max_number → StandsSo (after_finalize a end w)
finalize_so aim.Close end w h = h
finalize_so aim.Takeover end w h = tt
finalize_so aim.Log end w h = tt
finalize_so aim.Roll end w h = tt
finalize_so aim.Purge end w h = tt

open_so : (a : Aim) (w : WriterView) → w.next ≡ w.start + 1 → w.start ≤ max_number → StandsSo (after_open a w)
open_so aim.Roll w e h = (e, h)
open_so aim.Takeover w e h = (e, h)
open_so aim.Close w e h = (e, h)
open_so aim.Log w e h = (e, h)
open_so aim.Purge w e h = (e, h)

write_so : (a : Aim) (first last : ℕ) (w : WriterView) → w.next ≡ last + 1 → last ≤ max_number → StandsSo (after_write a first last w)
write_so aim.Roll first last w e h = tt
write_so aim.Close first last w e h = tt
write_so aim.Log first last w e h = (e, h)
write_so aim.Takeover first last w e h = (e, h)
write_so aim.Purge first last w e h = (e, h)

done_so : (r : Round) (w : WriterView) → numbers_fit w r ≡ true → StandsSo (after_round r w)
done_so round.State w e = state_so (nat_lt (greatest_promise w.slots) max_number) (greatest_promise w.slots) w
done_so round.Propose w e = tt
done_so (round.Prepare start) w e = tt
done_so (round.Fetch node start end bodies) w e = tt
done_so (round.Accept batch) w e = tt
done_so (round.Finalize start end) w e =
    let rest = (and_parts (fits start) _ e).1 in
    finalize_so w.aim end (next_serial w) (fits_is end (and_parts (fits end) _ rest).0)
done_so round.Start w e = tt
done_so round.Open w e = open_so w.aim _ refl (fits_is w.start (and_parts (fits w.start) _ e).0)
done_so (round.Write bodies) w e =
    let rest = (and_parts (fits w.start) _ e).1 in
    let more = (and_parts (fits w.next) _ rest).1 in
    write_so w.aim w.next (w.next + length bodies - 1) _ refl (fits_is (w.next + length bodies - 1) (and_parts (fits (w.next + length bodies - 1)) _ more).0)
done_so (round.Purge min) w e = tt

same_numbers : (r : Round) (w : WriterView) → numbers_fit w r ≡ numbers_fit (with_causes r w) r
same_numbers round.State w = refl
same_numbers round.Propose w = refl
same_numbers (round.Prepare start) w = refl
same_numbers (round.Fetch node start end bodies) w = refl
same_numbers (round.Accept batch) w = refl
same_numbers (round.Finalize start end) w = refl
same_numbers round.Start w = refl
same_numbers round.Open w = refl
same_numbers (round.Write bodies) w = refl
same_numbers (round.Purge min) w = refl

judged_so : (r : Round) (w : WriterView) → StandsSo (judgment r w)
unfolding judgment
judged_so r w = by (numbers_fit w r) (has_majority r w.slots) refl
  where
    by : (b c : Bool) → numbers_fit w r ≡ b → StandsSo (judgment_by (b && c) r w)
    by true true e = done_so r (with_causes r w) (sym (same_numbers r w) ∙ e)
    by true false e = tt
    by false c e = tt

prepare_so : (b : Bool) (start : ℕ) (w : WriterView) → StandsSo (judgment_by b (round.Prepare start) w)
prepare_so true start w = tt
prepare_so false start w = tt

edits_so : (b : Bool) (node start end : ℕ) (bodies : List (List ℕ)) (batch : BatchView) (w : WriterView) → StandsSo (after_edits b node start end bodies batch w)
edits_so true node start end bodies batch w = tt
edits_so false node start end bodies batch w = prepare_so (has_majority (round.Prepare start) (without_answer_of node Silent w).slots) start (without_answer_of node Silent w)

not_so : (node start : ℕ) (heard : Heard) (w : WriterView) → StandsSo (after_no_edits node start heard w)
not_so node start heard w = prepare_so (has_majority (round.Prepare start) (without_answer_of node heard w).slots) start (without_answer_of node heard w)

fetched_so : (node start end : ℕ) (bodies : List (List ℕ)) (heard : Heard) (w : WriterView) → StandsSo (after_fetch node start end bodies heard w)
unfolding after_fetch
fetched_so node start end bodies Silent w = not_so node start Silent w
fetched_so node start end bodies (Answer reply.Ok) w = not_so node start (Answer reply.Ok) w
fetched_so node start end bodies (Answer (reply.State promised)) w = not_so node start (Answer (reply.State promised)) w
fetched_so node start end bodies (Answer (reply.NewEpoch newest)) w = not_so node start (Answer (reply.NewEpoch newest)) w
fetched_so node start end bodies (Answer (reply.Prepared writer committed segment)) w = not_so node start (Answer (reply.Prepared writer committed segment)) w
fetched_so node start end bodies (Answer (reply.Segments lines)) w = not_so node start (Answer (reply.Segments lines)) w
fetched_so node start end bodies (Answer (reply.Refused refusal)) w = not_so node start (Answer (reply.Refused refusal)) w
fetched_so node start end bodies (Answer (reply.Edits batch)) w =
    edits_so (numbers_fit w (round.Fetch node start end bodies) && fits_edits (start + length bodies) batch) node start end bodies batch w

when_so : (b : Bool) (r : Round) (w : WriterView) → StandsSo (judgment_when b r w)
when_so true r w = tt
when_so false r w = judged_so r w

in_so : (r : Round) (w : WriterView) (node : ℕ) (heard : Heard) → StandsSo (heard_in r w node heard)
in_so (round.Fetch from start end bodies) w node heard = fetched_so from start end bodies heard w
in_so round.State w node heard = when_so (list_any is_waiting (with_answer w node heard).slots) round.State (with_answer w node heard)
in_so round.Propose w node heard = when_so (list_any is_waiting (with_answer w node heard).slots) round.Propose (with_answer w node heard)
in_so (round.Prepare start) w node heard = when_so (list_any is_waiting (with_answer w node heard).slots) (round.Prepare start) (with_answer w node heard)
in_so (round.Accept batch) w node heard = when_so (list_any is_waiting (with_answer w node heard).slots) (round.Accept batch) (with_answer w node heard)
in_so (round.Finalize start end) w node heard = when_so (list_any is_waiting (with_answer w node heard).slots) (round.Finalize start end) (with_answer w node heard)
in_so round.Start w node heard = when_so (list_any is_waiting (with_answer w node heard).slots) round.Start (with_answer w node heard)
in_so round.Open w node heard = when_so (list_any is_waiting (with_answer w node heard).slots) round.Open (with_answer w node heard)
in_so (round.Write bodies) w node heard = when_so (list_any is_waiting (with_answer w node heard).slots) (round.Write bodies) (with_answer w node heard)
in_so (round.Purge min) w node heard = when_so (list_any is_waiting (with_answer w node heard).slots) (round.Purge min) (with_answer w node heard)

at_so : (p : Phase) (w : WriterView) (node : ℕ) (heard : Heard) → StandsSo (heard_at p w node heard)
at_so (phase.InRound r) w node heard = in_so r w node heard
at_so phase.Idle w node heard = tt
at_so phase.Writing w node heard = tt
at_so phase.Stopped w node heard = tt

heard_so : (w : WriterView) (node : ℕ) (heard : Heard) → StandsSo (writer_heard w node heard)
unfolding writer_heard
heard_so w node heard = at_so w.phase w node heard

along_so : (j : Judgment) (made : List PeerCall) → StandsSo j → StandsSo (judgment_along j made)
unfolding judgment_along
along_so j [] h = h
along_so j (c ∷ cs) h = along_so (writer_heard j.writer c.node c.heard) cs (heard_so j.writer c.node c.heard)

-- where a task was done, the outcome tells where the writer stands
pub outcome_of : (begun new : WriterView) (before after : List PeerCall) (o : Outcome) → Leads begun before after (record { writer = new; turn = turn.Done o }) → IsOutcome o new
outcome_of begun new before after o l = subst StandsSo (sym l.stands) (along_so (keep_going begun) l.made tt)

-- ## A task of one round
-- while the round goes on, and what it ends with
module _ (P : WriterView → Type 0) (Q : Judgment → Type 0)
    (step : (w : WriterView) (node : ℕ) (heard : Heard) → P w → (((writer_heard w node heard).turn ≡ turn.Going)
    × P (writer_heard w node heard).writer) ⊎ (Q (writer_heard w node heard) × (next_call (writer_heard w node heard).writer ≡ None))) where
  ends_along : (j : Judgment) (made : List PeerCall) → ((j.turn ≡ turn.Going) × P j.writer) ⊎ (Q j × (next_call j.writer ≡ None)) → IsLed j.writer made
      → ((judgment_along j made).turn ≡ turn.Going) ⊎ Q (judgment_along j made)
  unfolding judgment_along IsLed
  ends_along j [] (inl h) l = inl h.0
  ends_along j [] (inr h) l = inr h.0
  ends_along j (c ∷ cs) (inl h) l = ends_along (writer_heard j.writer c.node c.heard) cs (step j.writer c.node c.heard h.1) l.1
  ends_along j (c ∷ cs) (inr h) l = absurd (no (c.node, c.request) (next_call j.writer) h.1 l.0)
    where
      no : (x : ℕ × Request) (o : Option (ℕ × Request)) → o ≡ None → o ≡ Some x → ⊥
      no x o none some = cc (none, some)

-- a log: the txids follow on
record InLog (bodies : List (List ℕ)) (n : ℕ) (w : WriterView) : Type 0 where
  under_way : w.phase ≡ phase.InRound (round.Write bodies)
  aim : w.aim ≡ aim.Log
  next : w.next ≡ n

abbrev LogEnds : List (List ℕ) → ℕ → Turn → Type 0
LogEnds bodies n (turn.Done (outcome.Log first last)) = (first ≡ n) × (last ≡ n + length bodies - 1)
LogEnds bodies n (turn.Done o) = ⊥
LogEnds bodies n turn.Aborted = Unit {0}
LogEnds bodies n turn.Going = ⊥
LogEnds bodies n (turn.EpochLimit told) = ⊥

log_step : (bodies : List (List ℕ)) (n : ℕ) (w : WriterView) (node : ℕ) (heard : Heard) → InLog bodies n w
    → (((writer_heard w node heard).turn ≡ turn.Going) × InLog bodies n (writer_heard w node heard).writer)
    ⊎ (LogEnds bodies n (writer_heard w node heard).turn × (next_call (writer_heard w node heard).writer ≡ None))
unfolding writer_heard judgment
log_step bodies n w node heard h =
    subst (λ (p : Phase). Good (heard_at p w node heard)) (sym h.under_way)
    (by (list_any is_waiting (with_answer w node heard).slots))
  where
    Good : Judgment → Type 0
    Good j = ((j.turn ≡ turn.Going) × InLog bodies n j.writer) ⊎ (LogEnds bodies n j.turn × (next_call j.writer ≡ None))

    done : (a : Aim) (first last : ℕ) (v : WriterView) → a ≡ aim.Log → first ≡ n → last ≡ n + length bodies - 1 → Good (after_write a first last v)
    done aim.Log first last v e f l = inr ((f, l), refl)
    done aim.Takeover first last v e f l = absurd (cc e)
    done aim.Roll first last v e f l = absurd (cc e)
    done aim.Close first last v e f l = absurd (cc e)
    done aim.Purge first last v e f l = absurd (cc e)

    over : (b : Bool) (v : WriterView) → v.aim ≡ aim.Log → v.next ≡ n → Good (judgment_by b (round.Write bodies) v)
    over true v a e = done v.aim v.next (v.next + length bodies - 1) _ a e (ap (λ (k : ℕ). k + length bodies - 1) e)
    over false v a e = inr (tt, refl)

    by : (b : Bool) → Good (judgment_when b (round.Write bodies) (with_answer w node heard))
    by true = inl (refl, record { under_way = h.under_way; aim = h.aim; next = h.next })
    by false = over (numbers_fit (with_answer w node heard) (round.Write bodies) && has_majority (round.Write bodies) (with_answer w node heard).slots) (with_answer w node heard) h.aim h.next

begun_log : (old : WriterView) (bodies : List (List ℕ)) → (writer_begun old (task.Log bodies)).begun ≡ begun.Going → InLog bodies old.next (writer_begun old (task.Log bodies)).writer
unfolding writer_begun
begun_log old bodies e = by (is_writing old.phase) (log_limit old bodies) e
  where
    by : (b : Bool) (o : Option ℕ) → (if_writing b (log_begins o bodies old) old).begun ≡ begun.Going → InLog bodies old.next (if_writing b (log_begins o bodies old) old).writer
    by true None e = record { under_way = refl; aim = refl; next = refl }
    by true (Some number) e = absurd (cc e)
    by false o e = absurd (cc e)

pub log_last : (old new : WriterView) (bodies : List (List ℕ)) (before after : List PeerCall) (first last : ℕ) → (writer_begun old (task.Log bodies)).begun ≡ begun.Going
    → Leads (writer_begun old (task.Log bodies)).writer before after (record { writer = new; turn = turn.Done (outcome.Log first last) }) → last ≡ old.next + length bodies - 1
log_last old new bodies before after first last e l =
    by (judgment_along (keep_going (writer_begun old (task.Log bodies)).writer) l.made).turn (sym (ap (λ (j : Judgment). j.turn) l.stands))
    (ends_along (InLog bodies old.next) (λ j. LogEnds bodies old.next j.turn) (log_step bodies old.next)
    (keep_going (writer_begun old (task.Log bodies)).writer) l.made (inl (refl, begun_log old bodies e)) l.led)
  where
    by : (t : Turn) → t ≡ turn.Done (outcome.Log first last) → (t ≡ turn.Going) ⊎ LogEnds bodies old.next t → last ≡ old.next + length bodies - 1
    by t is (inl goes) = absurd (cc (is, goes))
    by t is (inr ends) = let end : LogEnds bodies old.next (turn.Done (outcome.Log first last)) = subst (LogEnds bodies old.next) is ends in end.1

-- a purge: the next txid stays
record InPurge (min n : ℕ) (w : WriterView) : Type 0 where
  under_way : w.phase ≡ phase.InRound (round.Purge min)
  next : w.next ≡ n

purge_step : (min n : ℕ) (w : WriterView) (node : ℕ) (heard : Heard) → InPurge min n w
    → (((writer_heard w node heard).turn ≡ turn.Going) × InPurge min n (writer_heard w node heard).writer)
    ⊎ (((writer_heard w node heard).writer.next ≡ n) × (next_call (writer_heard w node heard).writer ≡ None))
unfolding writer_heard judgment
purge_step min n w node heard h =
    subst (λ (p : Phase). Good (heard_at p w node heard)) (sym h.under_way)
    (by (list_any is_waiting (with_answer w node heard).slots))
  where
    Good : Judgment → Type 0
    Good j = ((j.turn ≡ turn.Going) × InPurge min n j.writer) ⊎ ((j.writer.next ≡ n) × (next_call j.writer ≡ None))

    over : (b : Bool) (v : WriterView) → v.next ≡ n → Good (judgment_by b (round.Purge min) v)
    over true v e = inr (e, refl)
    over false v e = inr (e, refl)

    by : (b : Bool) → Good (judgment_when b (round.Purge min) (with_answer w node heard))
    by true = inl (refl, record { under_way = h.under_way; next = h.next })
    by false = over (numbers_fit (with_answer w node heard) (round.Purge min) && has_majority (round.Purge min) (with_answer w node heard).slots) (with_answer w node heard) h.next

begun_purge : (old : WriterView) (min : ℕ) → (writer_begun old (task.Purge min)).begun ≡ begun.Going → InPurge min old.next (writer_begun old (task.Purge min)).writer
unfolding writer_begun
begun_purge old min e = by (is_writing old.phase) e
  where
    by : (b : Bool) → (if_writing b (begins (asks_all (round.Purge min) (record old { aim = aim.Purge }))) old).begun ≡ begun.Going
        → InPurge min old.next (if_writing b (begins (asks_all (round.Purge min) (record old { aim = aim.Purge }))) old).writer
    by true e = record { under_way = refl; next = refl }
    by false e = absurd (cc e)

pub purge_next : (old new : WriterView) (min : ℕ) (before after : List PeerCall) → (writer_begun old (task.Purge min)).begun ≡ begun.Going
    → Leads (writer_begun old (task.Purge min)).writer before after (record { writer = new; turn = turn.Done outcome.Purge }) → new.next ≡ old.next
purge_next old new min before after e l =
    by (judgment_along (keep_going (writer_begun old (task.Purge min)).writer) l.made) (sym l.stands)
    (ends_along (InPurge min old.next) (λ j. j.writer.next ≡ old.next) (purge_step min old.next)
    (keep_going (writer_begun old (task.Purge min)).writer) l.made (inl (refl, begun_purge old min e)) l.led)
  where
    by : (j : Judgment) → j ≡ record { writer = new; turn = turn.Done outcome.Purge } → (j.turn ≡ turn.Going) ⊎ (j.writer.next ≡ old.next) → new.next ≡ old.next
    by j is (inl goes) = let end : j.turn ≡ turn.Done outcome.Purge = ap (λ (x : Judgment). x.turn) is in absurd (cc (end, goes))
    by j is (inr e) = sym (ap (λ (x : Judgment). x.writer.next) is) ∙ e

-- ## A segment ends: a roll or a close
abbrev EndsSo : ℕ → Phase → WriterView → Type 0
EndsSo n (phase.InRound (round.Write bodies)) w = (bodies ≡ end_record) × (w.next ≡ n)
EndsSo n (phase.InRound (round.Finalize start end)) w = end ≡ n
EndsSo n (phase.InRound round.Start) w = (w.aim ≡ aim.Roll) × (w.start ≡ n + 1)
EndsSo n (phase.InRound round.Open) w = (w.aim ≡ aim.Roll) × (w.start ≡ n + 1)
EndsSo n _ w = ⊥

abbrev EndTurn : ℕ → Turn → Type 0
EndTurn n (turn.Done (outcome.Roll start)) = n ≤ start
EndTurn n (turn.Done (outcome.Close last)) = n ≤ last
EndTurn n (turn.Done o) = ⊥
EndTurn n turn.Aborted = Unit {0}
EndTurn n turn.Going = ⊥
EndTurn n (turn.EpochLimit told) = ⊥

record InEnd (a : Aim) (n : ℕ) (w : WriterView) : Type 0 where
  aim : w.aim ≡ a
  so : EndsSo n w.phase w

abbrev EndGood : Aim → ℕ → Judgment → Type 0
EndGood a n j = ((j.turn ≡ turn.Going) × InEnd a n j.writer) ⊎ (EndTurn n j.turn × (next_call j.writer ≡ None))

abbrev ending : Bool → Aim
ending true = aim.Roll
ending false = aim.Close

end_write : (k : Bool) (b : Aim) (n first last : ℕ) (v : WriterView) → b ≡ ending k → v.aim ≡ ending k → last ≡ n → EndGood (ending k) n (after_write b first last v)
end_write true aim.Roll n first last v e h l = inl (refl, record { aim = h; so = l })
end_write true aim.Close n first last v e h l = absurd (cc e)
end_write true aim.Takeover n first last v e h l = absurd (cc e)
end_write true aim.Log n first last v e h l = absurd (cc e)
end_write true aim.Purge n first last v e h l = absurd (cc e)
end_write false aim.Close n first last v e h l = inl (refl, record { aim = h; so = l })
end_write false aim.Roll n first last v e h l = absurd (cc e)
end_write false aim.Takeover n first last v e h l = absurd (cc e)
end_write false aim.Log n first last v e h l = absurd (cc e)
end_write false aim.Purge n first last v e h l = absurd (cc e)

end_finalize : (k : Bool) (b : Aim) (n end : ℕ) (v : WriterView) → b ≡ ending k → v.aim ≡ ending k → end ≡ n → EndGood (ending k) n (after_finalize b end v)
end_finalize true aim.Roll n end v e h l = inl (refl, record { aim = h; so = (h, ap (λ (x : ℕ). x + 1) l) })
end_finalize true aim.Close n end v e h l = absurd (cc e)
end_finalize true aim.Takeover n end v e h l = absurd (cc e)
end_finalize true aim.Log n end v e h l = absurd (cc e)
end_finalize true aim.Purge n end v e h l = absurd (cc e)
end_finalize false aim.Close n end v e h l = inr (omega (arith, l), refl)
end_finalize false aim.Roll n end v e h l = absurd (cc e)
end_finalize false aim.Takeover n end v e h l = absurd (cc e)
end_finalize false aim.Log n end v e h l = absurd (cc e)
end_finalize false aim.Purge n end v e h l = absurd (cc e)

end_open : (k : Bool) (b : Aim) (n : ℕ) (v : WriterView) → b ≡ aim.Roll → v.start ≡ n + 1 → EndGood (ending k) n (after_open b v)
end_open k aim.Roll n v e l = inr (omega (arith, l), refl)
end_open k aim.Close n v e l = absurd (cc e)
end_open k aim.Takeover n v e l = absurd (cc e)
end_open k aim.Log n v e l = absurd (cc e)
end_open k aim.Purge n v e l = absurd (cc e)

last_of : (w : WriterView) (n : ℕ) (bodies : List (List ℕ)) → bodies ≡ end_record → w.next ≡ n → w.next + length bodies - 1 ≡ n
last_of w n bodies e next = let one : length bodies ≡ 1 = ap (λ (l : List (List ℕ)). length l) e in omega (arith, one, next)

end_step : (k : Bool) (n : ℕ) (w : WriterView) (node : ℕ) (heard : Heard) → InEnd (ending k) n w → EndGood (ending k) n (writer_heard w node heard)
unfolding writer_heard judgment
end_step k n w node heard h = at w.phase refl h.so
  where
    still : (v : WriterView) → v.aim ≡ w.aim → EndsSo n v.phase v → EndGood (ending k) n (keep_going v)
    still v e s = inl (refl, record { aim = e ∙ h.aim; so = s })

    over : (r : Round) (b : Bool) (v : WriterView) → (EndGood (ending k) n (after_round r (with_causes r v))) → EndGood (ending k) n (judgment_by b r v)
    over r true v g = g
    over r false v g = inr (tt, refl)

    when : (r : Round) (b : Bool) (v : WriterView) → EndGood (ending k) n (keep_going v) → EndGood (ending k) n (after_round r (with_causes r v)) → EndGood (ending k) n (judgment_when b r v)
    when r true v s d = s
    when r false v s d = over r (numbers_fit v r && has_majority r v.slots) v d

    at : (p : Phase) → w.phase ≡ p → EndsSo n p w → EndGood (ending k) n (heard_at p w node heard)
    at (phase.InRound (round.Write bodies)) is s =
        let v : WriterView = with_answer w node heard in
        let last : w.next + length bodies - 1 ≡ n = last_of w n bodies s.0 s.1 in
        when (round.Write bodies) (list_any is_waiting v.slots) v (still v refl (subst (λ (p : Phase). EndsSo n p v) (sym is) s))
        (end_write k w.aim n w.next (w.next + length bodies - 1) _ h.aim h.aim last)
    at (phase.InRound (round.Finalize start end)) is s =
        let v : WriterView = with_answer w node heard in
        when (round.Finalize start end) (list_any is_waiting v.slots) v (still v refl (subst (λ (p : Phase). EndsSo n p v) (sym is) s)) (end_finalize k w.aim n end _ h.aim h.aim s)
    at (phase.InRound round.Start) is s =
        let v : WriterView = with_answer w node heard in
        when round.Start (list_any is_waiting v.slots) v (still v refl (subst (λ (p : Phase). EndsSo n p v) (sym is) s)) (inl (refl, record { aim = h.aim; so = s }))
    at (phase.InRound round.Open) is s =
        let v : WriterView = with_answer w node heard in
        when round.Open (list_any is_waiting v.slots) v (still v refl (subst (λ (p : Phase). EndsSo n p v) (sym is) s)) (end_open k w.aim n _ s.0 s.1)
    at (phase.InRound round.State) is s = absurd s
    at (phase.InRound round.Propose) is s = absurd s
    at (phase.InRound (round.Prepare start)) is s = absurd s
    at (phase.InRound (round.Fetch from start end bodies)) is s = absurd s
    at (phase.InRound (round.Accept batch)) is s = absurd s
    at (phase.InRound (round.Purge min)) is s = absurd s
    at phase.Idle is s = absurd s
    at phase.Writing is s = absurd s
    at phase.Stopped is s = absurd s

begun_roll : (old : WriterView) → (writer_begun old task.Roll).begun ≡ begun.Going → InEnd (ending true) old.next (writer_begun old task.Roll).writer
unfolding writer_begun
begun_roll old e = by (is_writing old.phase) e
  where
    by : (b : Bool) → (if_writing b (begins (asks_others (round.Write end_record) (record old { aim = aim.Roll }))) old).begun ≡ begun.Going
        → InEnd (ending true) old.next (if_writing b (begins (asks_others (round.Write end_record) (record old { aim = aim.Roll }))) old).writer
    by true e = record { aim = refl; so = (refl, refl) }
    by false e = absurd (cc e)

begun_close : (old : WriterView) → (writer_begun old task.Close).begun ≡ begun.Going → InEnd (ending false) old.next (writer_begun old task.Close).writer
unfolding writer_begun
begun_close old e = by (is_writing old.phase) e
  where
    by : (b : Bool) → (if_writing b (begins (asks_others (round.Write end_record) (record old { aim = aim.Close }))) old).begun ≡ begun.Going
        → InEnd (ending false) old.next (if_writing b (begins (asks_others (round.Write end_record) (record old { aim = aim.Close }))) old).writer
    by true e = record { aim = refl; so = (refl, refl) }
    by false e = absurd (cc e)

end_turn : (k : Bool) (n : ℕ) (begun new : WriterView) (before after : List PeerCall) (o : Outcome) → InEnd (ending k) n begun
    → Leads begun before after (record { writer = new; turn = turn.Done o }) → EndTurn n (turn.Done o)
end_turn k n begun new before after o h l =
    by (judgment_along (keep_going begun) l.made).turn (sym (ap (λ (j : Judgment). j.turn) l.stands))
    (ends_along (InEnd (ending k) n) (λ j. EndTurn n j.turn) (end_step k n) (keep_going begun) l.made (inl (refl, h)) l.led)
  where
    by : (t : Turn) → t ≡ turn.Done o → (t ≡ turn.Going) ⊎ EndTurn n t → EndTurn n (turn.Done o)
    by t is (inl goes) = absurd (cc (is, goes))
    by t is (inr ends) = subst (EndTurn n) is ends

pub roll_start : (old new : WriterView) (before after : List PeerCall) (start : ℕ) → (writer_begun old task.Roll).begun ≡ begun.Going
    → Leads (writer_begun old task.Roll).writer before after (record { writer = new; turn = turn.Done (outcome.Roll start) }) → old.next ≤ start
roll_start old new before after start e l = end_turn true old.next (writer_begun old task.Roll).writer new before after (outcome.Roll start) (begun_roll old e) l

pub close_last : (old new : WriterView) (before after : List PeerCall) (last : ℕ) → (writer_begun old task.Close).begun ≡ begun.Going
    → Leads (writer_begun old task.Close).writer before after (record { writer = new; turn = turn.Done (outcome.Close last) }) → old.next ≤ last
close_last old new before after last e l = end_turn false old.next (writer_begun old task.Close).writer new before after (outcome.Close last) (begun_close old e) l
