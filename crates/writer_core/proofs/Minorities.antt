-- A round is aborted where those that answered with the Ok kind are no majority.
use Rattle.std.proofs.Common.{◌≡◌, ℕ, ◌+◌, ◌-◌, ◌*◌, ◌≤◌, List, [], ◌∷◌, length, Bool, true, false, cond, refl, sym, ap, ◌∙◌, arith, ◌&&◌, nat_lt, map, count_by}
use Rattle.std.specs.List.{list_any}
use Rattle.std.proofs.lemmas.Bool.Decides.{nat_tests}
use Rattle.std.proofs.lemmas.List.{length-map}
use Rattle.std.proofs.lemmas.Bool.{and_right}
use Rattle.journal_core.specs.Views.{BatchView}
use Rattle.journal_core.specs.Limits.{max_number}
use Rattle.journal_core.specs.declared.reply.Reply.{Reply}
use Rattle.journal_core.specs.declared.reply.Reply.TheVariants as reply
use Rattle.journal_core.specs.declared.heard.Heard.{Heard}
use Rattle.journal_core.specs.declared.heard.Heard.TheVariants.{Answer, Silent}
use Rattle.writer_core.specs.declared.round.Round.{Round}
use Rattle.writer_core.specs.declared.round.Round.TheVariants as round
use Rattle.writer_core.specs.declared.phase.Phase.TheVariants as phase
use Rattle.writer_core.specs.declared.phase.Aim.{Aim}
use Rattle.writer_core.specs.declared.phase.Aim.TheVariants as aim
use Rattle.writer_core.specs.declared.slot.Slot.{Slot}
use Rattle.writer_core.specs.declared.slot.Slot.TheVariants.{Waiting, LeftOut, Told}
use Rattle.writer_core.specs.declared.turn.Turn.TheVariants as turn
use Rattle.writer_core.specs.Views.{WriterView}
use Rattle.writer_core.specs.Answers.{is_waiting, is_ok, has_majority, fits_edits, fits_round, cause_of, cause_unless_ok}
use Rattle.writer_core.specs.Best.{greatest_promise}
use Rattle.writer_core.specs.Rounds.{Judgment, keep_going, stops_with, numbers_fit, begin_propose, after_finalize, after_open, after_write}
use Rattle.writer_core.specs.Rounds.{after_round, with_causes, judgment_by, judgment, without_answer_of, after_edits, after_no_edits, after_fetch}
use Rattle.writer_core.specs.Rounds.{next_serial, left_out_after}
use Rattle.writer_core.specs.Writer.{with_answer, judgment_when, heard_in, writer_heard}
use Rattle.writer_core.specs.Minorities.{is_ok_cause, IsMinority, AbortsAreMinorities, MinoritiesAbort}
use Rattle.writer_core.proofs.RoundLaws.{count_cons}
use Rattle.writer_core.proofs.Steps.{heard_round}

-- ## The causes that are Ok are those of the Ok kind
answer_cause : (b : Bool) (answer : Reply) → is_ok_cause (cause_unless_ok b answer) ≡ b
answer_cause true answer = refl
answer_cause false reply.Ok = refl
answer_cause false (reply.State promised) = refl
answer_cause false (reply.NewEpoch newest) = refl
answer_cause false (reply.Prepared writer committed segment) = refl
answer_cause false (reply.Edits batch) = refl
answer_cause false (reply.Segments lines) = refl
answer_cause false (reply.Refused refusal) = refl

one_cause : (r : Round) (s : Slot) → is_ok_cause (cause_of true r s) ≡ is_ok r s
one_cause r (Told (Answer answer)) = answer_cause (fits_round r answer) answer
one_cause r (Told Silent) = refl
one_cause r Waiting = refl
one_cause r LeftOut = refl

no_cause : (r : Round) (s : Slot) → is_ok_cause (cause_of false r s) ≡ false
no_cause r (Told (Answer answer)) = answer_cause false answer
no_cause r (Told Silent) = refl
no_cause r Waiting = refl
no_cause r LeftOut = refl

abbrev as_count : Bool → ℕ
as_count b = cond b 1 0

all_causes : (r : Round) (slots : List Slot) → count_by is_ok_cause (map (cause_of true r) slots) ≡ count_by (is_ok r) slots
all_causes r [] = refl
all_causes r (s ∷ slots) =
    let one : as_count (is_ok_cause (cause_of true r s)) ≡ as_count (is_ok r s) = ap as_count (one_cause r s) in
    omega (arith, one, all_causes r slots, count_cons is_ok_cause (cause_of true r s) (map (cause_of true r) slots), count_cons (is_ok r) s slots)

no_causes : (r : Round) (slots : List Slot) → count_by is_ok_cause (map (cause_of false r) slots) ≡ 0
no_causes r [] = refl
no_causes r (s ∷ slots) =
    let none : as_count (is_ok_cause (cause_of false r s)) ≡ 0 = ap as_count (no_cause r s) in
    omega (arith, none, no_causes r slots, count_cons is_ok_cause (cause_of false r s) (map (cause_of false r) slots))

few_ok : (r : Round) (slots : List Slot) → has_majority r slots ≡ false → IsMinority (map (cause_of true r) slots)
few_ok r slots m =
    let few : 2 * count_by (is_ok r) slots ≤ length slots = grind (arith, nat_tests) in
    let same : length (map (cause_of true r) slots) ≡ length slots = length-map slots _ in
    omega (arith, few, same, all_causes r slots)

few_causes : (fit : Bool) (r : Round) (slots : List Slot) → (fit && has_majority r slots) ≡ false → IsMinority (map (cause_of fit r) slots)
few_causes true r slots m = few_ok r slots m
few_causes false r slots m = omega (arith, no_causes r slots)

-- ## A round that is done isn't aborted
abbrev NoAbort : Judgment → Type 0
NoAbort j = j.turn ≡ turn.Aborted → ⊥

state_goes : (b : Bool) (told : ℕ) (w : WriterView) → NoAbort (cond b (keep_going (begin_propose told w)) (stops_with (turn.EpochLimit told) w))
state_goes true told w e = cc
state_goes false told w e = cc

finalize_goes : (a : Aim) (end : ℕ) (w : WriterView) → NoAbort (after_finalize a end w)
finalize_goes aim.Close end w e = cc
finalize_goes aim.Takeover end w e = cc
finalize_goes aim.Log end w e = cc
finalize_goes aim.Roll end w e = cc
finalize_goes aim.Purge end w e = cc

open_goes : (a : Aim) (w : WriterView) → NoAbort (after_open a w)
open_goes aim.Close w e = cc
open_goes aim.Takeover w e = cc
open_goes aim.Log w e = cc
open_goes aim.Roll w e = cc
open_goes aim.Purge w e = cc

write_goes : (a : Aim) (first last : ℕ) (w : WriterView) → NoAbort (after_write a first last w)
write_goes aim.Close first last w e = cc
write_goes aim.Takeover first last w e = cc
write_goes aim.Log first last w e = cc
write_goes aim.Roll first last w e = cc
write_goes aim.Purge first last w e = cc

done_goes : (r : Round) (w : WriterView) → NoAbort (after_round r w)
done_goes round.State w e = state_goes (nat_lt (greatest_promise w.slots) max_number) (greatest_promise w.slots) w e
done_goes round.Propose w e = cc
done_goes (round.Prepare start) w e = cc
done_goes (round.Fetch node start end bodies) w e = cc
done_goes (round.Accept batch) w e = cc
done_goes (round.Finalize start end) w e = finalize_goes w.aim end (next_serial w) e
done_goes round.Start w e = cc
done_goes round.Open w e = open_goes w.aim (record (next_serial w) { committed = w.start; next = w.start + 1; left = left_out_after round.Open w.slots }) e
done_goes (round.Write bodies) w e =
    let last : ℕ = w.next + length bodies - 1 in
    write_goes w.aim w.next last (record (next_serial w) { committed = last; next = last + 1; left = left_out_after (round.Write bodies) w.slots }) e
done_goes (round.Purge min) w e = cc

-- ## A round that is aborted
judged_few : (b : Bool) (r : Round) (w : WriterView) → (b ≡ false → (numbers_fit w r && has_majority r w.slots) ≡ false) → (judgment_by b r w).turn ≡ turn.Aborted
    → IsMinority (judgment_by b r w).writer.causes
judged_few true r w m e = absurd (done_goes r (with_causes r w) e)
judged_few false r w m e = few_causes (numbers_fit w r) r w.slots (m refl)

when_few : (b : Bool) (r : Round) (w : WriterView) → (judgment_when b r w).turn ≡ turn.Aborted → IsMinority (judgment_when b r w).writer.causes
unfolding judgment
when_few true r w e = absurd (cc e)
when_few false r w e = judged_few (numbers_fit w r && has_majority r w.slots) r w (λ m. m) e

answer_few : (r : Round) (w : WriterView) (node : ℕ) (h : Heard) → (judgment_when (list_any is_waiting (with_answer w node h).slots) r (with_answer w node h)).turn ≡ turn.Aborted
    → IsMinority (judgment_when (list_any is_waiting (with_answer w node h).slots) r (with_answer w node h)).writer.causes
answer_few r w node h e = when_few (list_any is_waiting (with_answer w node h).slots) r (with_answer w node h) e

lost_few : (node start : ℕ) (h : Heard) (w : WriterView) → (after_no_edits node start h w).turn ≡ turn.Aborted → IsMinority (after_no_edits node start h w).writer.causes
lost_few node start h w e =
    let r : Round = round.Prepare start in
    let v : WriterView = without_answer_of node h w in
    judged_few (has_majority r v.slots) r v (λ m. and_right (numbers_fit v r) (has_majority r v.slots) m) e

edits_few : (b : Bool) (node start end : ℕ) (bodies : List (List ℕ)) (batch : BatchView) (w : WriterView) → (after_edits b node start end bodies batch w).turn ≡ turn.Aborted
    → IsMinority (after_edits b node start end bodies batch w).writer.causes
edits_few true node start end bodies batch w e = absurd (cc e)
edits_few false node start end bodies batch w e = lost_few node start Silent w e

fetched_few : (node start end : ℕ) (bodies : List (List ℕ)) (h : Heard) (w : WriterView) → (after_fetch node start end bodies h w).turn ≡ turn.Aborted
    → IsMinority (after_fetch node start end bodies h w).writer.causes
unfolding after_fetch
fetched_few node start end bodies (Answer (reply.Edits batch)) w e =
    edits_few (numbers_fit w (round.Fetch node start end bodies) && fits_edits (start + length bodies) batch) node start end bodies batch w e
fetched_few node start end bodies Silent w e = lost_few node start Silent w e
fetched_few node start end bodies (Answer answer) w e = lost_few node start (Answer answer) w e

in_few : (r : Round) (w : WriterView) (node : ℕ) (h : Heard) → (heard_in r w node h).turn ≡ turn.Aborted → IsMinority (heard_in r w node h).writer.causes
in_few (round.Fetch from start end bodies) w node h e = fetched_few from start end bodies h w e
in_few round.State w node h e = answer_few round.State w node h e
in_few round.Propose w node h e = answer_few round.Propose w node h e
in_few (round.Prepare start) w node h e = answer_few (round.Prepare start) w node h e
in_few (round.Accept batch) w node h e = answer_few (round.Accept batch) w node h e
in_few (round.Finalize start end) w node h e = answer_few (round.Finalize start end) w node h e
in_few round.Start w node h e = answer_few round.Start w node h e
in_few round.Open w node h e = answer_few round.Open w node h e
in_few (round.Write bodies) w node h e = answer_few (round.Write bodies) w node h e
in_few (round.Purge min) w node h e = answer_few (round.Purge min) w node h e

heard_is : (w : WriterView) (r : Round) (node : ℕ) (h : Heard) → w.phase ≡ phase.InRound r → writer_heard w node h ≡ heard_in r w node h
unfolding writer_heard
heard_is w r node h p = rw p refl

pub aborts_few : AbortsAreMinorities
aborts_few w r node h p e =
    let is = heard_is w r node h p in
    let few : IsMinority (heard_in r w node h).writer.causes = in_few r w node h (ap (λ j. j.turn) (sym is) ∙ e) in
    rw is few

-- ## A minority aborts its round
judged_no : (r : Round) (w : WriterView) → has_majority r w.slots ≡ false → (judgment r w).turn ≡ turn.Aborted
unfolding judgment
judged_no r w m = rw (and_right (numbers_fit w r) (has_majority r w.slots) m) refl

pub few_abort : MinoritiesAbort
few_abort w r node h p f a m =
    let is : writer_heard w node h ≡ judgment_when (list_any is_waiting (with_answer w node h).slots) r (with_answer w node h) = heard_is w r node h p ∙ heard_round r w node h f in
    rw (is, a) (judged_no r (with_answer w node h) m)
