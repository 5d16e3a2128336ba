-- A writer in the course of a task: while a round is under way there is a call to make, and the
-- task ends with an outcome of its own.
use Rattle.std.proofs.Common.{◌≡◌, ℕ, zero, suc, ◌+◌, ◌-◌, ◌<◌, ◌≤◌, List, [], ◌∷◌, ◌++◌, Bool, true, false, cond, not, refl, sym, ◌∙◌, subst, arith, length, ◌⊎◌, inl, inr, take}
use Rattle.std.specs.Prelude.{◌≢◌, Option, Some, None, is_some, ◌&&◌, ◌||◌, nat_lt, position, option_map, count_by}
use Rattle.std.specs.List.{list_any, position_or_len}
use Rattle.std.proofs.lemmas.Bool.Decides.{nat_tests}
use Rattle.std.proofs.lemmas.Bool.{and_parts}
use Rattle.journal_core.specs.Views.{BatchView, last_txid}
use Rattle.journal_core.specs.Limits.{max_number}
use Rattle.journal_core.specs.declared.request.Request.{Request}
use Rattle.journal_core.specs.declared.reply.Reply.TheVariants as reply
use Rattle.journal_core.specs.declared.heard.Heard.{Heard}
use Rattle.journal_core.specs.declared.heard.Heard.TheVariants.{Answer, Silent}
use Rattle.writer_core.specs.declared.round.Round.{Round}
use Rattle.writer_core.specs.declared.round.Round.TheVariants as round
use Rattle.writer_core.specs.declared.phase.Phase.{Phase}
use Rattle.writer_core.specs.declared.phase.Phase.TheVariants as phase
use Rattle.writer_core.specs.declared.phase.Aim.{Aim}
use Rattle.writer_core.specs.declared.phase.Aim.TheVariants as aim
use Rattle.writer_core.specs.declared.slot.Slot.{Slot}
use Rattle.writer_core.specs.declared.task.Task.{Task}
use Rattle.writer_core.specs.declared.task.Task.TheVariants as task
use Rattle.writer_core.specs.declared.task.Begun.TheVariants as begun
use Rattle.writer_core.specs.declared.turn.Turn.{Turn}
use Rattle.writer_core.specs.declared.turn.Turn.TheVariants as turn
use Rattle.writer_core.specs.declared.turn.Outcome.{Outcome}
use Rattle.writer_core.specs.declared.turn.Outcome.TheVariants as outcome
use Rattle.writer_core.specs.Turns.{aim_of, Suits, IsOf, IsInRound}
use Rattle.writer_core.specs.Views.{WriterView}
use Rattle.writer_core.specs.Answers.{is_waiting, is_ok, has_majority, fits_edits}
use Rattle.writer_core.specs.Best.{Best, best_of, greatest_promise, greatest_newest}
use Rattle.writer_core.specs.Rounds.{request_in, numbers_fit, Judgment, keep_going, ends_with, stops_with, after_round, with_causes, judgment_by}
use Rattle.writer_core.specs.Rounds.{judgment, without_answer_of, after_fetch, begin_propose, after_propose, begin_recovery, after_finalize}
use Rattle.writer_core.specs.Rounds.{after_open, after_write, after_edits, after_no_edits, next_serial, left_out_after, none_left_out, to_all}
use Rattle.writer_core.specs.Rounds.{to_others, asks_all, asks_others, batch_from, end_record}
use Rattle.writer_core.specs.Writer.{new_writer, Began, writer_begun, log_begins, log_limit, is_writing, if_writing, next_call, call_in, node_in}
use Rattle.writer_core.specs.Writer.{with_answer, judgment_when, heard_in, heard_at, writer_heard}

-- ## Waiting
-- some node waits; a fetch asks one node
abbrev pub Waits : Round → List Slot → Type 0
Waits (round.Fetch node start end bodies) slots = Unit {0}
Waits _ slots = list_any is_waiting slots ≡ true

abbrev pub InCourse : Aim → Phase → List Slot → Type 0
InCourse a (phase.InRound r) slots = Suits a r × Waits r slots
InCourse a _ slots = Unit {0}

abbrev pub IsBetween : Phase → Type 0
IsBetween (phase.InRound r) = ⊥
IsBetween _ = Unit {0}

-- some node isn't left out
abbrev pub has_other : List Bool → Bool
has_other left = list_any not left

pub record Course (a : Aim) (w : WriterView) : Type 0 where
  pub is : w.aim ≡ a
  pub other : has_other w.left ≡ true
  pub course : InCourse a w.phase w.slots

-- what an answer leads to
abbrev pub TurnOf : Aim → Phase → Turn → Type 0
TurnOf a p turn.Going = IsInRound p
TurnOf a p (turn.Done o) = IsOf a o × IsBetween p
TurnOf a p turn.Aborted = IsBetween p
TurnOf a p (turn.EpochLimit told) = (a ≡ aim.Takeover) × IsBetween p

pub record Turned (a : Aim) (j : Judgment) : Type 0 where
  pub course : Course a j.writer
  pub turn : TurnOf a j.writer.phase j.turn

-- ## Some node is asked
waits_any : (r : Round) (slots : List Slot) → list_any is_waiting slots ≡ true → Waits r slots
waits_any (round.Fetch node start end bodies) slots e = tt
waits_any round.State slots e = e
waits_any round.Propose slots e = e
waits_any (round.Prepare start) slots e = e
waits_any (round.Accept batch) slots e = e
waits_any (round.Finalize start end) slots e = e
waits_any round.Start slots e = e
waits_any round.Open slots e = e
waits_any (round.Write bodies) slots e = e
waits_any (round.Purge min) slots e = e

all_wait : (left : List Bool) → has_other left ≡ true → list_any is_waiting (to_all left) ≡ true
all_wait [] e = absurd (cc e)
all_wait (l ∷ left) e = refl

others_wait : (left : List Bool) → has_other left ≡ true → list_any is_waiting (to_others left) ≡ true
others_wait [] e = absurd (cc e)
others_wait (true ∷ left) e = others_wait left e
others_wait (false ∷ left) e = refl

none_out : (left : List Bool) → has_other left ≡ true → has_other (none_left_out left) ≡ true
none_out [] e = absurd (cc e)
none_out (l ∷ left) e = refl

not_not : (b c : Bool) → (b || c) ≡ true → (not (not b) || c) ≡ true
not_not true c e = refl
not_not false c e = e

or_rest : (b c d : Bool) → (c ≡ true → d ≡ true) → (b || c) ≡ true → (b || d) ≡ true
or_rest true c d h e = refl
or_rest false c d h e = h e

missed_other : (r : Round) (slots : List Slot) → list_any (is_ok r) slots ≡ true → has_other (left_out_after r slots) ≡ true
missed_other r [] e = absurd (cc e)
missed_other r (s ∷ slots) e = not_not (is_ok r s) (has_other (left_out_after r slots)) (or_rest (is_ok r s) (list_any (is_ok r) slots) (has_other (left_out_after r slots)) (missed_other r slots) e)

counted : {A : Type 0} (test : A → Bool) (xs : List A) → 0 < count_by test xs → list_any test xs ≡ true
counted test [] h = absurd (omega (arith, h))
counted {A} test (x ∷ xs) h = by (test x) refl (counted test xs) h
  where
    by : (b : Bool) → test x ≡ b → (0 < count_by test xs → list_any test xs ≡ true) → 0 < count_by test (x ∷ xs) → (b || list_any test xs) ≡ true
    by true is go h = refl
    by false is go h = go (rw is at h)

majority_any : (r : Round) (slots : List Slot) → has_majority r slots ≡ true → list_any (is_ok r) slots ≡ true
majority_any r slots e = counted (is_ok r) slots (grind (arith, nat_tests, e))

-- ## What follows a round that was done
all_course : (a : Aim) (r : Round) (w : WriterView) → w.aim ≡ a → has_other w.left ≡ true → Suits a r → Course a (asks_all r w)
all_course a r w e o s = record { is = e; other = o; course = (s, waits_any r (to_all w.left) (all_wait w.left o)) }

others_course : (a : Aim) (r : Round) (w : WriterView) → w.aim ≡ a → has_other w.left ≡ true → Suits a r → Course a (asks_others r w)
others_course a r w e o s = record { is = e; other = o; course = (s, waits_any r (to_others w.left) (others_wait w.left o)) }

goes : (a : Aim) (r : Round) (w : WriterView) → w.aim ≡ a → has_other w.left ≡ true → Suits a r → Turned a (keep_going (asks_all r w))
goes a r w e o s = record { course = all_course a r w e o s; turn = tt }

goes_others : (a : Aim) (r : Round) (w : WriterView) → w.aim ≡ a → has_other w.left ≡ true → Suits a r → Turned a (keep_going (asks_others r w))
goes_others a r w e o s = record { course = others_course a r w e o s; turn = tt }

state_by : (b : Bool) (told : ℕ) (w : WriterView) → w.aim ≡ aim.Takeover → has_other w.left ≡ true
    → Turned aim.Takeover (cond b (keep_going (begin_propose told w)) (stops_with (turn.EpochLimit told) w))
state_by true told w e o = goes aim.Takeover round.Propose (record w { epoch = told + 1; serial = 0; committed = 0 }) e o tt
state_by false told w e o = record { course = record { is = e; other = o; course = tt }; turn = (refl, tt) }

propose_turn : (n : Option ℕ) (w : WriterView) → w.aim ≡ aim.Takeover → has_other w.left ≡ true → Turned aim.Takeover (keep_going (after_propose n w))
propose_turn None w e o = goes aim.Takeover round.Start (record w { start = 1 }) e o tt
propose_turn (Some start) w e o = goes aim.Takeover (round.Prepare start) w e o tt

recovering_turn : (start : ℕ) (b : Option Best) (w : WriterView) → w.aim ≡ aim.Takeover → has_other w.left ≡ true → Turned aim.Takeover (keep_going (begin_recovery start b w))
recovering_turn start None w e o = goes aim.Takeover round.Start (record w { committed = start - 1; start = start }) e o tt
recovering_turn start (Some b) w e o = record { course = record { is = e; other = o; course = (tt, tt) }; turn = tt }

ended_turn : (a : Aim) (p : Phase) (x : Outcome) (w : WriterView) → w.aim ≡ a → has_other w.left ≡ true → IsBetween p → IsOf a x → InCourse a p w.slots → Turned a (ends_with p x w)
ended_turn a p x w e o b s c = record { course = record { is = e; other = o; course = c }; turn = (s, b) }

finalize_turn : (a : Aim) (end : ℕ) (w : WriterView) → w.aim ≡ a → has_other w.left ≡ true → Suits a (round.Finalize 0 0) → Turned a (after_finalize a end w)
finalize_turn aim.Close end w e o s = ended_turn aim.Close phase.Idle (outcome.Close end) w e o tt tt tt
finalize_turn aim.Takeover end w e o s = goes aim.Takeover round.Start (record w { start = end + 1 }) e o tt
finalize_turn aim.Roll end w e o s = goes aim.Roll round.Start (record w { start = end + 1 }) e o tt
finalize_turn aim.Log end w e o s = absurd s
finalize_turn aim.Purge end w e o s = absurd s

open_turn : (a : Aim) (w : WriterView) → w.aim ≡ a → has_other w.left ≡ true → Suits a round.Open → Turned a (after_open a w)
open_turn aim.Roll w e o s = ended_turn aim.Roll phase.Writing (outcome.Roll w.start) w e o tt tt tt
open_turn aim.Takeover w e o s = ended_turn aim.Takeover phase.Writing (outcome.Takeover w.epoch w.start) w e o tt tt tt
open_turn aim.Close w e o s = absurd s
open_turn aim.Log w e o s = absurd s
open_turn aim.Purge w e o s = absurd s

write_turn : (a : Aim) (first last : ℕ) (w : WriterView) → w.aim ≡ a → has_other w.left ≡ true → Suits a (round.Write []) → Turned a (after_write a first last w)
write_turn aim.Roll first last w e o s = goes_others aim.Roll (round.Finalize w.start last) w e o tt
write_turn aim.Close first last w e o s = goes_others aim.Close (round.Finalize w.start last) w e o tt
write_turn aim.Log first last w e o s = ended_turn aim.Log phase.Writing (outcome.Log first last) w e o tt tt tt
write_turn aim.Takeover first last w e o s = absurd s
write_turn aim.Purge first last w e o s = absurd s

by_aim : (a : Aim) (w : WriterView) (f : Aim → Judgment) → w.aim ≡ a → Turned a (f a) → Turned a (f w.aim)
by_aim a w f e h = subst (λ (x : Aim). Turned a (f x)) (sym e) h

takes : (a : Aim) (j : Judgment) → a ≡ aim.Takeover → Turned aim.Takeover j → Turned a j
takes a j e h = subst (λ (x : Aim). Turned x j) (sym e) h

-- only a takeover asks for these
takeover_only : (a : Aim) (r : Round) → Suits a r → Suits aim.Takeover r → (Suits aim.Roll r → ⊥) → (Suits aim.Log r → ⊥) → (Suits aim.Close r → ⊥) → (Suits aim.Purge r → ⊥) → a ≡ aim.Takeover
takeover_only aim.Takeover r s t b c d e = refl
takeover_only aim.Roll r s t b c d e = absurd (b s)
takeover_only aim.Log r s t b c d e = absurd (c s)
takeover_only aim.Close r s t b c d e = absurd (d s)
takeover_only aim.Purge r s t b c d e = absurd (e s)

start_suits : (a : Aim) → Suits a round.Start → Suits a round.Open
start_suits aim.Takeover s = tt
start_suits aim.Roll s = tt
start_suits aim.Log s = absurd s
start_suits aim.Close s = absurd s
start_suits aim.Purge s = absurd s

done_turn : (a : Aim) (r : Round) (w : WriterView) → w.aim ≡ a → has_other w.left ≡ true → Suits a r → list_any (is_ok r) w.slots ≡ true → Turned a (after_round r w)
done_turn a round.State w e o s k =
    let t : a ≡ aim.Takeover = takeover_only a round.State s tt (λ x. x) (λ x. x) (λ x. x) (λ x. x) in
    takes a (after_round round.State w) t (state_by (nat_lt (greatest_promise w.slots) max_number) (greatest_promise w.slots) w (e ∙ t) o)
done_turn a round.Propose w e o s k =
    let t : a ≡ aim.Takeover = takeover_only a round.Propose s tt (λ x. x) (λ x. x) (λ x. x) (λ x. x) in
    takes a (after_round round.Propose w) t (propose_turn (greatest_newest w.slots) (next_serial w) (e ∙ t) o)
done_turn a (round.Prepare start) w e o s k =
    let t : a ≡ aim.Takeover = takeover_only a (round.Prepare start) s tt (λ x. x) (λ x. x) (λ x. x) (λ x. x) in
    takes a (after_round (round.Prepare start) w) t (recovering_turn start (best_of start w.slots) (next_serial w) (e ∙ t) o)
done_turn a (round.Fetch node start end bodies) w e o s k =
    let t : a ≡ aim.Takeover = takeover_only a (round.Fetch node start end bodies) s tt (λ x. x) (λ x. x) (λ x. x) (λ x. x) in
    takes a (after_round (round.Fetch node start end bodies) w) t (recovering_turn start (best_of start w.slots) (next_serial w) (e ∙ t) o)
done_turn a (round.Accept batch) w e o s k =
    let t : a ≡ aim.Takeover = takeover_only a (round.Accept batch) s tt (λ x. x) (λ x. x) (λ x. x) (λ x. x) in
    takes a (after_round (round.Accept batch) w) t (goes_others aim.Takeover (round.Finalize batch.first (last_txid batch)) (record (next_serial w) { committed = last_txid batch }) (e ∙ t) o tt)
done_turn a (round.Finalize start end) w e o s k = by_aim a w (λ x. after_finalize x end (next_serial w)) e (finalize_turn a end (next_serial w) e o (finalizes a s))
  where
    finalizes : (a : Aim) → Suits a (round.Finalize start end) → Suits a (round.Finalize 0 0)
    finalizes aim.Takeover s = tt
    finalizes aim.Roll s = tt
    finalizes aim.Close s = tt
    finalizes aim.Log s = absurd s
    finalizes aim.Purge s = absurd s
done_turn a round.Start w e o s k = goes_others a round.Open (record (next_serial w) { left = left_out_after round.Start w.slots }) e (missed_other round.Start w.slots k) (start_suits a s)
done_turn a round.Open w e o s k =
    by_aim a w (λ x. after_open x (record (next_serial w) { committed = w.start; next = w.start + 1; left = left_out_after round.Open w.slots })) e
    (open_turn a (record (next_serial w) { committed = w.start; next = w.start + 1; left = left_out_after round.Open w.slots }) e (missed_other round.Open w.slots k) s)
done_turn a (round.Write bodies) w e o s k =
    let last : ℕ = w.next + length bodies - 1 in
    by_aim a w (λ x. after_write x w.next last (record (next_serial w) { committed = last; next = last + 1; left = left_out_after (round.Write bodies) w.slots })) e
    (write_turn a w.next last (record (next_serial w) { committed = last; next = last + 1; left = left_out_after (round.Write bodies) w.slots }) e
    (missed_other (round.Write bodies) w.slots k) (writes a s))
  where
    writes : (a : Aim) → Suits a (round.Write bodies) → Suits a (round.Write [])
    writes aim.Roll s = tt
    writes aim.Close s = tt
    writes aim.Log s = tt
    writes aim.Takeover s = absurd s
    writes aim.Purge s = absurd s
done_turn a (round.Purge min) w e o s k = purges a w e o s
  where
    purges : (a : Aim) (w : WriterView) → w.aim ≡ a → has_other w.left ≡ true → Suits a (round.Purge min) → Turned a (ends_with phase.Writing outcome.Purge (next_serial w))
    purges aim.Purge w e o s = ended_turn aim.Purge phase.Writing outcome.Purge (next_serial w) e o tt tt tt
    purges aim.Takeover w e o s = absurd s
    purges aim.Roll w e o s = absurd s
    purges aim.Close w e o s = absurd s
    purges aim.Log w e o s = absurd s

-- ## A round that was heard whole
judged_turn : (a : Aim) (b : Bool) (r : Round) (w : WriterView) → w.aim ≡ a → has_other w.left ≡ true → Suits a r → (b ≡ true → has_majority r w.slots ≡ true) → Turned a (judgment_by b r w)
judged_turn a true r w e o s k = done_turn a r (with_causes r w) e o s (majority_any r w.slots (k refl))
judged_turn a false r w e o s k = record { course = record { is = e; other = o; course = tt }; turn = tt }

round_turn : (a : Aim) (b : Bool) (r : Round) (w : WriterView) → list_any is_waiting w.slots ≡ b → w.aim ≡ a → has_other w.left ≡ true → Suits a r
    → w.phase ≡ phase.InRound r → Turned a (judgment_when b r w)
unfolding judgment
round_turn a true r w is e o s same = record {
  course = record { is = e; other = o; course = subst (λ (x : Phase). InCourse a x w.slots) (sym same) (s, waits_any r w.slots is) };
  turn = subst (λ (x : Phase). IsInRound x) (sym same) tt;
}
round_turn a false r w is e o s same = judged_turn a (numbers_fit w r && has_majority r w.slots) r w e o s (λ both. (and_parts (numbers_fit w r) (has_majority r w.slots) both).1)

-- ## A piece that was fetched
prepares : (a : Aim) (node start end : ℕ) (bodies : List (List ℕ)) → Suits a (round.Fetch node start end bodies) → Suits a (round.Prepare start) × Suits a (round.Accept (batch_from start bodies))
prepares aim.Takeover node start end bodies s = (tt, tt)
prepares aim.Roll node start end bodies s = absurd s
prepares aim.Log node start end bodies s = absurd s
prepares aim.Close node start end bodies s = absurd s
prepares aim.Purge node start end bodies s = absurd s

fetches : (a : Aim) (node start end : ℕ) (bodies more : List (List ℕ)) → Suits a (round.Fetch node start end bodies) → Suits a (round.Fetch node start end more)
fetches aim.Takeover node start end bodies more s = tt
fetches aim.Roll node start end bodies more s = absurd s
fetches aim.Log node start end bodies more s = absurd s
fetches aim.Close node start end bodies more s = absurd s
fetches aim.Purge node start end bodies more s = absurd s

pieced_turn : (a : Aim) (b : Bool) (node start end : ℕ) (bodies : List (List ℕ)) (w : WriterView) → w.aim ≡ a → has_other w.left ≡ true → Suits a (round.Fetch node start end bodies)
    → Turned a (keep_going (cond b (asks_all (round.Accept (batch_from start bodies)) w) (record w { phase = phase.InRound (round.Fetch node start end bodies) })))
pieced_turn a true node start end bodies w e o s = goes a (round.Accept (batch_from start bodies)) w e o (prepares a node start end bodies s).1
pieced_turn a false node start end bodies w e o s = record { course = record { is = e; other = o; course = (s, tt) }; turn = tt }

missing_turn : (a : Aim) (node start end : ℕ) (bodies : List (List ℕ)) (heard : Heard) (w : WriterView) → w.aim ≡ a → has_other w.left ≡ true
    → Suits a (round.Fetch node start end bodies) → Turned a (after_no_edits node start heard w)
missing_turn a node start end bodies heard w e o s =
    judged_turn a (has_majority (round.Prepare start) (without_answer_of node heard w).slots) (round.Prepare start) (without_answer_of node heard w) e o (prepares a node start end bodies s).0 (λ x. x)

edits_turn : (a : Aim) (b : Bool) (node start end : ℕ) (bodies : List (List ℕ)) (batch : BatchView) (w : WriterView) → w.aim ≡ a → has_other w.left ≡ true → Suits a (round.Fetch node start end bodies)
    → Turned a (after_edits b node start end bodies batch w)
edits_turn a true node start end bodies batch w e o s =
    let more : List (List ℕ) = bodies ++ take (end + 1 - (start + length bodies)) batch.bodies in
    pieced_turn a (nat_lt end (start + length more)) node start end more (next_serial w) e o (fetches a node start end bodies more s)
edits_turn a false node start end bodies batch w e o s = missing_turn a node start end bodies Silent w e o s

fetched_turn : (a : Aim) (node start end : ℕ) (bodies : List (List ℕ)) (heard : Heard) (w : WriterView) → w.aim ≡ a → has_other w.left ≡ true
    → Suits a (round.Fetch node start end bodies) → Turned a (after_fetch node start end bodies heard w)
unfolding after_fetch
fetched_turn a node start end bodies (Answer (reply.Edits batch)) w e o s =
    edits_turn a (numbers_fit w (round.Fetch node start end bodies) && fits_edits (start + length bodies) batch) node start end bodies batch w e o s
fetched_turn a node start end bodies (Answer reply.Ok) w e o s = missing_turn a node start end bodies (Answer reply.Ok) w e o s
fetched_turn a node start end bodies (Answer (reply.State promised)) w e o s = missing_turn a node start end bodies (Answer (reply.State promised)) w e o s
fetched_turn a node start end bodies (Answer (reply.NewEpoch newest)) w e o s = missing_turn a node start end bodies (Answer (reply.NewEpoch newest)) w e o s
fetched_turn a node start end bodies (Answer (reply.Prepared writer committed segment)) w e o s = missing_turn a node start end bodies (Answer (reply.Prepared writer committed segment)) w e o s
fetched_turn a node start end bodies (Answer (reply.Segments lines)) w e o s = missing_turn a node start end bodies (Answer (reply.Segments lines)) w e o s
fetched_turn a node start end bodies (Answer (reply.Refused refusal)) w e o s = missing_turn a node start end bodies (Answer (reply.Refused refusal)) w e o s
fetched_turn a node start end bodies Silent w e o s = missing_turn a node start end bodies Silent w e o s

-- ## An answer
in_turn : (a : Aim) (r : Round) (w : WriterView) (node : ℕ) (heard : Heard) → w.aim ≡ a → has_other w.left ≡ true → Suits a r → w.phase ≡ phase.InRound r → Turned a (heard_in r w node heard)
in_turn a (round.Fetch from start end bodies) w node heard e o s p = fetched_turn a from start end bodies heard w e o s
in_turn a round.State w node heard e o s p = round_turn a (list_any is_waiting (with_answer w node heard).slots) round.State (with_answer w node heard) refl e o s p
in_turn a round.Propose w node heard e o s p = round_turn a (list_any is_waiting (with_answer w node heard).slots) round.Propose (with_answer w node heard) refl e o s p
in_turn a (round.Prepare start) w node heard e o s p = round_turn a (list_any is_waiting (with_answer w node heard).slots) (round.Prepare start) (with_answer w node heard) refl e o s p
in_turn a (round.Accept batch) w node heard e o s p = round_turn a (list_any is_waiting (with_answer w node heard).slots) (round.Accept batch) (with_answer w node heard) refl e o s p
in_turn a (round.Finalize start end) w node heard e o s p = round_turn a (list_any is_waiting (with_answer w node heard).slots) (round.Finalize start end) (with_answer w node heard) refl e o s p
in_turn a round.Start w node heard e o s p = round_turn a (list_any is_waiting (with_answer w node heard).slots) round.Start (with_answer w node heard) refl e o s p
in_turn a round.Open w node heard e o s p = round_turn a (list_any is_waiting (with_answer w node heard).slots) round.Open (with_answer w node heard) refl e o s p
in_turn a (round.Write bodies) w node heard e o s p = round_turn a (list_any is_waiting (with_answer w node heard).slots) (round.Write bodies) (with_answer w node heard) refl e o s p
in_turn a (round.Purge min) w node heard e o s p = round_turn a (list_any is_waiting (with_answer w node heard).slots) (round.Purge min) (with_answer w node heard) refl e o s p

at_turn : (a : Aim) (p : Phase) (w : WriterView) (node : ℕ) (heard : Heard) → w.phase ≡ p → Course a w → IsInRound p → Turned a (heard_at p w node heard)
at_turn a (phase.InRound r) w node heard same c i =
    let here : InCourse a (phase.InRound r) w.slots = subst (λ (x : Phase). InCourse a x w.slots) same c.course in
    in_turn a r w node heard c.is c.other here.0 same
at_turn a phase.Idle w node heard same c i = absurd i
at_turn a phase.Writing w node heard same c i = absurd i
at_turn a phase.Stopped w node heard same c i = absurd i

pub heard_turn : (a : Aim) (w : WriterView) (node : ℕ) (heard : Heard) → Course a w → IsInRound w.phase → Turned a (writer_heard w node heard)
unfolding writer_heard
heard_turn a w node heard c i = at_turn a w.phase w node heard refl c i

-- ## A task begins
-- it is under way, or was refused and left the writer as it was
unfoldable pub Begins : Task → WriterView → Began → Type 0
Begins t w b = ((b.begun ≡ begun.Going) × Course (aim_of t) b.writer × IsInRound b.writer.phase) ⊎ ((b.begun ≢ begun.Going) × (b.writer ≡ w))

if_begins : (t : Task) (b : Bool) (x : Began) (w : WriterView) → Begins t w x → Begins t w (if_writing b x w)
unfolding Begins
if_begins t true x w h = h
if_begins t false x w h = inr (apart, refl)
  where
    apart : begun.NotActive ≢ begun.Going
    apart e = cc e

log_begins_turn : (n : Option ℕ) (bodies : List (List ℕ)) (w : WriterView) → has_other w.left ≡ true → Begins (task.Log bodies) w (log_begins n bodies w)
unfolding Begins
log_begins_turn (Some n) bodies w o = inr (apart, refl)
  where
    apart : begun.TooLong n ≢ begun.Going
    apart e = cc e
log_begins_turn None bodies w o = inl (refl, others_course aim.Log (round.Write bodies) (record w { aim = aim.Log }) refl o tt, tt)

pub begun_turn : (t : Task) (w : WriterView) → has_other w.left ≡ true → Begins t w (writer_begun w t)
unfolding Begins writer_begun
begun_turn task.Takeover w o = inl (refl, all_course aim.Takeover round.State (record w { aim = aim.Takeover; left = none_left_out w.left }) refl (none_out w.left o) tt, tt)
begun_turn (task.Log bodies) w o = unfold Begins in if_begins (task.Log bodies) (is_writing w.phase) (log_begins (log_limit w bodies) bodies w) w (log_begins_turn (log_limit w bodies) bodies w o)
begun_turn task.Roll w o = if_begins task.Roll (is_writing w.phase) _ w (inl (refl, others_course aim.Roll (round.Write end_record) (record w { aim = aim.Roll }) refl o tt, tt))
begun_turn task.Close w o = if_begins task.Close (is_writing w.phase) _ w (inl (refl, others_course aim.Close (round.Write end_record) (record w { aim = aim.Close }) refl o tt, tt))
begun_turn (task.Purge min) w o = if_begins (task.Purge min) (is_writing w.phase) _ w (inl (refl, all_course aim.Purge (round.Purge min) (record w { aim = aim.Purge }) refl o tt, tt))

pub new_course : (n : ℕ) → 1 ≤ n → Course aim.Takeover (new_writer n)
new_course zero h = absurd (omega (arith, h))
new_course (suc n) h = record { is = refl; other = refl; course = tt }

-- ## There is a call to make just where a round is under way
place_below : {A : Type 0} (test : A → Bool) (xs : List A) → list_any test xs ≡ true → position_or_len test xs < length xs
place_below test [] e = absurd (cc e)
place_below {A} test (x ∷ xs) e = by (test x) (place_below test xs) e
  where
    by : (b : Bool) → (list_any test xs ≡ true → position_or_len test xs < length xs) → (b || list_any test xs) ≡ true → cond (not b) (1 + position_or_len test xs) 0 < suc (length xs)
    by true go f = omega arith
    by false go f = omega (arith, go f)

position_some : (slots : List Slot) → list_any is_waiting slots ≡ true → is_some (position is_waiting slots) ≡ true
position_some slots e =
    let below : nat_lt (position_or_len is_waiting slots) (length slots) ≡ true = grind (arith, nat_tests, place_below is_waiting slots e) in
    rw below refl

map_some : (r : Request) (o : Option ℕ) → is_some o ≡ true → is_some (option_map {U = ℕ × Request} (λ (node : ℕ). (node, r)) o) ≡ true
map_some r None e = absurd (cc e)
map_some r (Some i) e = refl

next_some : (o : Option ℕ) → is_some o ≡ true → is_some (option_map (λ i. i + 1) o) ≡ true
next_some None e = absurd (cc e)
next_some (Some i) e = refl

node_some : (r : Round) (slots : List Slot) → Waits r slots → is_some (node_in r slots) ≡ true
node_some (round.Fetch node start end bodies) slots h = refl
node_some round.State slots h = next_some (position is_waiting slots) (position_some slots h)
node_some round.Propose slots h = next_some (position is_waiting slots) (position_some slots h)
node_some (round.Prepare start) slots h = next_some (position is_waiting slots) (position_some slots h)
node_some (round.Accept batch) slots h = next_some (position is_waiting slots) (position_some slots h)
node_some (round.Finalize start end) slots h = next_some (position is_waiting slots) (position_some slots h)
node_some round.Start slots h = next_some (position is_waiting slots) (position_some slots h)
node_some round.Open slots h = next_some (position is_waiting slots) (position_some slots h)
node_some (round.Write bodies) slots h = next_some (position is_waiting slots) (position_some slots h)
node_some (round.Purge min) slots h = next_some (position is_waiting slots) (position_some slots h)

call_by : (a : Aim) (p : Phase) (w : WriterView) → InCourse a p w.slots → IsInRound p → is_some (call_in p w) ≡ true
call_by a (phase.InRound r) w c i = map_some (request_in w r) (node_in r w.slots) (node_some r w.slots c.1)
call_by a phase.Idle w c i = absurd i
call_by a phase.Writing w c i = absurd i
call_by a phase.Stopped w c i = absurd i

pub call_some : (a : Aim) (w : WriterView) → Course a w → IsInRound w.phase → is_some (next_call w) ≡ true
call_some a w c i = call_by a w.phase w c.course i

none_by : (p : Phase) (w : WriterView) → IsBetween p → call_in p w ≡ None
none_by (phase.InRound r) w h = absurd h
none_by phase.Idle w h = refl
none_by phase.Writing w h = refl
none_by phase.Stopped w h = refl

pub call_none : (w : WriterView) → IsBetween w.phase → next_call w ≡ None
call_none w h = none_by w.phase w h
