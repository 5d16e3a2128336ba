-- A writer in the course of a task: each answer leads to a round of the same task, or to an end of
-- its own.
use Rattle.std.proofs.Common.{◌≡◌, ℕ, ◌+◌, ◌-◌, List, [], ◌++◌, Bool, true, false, cond, refl, sym, ◌∙◌, subst, length, take, ◌&&◌, nat_lt, Option, Some, None}
use Rattle.std.specs.Prelude.{◌≢◌}
use Rattle.std.specs.List.{list_any}
use Rattle.std.proofs.lemmas.List.{length-map, length-set}
use Rattle.journal_core.specs.Views.{BatchView, last_txid}
use Rattle.journal_core.specs.Limits.{max_number}
use Rattle.journal_core.specs.declared.reply.Reply.TheVariants as reply
use Rattle.journal_core.specs.declared.heard.Heard.{Heard}
use Rattle.journal_core.specs.declared.heard.Heard.TheVariants.{Answer, Silent}
use Rattle.writer_core.specs.declared.round.Round.{Round}
use Rattle.writer_core.specs.declared.round.Round.TheVariants as round
use Rattle.writer_core.specs.declared.phase.Phase.{Phase}
use Rattle.writer_core.specs.declared.phase.Phase.TheVariants as phase
use Rattle.writer_core.specs.declared.phase.Aim.{Aim}
use Rattle.writer_core.specs.declared.phase.Aim.TheVariants as aim
use Rattle.writer_core.specs.declared.task.Task.{Task}
use Rattle.writer_core.specs.declared.task.Task.TheVariants as task
use Rattle.writer_core.specs.declared.task.Begun.TheVariants as begun
use Rattle.writer_core.specs.declared.turn.Turn.TheVariants as turn
use Rattle.writer_core.specs.declared.turn.Outcome.{Outcome}
use Rattle.writer_core.specs.declared.turn.Outcome.TheVariants as outcome
use Rattle.writer_core.specs.Views.{WriterView}
use Rattle.writer_core.specs.Answers.{is_waiting, has_majority, fits_edits}
use Rattle.writer_core.specs.Best.{Best, best_of, greatest_promise, greatest_newest}
use Rattle.writer_core.specs.Rounds.{numbers_fit, Judgment, keep_going, ends_with, stops_with, after_round, with_causes, judgment_by, judgment}
use Rattle.writer_core.specs.Rounds.{without_answer_of, after_fetch, begin_propose, after_propose, begin_recovery, after_finalize}
use Rattle.writer_core.specs.Rounds.{after_open, after_write, after_edits, after_no_edits, next_serial, left_out_after, none_left_out, asks_all}
use Rattle.writer_core.specs.Rounds.{asks_others, batch_from, end_record}
use Rattle.writer_core.specs.Writer.{Began, writer_begun, log_begins, log_limit, is_writing, if_writing, with_answer, judgment_when, heard_in, heard_at, writer_heard}
use Rattle.writer_core.specs.Turns.{aim_of, Suits, SuitsIn, IsOf, IsInRound, phase_after, IsTurnOf, IsApt}

-- where an answer leads to, of a writer of so many nodes with this aim
pub record Turned (a : Aim) (n : ℕ) (j : Judgment) : Type 0 where
  pub aim : j.writer.aim ≡ a
  pub left : length j.writer.left ≡ n
  pub suits : SuitsIn a j.writer.phase
  pub turn : IsTurnOf a j.writer.phase j.turn

-- ## What follows a round that was done
goes : (a : Aim) (n : ℕ) (r : Round) (w : WriterView) → w.aim ≡ a → length w.left ≡ n → Suits a r → Turned a n (keep_going (asks_all r w))
goes a n r w e l s = record { aim = e; left = l; suits = s; turn = tt }

goes_others : (a : Aim) (n : ℕ) (r : Round) (w : WriterView) → w.aim ≡ a → length w.left ≡ n → Suits a r → Turned a n (keep_going (asks_others r w))
goes_others a n r w e l s = record { aim = e; left = l; suits = s; turn = tt }

between : (a : Aim) (o : Outcome) → SuitsIn a (phase_after o)
between a (outcome.Close last) = tt
between a (outcome.Takeover epoch first) = tt
between a (outcome.Log first last) = tt
between a (outcome.Roll start) = tt
between a outcome.Purge = tt

ends : (a : Aim) (n : ℕ) (o : Outcome) (w : WriterView) → w.aim ≡ a → length w.left ≡ n → IsOf a o → Turned a n (ends_with (phase_after o) o w)
ends a n o w e l s = record { aim = e; left = l; suits = between a o; turn = (s, refl) }

state_by : (b : Bool) (n told : ℕ) (w : WriterView) → w.aim ≡ aim.Takeover → length w.left ≡ n
    → Turned aim.Takeover n (cond b (keep_going (begin_propose told w)) (stops_with (turn.EpochLimit told) w))
state_by true n told w e l = goes aim.Takeover n round.Propose (record w { epoch = told + 1; serial = 0; committed = 0 }) e l tt
state_by false n told w e l = record { aim = e; left = l; suits = tt; turn = (refl, refl) }

propose_turn : (n : ℕ) (o : Option ℕ) (w : WriterView) → w.aim ≡ aim.Takeover → length w.left ≡ n → Turned aim.Takeover n (keep_going (after_propose o w))
propose_turn n None w e l = goes aim.Takeover n round.Start (record w { start = 1 }) e l tt
propose_turn n (Some start) w e l = goes aim.Takeover n (round.Prepare start) w e l tt

recovering_turn : (n start : ℕ) (o : Option Best) (w : WriterView) → w.aim ≡ aim.Takeover → length w.left ≡ n → Turned aim.Takeover n (keep_going (begin_recovery start o w))
recovering_turn n start None w e l = goes aim.Takeover n round.Start (record w { committed = start - 1; start = start }) e l tt
recovering_turn n start (Some b) w e l = record { aim = e; left = l; suits = tt; turn = tt }

finalize_turn : (a : Aim) (n end : ℕ) (w : WriterView) → w.aim ≡ a → length w.left ≡ n → Suits a (round.Finalize 0 0) → Turned a n (after_finalize a end w)
finalize_turn aim.Close n end w e l s = ends aim.Close n (outcome.Close end) w e l tt
finalize_turn aim.Takeover n end w e l s = goes aim.Takeover n round.Start (record w { start = end + 1 }) e l tt
finalize_turn aim.Roll n end w e l s = goes aim.Roll n round.Start (record w { start = end + 1 }) e l tt
finalize_turn aim.Log n end w e l s = absurd s
finalize_turn aim.Purge n end w e l s = absurd s

open_turn : (a : Aim) (n : ℕ) (w : WriterView) → w.aim ≡ a → length w.left ≡ n → Suits a round.Open → Turned a n (after_open a w)
open_turn aim.Roll n w e l s = ends aim.Roll n (outcome.Roll w.start) w e l tt
open_turn aim.Takeover n w e l s = ends aim.Takeover n (outcome.Takeover w.epoch w.start) w e l tt
open_turn aim.Close n w e l s = absurd s
open_turn aim.Log n w e l s = absurd s
open_turn aim.Purge n w e l s = absurd s

write_turn : (a : Aim) (n first last : ℕ) (w : WriterView) → w.aim ≡ a → length w.left ≡ n → Suits a (round.Write []) → Turned a n (after_write a first last w)
write_turn aim.Roll n first last w e l s = goes_others aim.Roll n (round.Finalize w.start last) w e l tt
write_turn aim.Close n first last w e l s = goes_others aim.Close n (round.Finalize w.start last) w e l tt
write_turn aim.Log n first last w e l s = ends aim.Log n (outcome.Log first last) w e l tt
write_turn aim.Takeover n first last w e l s = absurd s
write_turn aim.Purge n first last w e l s = absurd s

by_aim : (a : Aim) (n : ℕ) (w : WriterView) (f : Aim → Judgment) → w.aim ≡ a → Turned a n (f a) → Turned a n (f w.aim)
by_aim a n w f e h = subst (λ (x : Aim). Turned a n (f x)) (sym e) h

takes : (a : Aim) (n : ℕ) (j : Judgment) → a ≡ aim.Takeover → Turned aim.Takeover n j → Turned a n j
takes a n j e h = subst (λ (x : Aim). Turned x n j) (sym e) h

-- only a takeover asks for these
takeover_only : (a : Aim) (r : Round) → Suits a r → (Suits aim.Roll r → ⊥) → (Suits aim.Log r → ⊥) → (Suits aim.Close r → ⊥) → (Suits aim.Purge r → ⊥) → a ≡ aim.Takeover
takeover_only aim.Takeover r s b c d e = refl
takeover_only aim.Roll r s b c d e = absurd (b s)
takeover_only aim.Log r s b c d e = absurd (c s)
takeover_only aim.Close r s b c d e = absurd (d s)
takeover_only aim.Purge r s b c d e = absurd (e s)

start_suits : (a : Aim) → Suits a round.Start → Suits a round.Open
start_suits aim.Takeover s = tt
start_suits aim.Roll s = tt
start_suits aim.Log s = absurd s
start_suits aim.Close s = absurd s
start_suits aim.Purge s = absurd s

finalizes : (a : Aim) (start end : ℕ) → Suits a (round.Finalize start end) → Suits a (round.Finalize 0 0)
finalizes aim.Takeover start end s = tt
finalizes aim.Roll start end s = tt
finalizes aim.Close start end s = tt
finalizes aim.Log start end s = absurd s
finalizes aim.Purge start end s = absurd s

writes : (a : Aim) (bodies : List (List ℕ)) → Suits a (round.Write bodies) → Suits a (round.Write [])
writes aim.Roll bodies s = tt
writes aim.Close bodies s = tt
writes aim.Log bodies s = tt
writes aim.Takeover bodies s = absurd s
writes aim.Purge bodies s = absurd s

purge_turn : (a : Aim) (n min : ℕ) (w : WriterView) → w.aim ≡ a → length w.left ≡ n → Suits a (round.Purge min) → Turned a n (ends_with phase.Writing outcome.Purge (next_serial w))
purge_turn aim.Purge n min w e l s = ends aim.Purge n outcome.Purge (next_serial w) e l tt
purge_turn aim.Takeover n min w e l s = absurd s
purge_turn aim.Roll n min w e l s = absurd s
purge_turn aim.Close n min w e l s = absurd s
purge_turn aim.Log n min w e l s = absurd s

done_turn : (a : Aim) (n : ℕ) (r : Round) (w : WriterView) → w.aim ≡ a → length w.left ≡ n → length w.slots ≡ n → Suits a r → Turned a n (after_round r w)
done_turn a n round.State w e l z s =
    let t : a ≡ aim.Takeover = takeover_only a round.State s (λ x. x) (λ x. x) (λ x. x) (λ x. x) in
    takes a n (after_round round.State w) t (state_by (nat_lt (greatest_promise w.slots) max_number) n (greatest_promise w.slots) w (e ∙ t) l)
done_turn a n round.Propose w e l z s =
    let t : a ≡ aim.Takeover = takeover_only a round.Propose s (λ x. x) (λ x. x) (λ x. x) (λ x. x) in
    takes a n (after_round round.Propose w) t (propose_turn n (greatest_newest w.slots) (next_serial w) (e ∙ t) l)
done_turn a n (round.Prepare start) w e l z s =
    let t : a ≡ aim.Takeover = takeover_only a (round.Prepare start) s (λ x. x) (λ x. x) (λ x. x) (λ x. x) in
    takes a n (after_round (round.Prepare start) w) t (recovering_turn n start (best_of start w.slots) (next_serial w) (e ∙ t) l)
done_turn a n (round.Fetch node start end bodies) w e l z s =
    let t : a ≡ aim.Takeover = takeover_only a (round.Fetch node start end bodies) s (λ x. x) (λ x. x) (λ x. x) (λ x. x) in
    takes a n (after_round (round.Fetch node start end bodies) w) t (recovering_turn n start (best_of start w.slots) (next_serial w) (e ∙ t) l)
done_turn a n (round.Accept batch) w e l z s =
    let t : a ≡ aim.Takeover = takeover_only a (round.Accept batch) s (λ x. x) (λ x. x) (λ x. x) (λ x. x) in
    takes a n (after_round (round.Accept batch) w) t (goes_others aim.Takeover n (round.Finalize batch.first (last_txid batch)) (record (next_serial w) { committed = last_txid batch }) (e ∙ t) l tt)
done_turn a n (round.Finalize start end) w e l z s = by_aim a n w (λ x. after_finalize x end (next_serial w)) e (finalize_turn a n end (next_serial w) e l (finalizes a start end s))
done_turn a n round.Start w e l z s =
    goes_others a n round.Open (record (next_serial w) { left = left_out_after round.Start w.slots }) e (length-map w.slots _ ∙ z) (start_suits a s)
done_turn a n round.Open w e l z s =
    let next : WriterView = record (next_serial w) { committed = w.start; next = w.start + 1; left = left_out_after round.Open w.slots } in
    by_aim a n w (λ x. after_open x next) e (open_turn a n next e (length-map w.slots _ ∙ z) s)
done_turn a n (round.Write bodies) w e l z s =
    let last : ℕ = w.next + length bodies - 1 in
    let next : WriterView = record (next_serial w) { committed = last; next = last + 1; left = left_out_after (round.Write bodies) w.slots } in
    by_aim a n w (λ x. after_write x w.next last next) e (write_turn a n w.next last next e (length-map w.slots _ ∙ z) (writes a bodies s))
done_turn a n (round.Purge min) w e l z s = purge_turn a n min w e l s

-- ## A round that was heard whole
judged_turn : (a : Aim) (n : ℕ) (b : Bool) (r : Round) (w : WriterView) → w.aim ≡ a → length w.left ≡ n → length w.slots ≡ n → Suits a r → Turned a n (judgment_by b r w)
judged_turn a n true r w e l z s = done_turn a n r (with_causes r w) e l z s
judged_turn a n false r w e l z s = record { aim = e; left = l; suits = tt; turn = refl }

round_turn : (a : Aim) (n : ℕ) (b : Bool) (r : Round) (w : WriterView) → w.aim ≡ a → length w.left ≡ n → length w.slots ≡ n → Suits a r → w.phase ≡ phase.InRound r → Turned a n (judgment_when b r w)
unfolding judgment
round_turn a n true r w e l z s same = record {
  aim = e;
  left = l;
  suits = subst (λ (x : Phase). SuitsIn a x) (sym same) s;
  turn = subst (λ (x : Phase). IsInRound x) (sym same) tt;
}
round_turn a n false r w e l z s same = judged_turn a n (numbers_fit w r && has_majority r w.slots) r w e l z s

-- ## A piece that was fetched
fetches : (a : Aim) (node start end : ℕ) (bodies : List (List ℕ)) → Suits a (round.Fetch node start end bodies) → a ≡ aim.Takeover
fetches a node start end bodies s = takeover_only a (round.Fetch node start end bodies) s (λ x. x) (λ x. x) (λ x. x) (λ x. x)

pieced_turn : (n : ℕ) (b : Bool) (node start end : ℕ) (bodies : List (List ℕ)) (w : WriterView) → w.aim ≡ aim.Takeover → length w.left ≡ n
    → Turned aim.Takeover n (keep_going (cond b (asks_all (round.Accept (batch_from start bodies)) w) (record w { phase = phase.InRound (round.Fetch node start end bodies) })))
pieced_turn n true node start end bodies w e l = goes aim.Takeover n (round.Accept (batch_from start bodies)) w e l tt
pieced_turn n false node start end bodies w e l = record { aim = e; left = l; suits = tt; turn = tt }

missing_turn : (n node start : ℕ) (heard : Heard) (w : WriterView) → w.aim ≡ aim.Takeover → length w.left ≡ n → length w.slots ≡ n → Turned aim.Takeover n (after_no_edits node start heard w)
missing_turn n node start heard w e l z =
    judged_turn aim.Takeover n (has_majority (round.Prepare start) (without_answer_of node heard w).slots) (round.Prepare start)
    (without_answer_of node heard w) e l (length-set w.slots (node - 1) _ ∙ z) tt

edits_turn : (n : ℕ) (b : Bool) (node start end : ℕ) (bodies : List (List ℕ)) (batch : BatchView) (w : WriterView) → w.aim ≡ aim.Takeover → length w.left ≡ n → length w.slots ≡ n
    → Turned aim.Takeover n (after_edits b node start end bodies batch w)
edits_turn n true node start end bodies batch w e l z =
    let more : List (List ℕ) = bodies ++ take (end + 1 - (start + length bodies)) batch.bodies in
    pieced_turn n (nat_lt end (start + length more)) node start end more (next_serial w) e l
edits_turn n false node start end bodies batch w e l z = missing_turn n node start Silent w e l z

fetched_turn : (n node start end : ℕ) (bodies : List (List ℕ)) (heard : Heard) (w : WriterView) → w.aim ≡ aim.Takeover → length w.left ≡ n → length w.slots ≡ n
    → Turned aim.Takeover n (after_fetch node start end bodies heard w)
unfolding after_fetch
fetched_turn n node start end bodies (Answer (reply.Edits batch)) w e l z =
    edits_turn n (numbers_fit w (round.Fetch node start end bodies) && fits_edits (start + length bodies) batch) node start end bodies batch w e l z
fetched_turn n node start end bodies Silent w e l z = missing_turn n node start Silent w e l z
fetched_turn n node start end bodies (Answer answer) w e l z = missing_turn n node start (Answer answer) w e l z

-- ## An answer
in_turn : (a : Aim) (n : ℕ) (r : Round) (w : WriterView) (node : ℕ) (heard : Heard) → w.aim ≡ a → length w.left ≡ n → length w.slots ≡ n → Suits a r
    → w.phase ≡ phase.InRound r → Turned a n (heard_in r w node heard)
in_turn a n (round.Fetch from start end bodies) w node heard e l z s p =
    let t : a ≡ aim.Takeover = fetches a from start end bodies s in
    takes a n (after_fetch from start end bodies heard w) t (fetched_turn n from start end bodies heard w (e ∙ t) l z)
in_turn a n round.State w node heard e l z s p = round_turn a n (list_any is_waiting (with_answer w node heard).slots) round.State
    (with_answer w node heard) e l (length-set w.slots (node - 1) _ ∙ z) s p
in_turn a n round.Propose w node heard e l z s p = round_turn a n (list_any is_waiting (with_answer w node heard).slots) round.Propose
    (with_answer w node heard) e l (length-set w.slots (node - 1) _ ∙ z) s p
in_turn a n (round.Prepare start) w node heard e l z s p = round_turn a n (list_any is_waiting (with_answer w node heard).slots) (round.Prepare start)
    (with_answer w node heard) e l (length-set w.slots (node - 1) _ ∙ z) s p
in_turn a n (round.Accept batch) w node heard e l z s p = round_turn a n (list_any is_waiting (with_answer w node heard).slots) (round.Accept batch)
    (with_answer w node heard) e l (length-set w.slots (node - 1) _ ∙ z) s p
in_turn a n (round.Finalize start end) w node heard e l z s p = round_turn a n (list_any is_waiting (with_answer w node heard).slots)
    (round.Finalize start end) (with_answer w node heard) e l (length-set w.slots (node - 1) _ ∙ z) s p
in_turn a n round.Start w node heard e l z s p = round_turn a n (list_any is_waiting (with_answer w node heard).slots) round.Start
    (with_answer w node heard) e l (length-set w.slots (node - 1) _ ∙ z) s p
in_turn a n round.Open w node heard e l z s p = round_turn a n (list_any is_waiting (with_answer w node heard).slots) round.Open
    (with_answer w node heard) e l (length-set w.slots (node - 1) _ ∙ z) s p
in_turn a n (round.Write bodies) w node heard e l z s p = round_turn a n (list_any is_waiting (with_answer w node heard).slots) (round.Write bodies)
    (with_answer w node heard) e l (length-set w.slots (node - 1) _ ∙ z) s p
in_turn a n (round.Purge min) w node heard e l z s p = round_turn a n (list_any is_waiting (with_answer w node heard).slots) (round.Purge min)
    (with_answer w node heard) e l (length-set w.slots (node - 1) _ ∙ z) s p

at_turn : (a : Aim) (n : ℕ) (p : Phase) (w : WriterView) (node : ℕ) (heard : Heard) → w.phase ≡ p → w.aim ≡ a → length w.left ≡ n → length w.slots ≡ n → SuitsIn a p → IsInRound p
    → Turned a n (heard_at p w node heard)
at_turn a n (phase.InRound r) w node heard same e l z s i = in_turn a n r w node heard e l z s same
at_turn a n phase.Idle w node heard same e l z s i = absurd i
at_turn a n phase.Writing w node heard same e l z s i = absurd i
at_turn a n phase.Stopped w node heard same e l z s i = absurd i

pub heard_turn : (w : WriterView) (node : ℕ) (heard : Heard) → IsApt w → length w.left ≡ length w.slots → IsInRound w.phase → Turned w.aim (length w.left) (writer_heard w node heard)
unfolding writer_heard
heard_turn w node heard s z i = at_turn w.aim (length w.left) w.phase w node heard refl refl refl (sym z) s i

-- ## A task begins
-- it is under way with its aim, or was refused and left the writer as it was
pub record Begins (t : Task) (w : WriterView) (b : Began) : Type 0 where
  pub left : length b.writer.left ≡ length w.left
  pub apt : IsApt w → IsApt b.writer
  pub aim : b.begun ≡ begun.Going → b.writer.aim ≡ aim_of t
  pub under_way : b.begun ≡ begun.Going → IsInRound b.writer.phase
  pub refused : b.begun ≢ begun.Going → b.writer ≡ w

begins_going : (t : Task) (w v : WriterView) → length v.left ≡ length w.left → v.aim ≡ aim_of t → IsInRound v.phase → SuitsIn v.aim v.phase → Begins t w (record { writer = v; begun = begun.Going })
begins_going t w v l e i s = record { left = l; apt = λ h. s; aim = λ h. e; under_way = λ h. i; refused = λ h. absurd (h refl) }

if_begins : (t : Task) (b : Bool) (x : Began) (w : WriterView) → Begins t w x → Begins t w (if_writing b x w)
if_begins t true x w h = h
if_begins t false x w h = record { left = refl; apt = λ s. s; aim = λ e. cc; under_way = λ e. cc; refused = λ e. refl }

log_begins_turn : (o : Option ℕ) (bodies : List (List ℕ)) (w : WriterView) → Begins (task.Log bodies) w (log_begins o bodies w)
log_begins_turn (Some number) bodies w = record { left = refl; apt = λ s. s; aim = λ e. cc; under_way = λ e. cc; refused = λ e. refl }
log_begins_turn None bodies w = begins_going (task.Log bodies) w (asks_others (round.Write bodies) (record w { aim = aim.Log })) refl refl tt tt

pub begun_turn : (t : Task) (w : WriterView) → Begins t w (writer_begun w t)
unfolding writer_begun
begun_turn task.Takeover w = begins_going task.Takeover w (asks_all round.State (record w { aim = aim.Takeover; left = none_left_out w.left })) (length-map w.left _) refl tt tt
begun_turn (task.Log bodies) w = if_begins (task.Log bodies) (is_writing w.phase) (log_begins (log_limit w bodies) bodies w) w (log_begins_turn (log_limit w bodies) bodies w)
begun_turn task.Roll w = if_begins task.Roll (is_writing w.phase) _ w (begins_going task.Roll w (asks_others (round.Write end_record) (record w { aim = aim.Roll })) refl refl tt tt)
begun_turn task.Close w = if_begins task.Close (is_writing w.phase) _ w (begins_going task.Close w (asks_others (round.Write end_record) (record w { aim = aim.Close })) refl refl tt tt)
begun_turn (task.Purge min) w = if_begins (task.Purge min) (is_writing w.phase) _ w (begins_going (task.Purge min) w (asks_all (round.Purge min) (record w { aim = aim.Purge })) refl refl tt tt)
