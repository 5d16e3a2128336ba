-- What an answer leaves a writer in: the same round, the round of proposals after that of states, a
-- later one, or none.
use Rattle.std.proofs.Common.{◌≡◌, ℕ, ◌+◌, ◌-◌, List, ◌++◌, Bool, true, false, cond, refl, ◌∙◌, length, take, ◌⊎◌, inl, inr}
use Rattle.std.proofs.lemmas.Bool.{and_parts}
use Rattle.std.specs.Prelude.{Option, Some, None, ◌≢◌, ◌&&◌, nat_lt}
use Rattle.std.specs.List.{list_any}
use Rattle.journal_core.specs.Views.{BatchView}
use Rattle.journal_core.specs.Limits.{max_number}
use Rattle.journal_core.specs.declared.reply.Reply.TheVariants as reply
use Rattle.journal_core.specs.declared.heard.Heard.{Heard}
use Rattle.journal_core.specs.declared.heard.Heard.TheVariants.{Answer, Silent}
use Rattle.writer_core.specs.declared.round.Round.{Round}
use Rattle.writer_core.specs.declared.round.Round.TheVariants as round
use Rattle.writer_core.specs.declared.phase.Phase.{Phase}
use Rattle.writer_core.specs.declared.phase.Phase.TheVariants as phase
use Rattle.writer_core.specs.declared.phase.Aim.{Aim}
use Rattle.writer_core.specs.declared.phase.Aim.TheVariants as aim
use Rattle.writer_core.specs.Views.{WriterView}
use Rattle.writer_core.specs.Answers.{is_waiting, has_majority, fits_edits}
use Rattle.writer_core.specs.Best.{Best, best_of, greatest_promise, greatest_newest}
use Rattle.writer_core.specs.Rounds.{numbers_fit, keep_going, stops_with, begin_propose, after_round, with_causes, judgment_by, judgment}
use Rattle.writer_core.specs.Rounds.{without_answer_of, after_fetch, after_propose, begin_recovery, after_finalize, after_open, after_write}
use Rattle.writer_core.specs.Rounds.{after_edits, after_no_edits, next_serial, left_out_after, to_all, asks_all, batch_from}
use Rattle.writer_core.specs.Writer.{with_answer, judgment_when, heard_in, heard_at, writer_heard}
use Rattle.writer_core.specs.declared.turn.Turn.TheVariants as turn

-- a round with a head
abbrev pub IsLaterRound : Round → Type 0
IsLaterRound round.State = ⊥
IsLaterRound round.Propose = ⊥
IsLaterRound _ = Unit {0}

abbrev pub IsLater : Phase → Type 0
IsLater (phase.InRound r) = IsLaterRound r
IsLater phase.Writing = Unit {0}
IsLater phase.Idle = Unit {0}
IsLater phase.Stopped = Unit {0}

-- the proposals were done
abbrev pub IsDone : WriterView → ℕ → Heard → Round → Type 0
IsDone w k h r = (r ≡ round.Propose) × (has_majority round.Propose (with_answer w k h).slots ≡ true)

pub data Next (w : WriterView) (k : ℕ) (h : Heard) : WriterView → Type 0 where
  Stays : (r : Round) → w.phase ≡ phase.InRound r → Next w k h (with_answer w k h)
  Proposes : (v : WriterView) → w.phase ≡ phase.InRound round.State → v.phase ≡ phase.InRound round.Propose → v.slots ≡ to_all v.left → Next w k h v
  Stops : (v : WriterView) → v.phase ≡ phase.Stopped → Next w k h v
  Goes : (v : WriterView) (r : Round) → w.phase ≡ phase.InRound r → IsLaterRound r ⊎ IsDone w k h r → v.epoch ≡ w.epoch → IsLater v.phase → Next w k h v

-- a later round, from a later one or from the proposals
pub record Later (w v : WriterView) : Type 0 where
  pub epoch : v.epoch ≡ w.epoch
  pub phase : IsLater v.phase

pub later : (w : WriterView) (k : ℕ) (h : Heard) (v : WriterView) (r : Round) → w.phase ≡ phase.InRound r → IsLaterRound r ⊎ IsDone w k h r → Later w v → Next w k h v
later w k h v r p d l = Goes v r p d l.epoch l.phase

-- ## What follows a round that was done
propose_later : (o : Option ℕ) (w : WriterView) → Later w (after_propose o w)
propose_later None w = record { epoch = refl; phase = tt }
propose_later (Some start) w = record { epoch = refl; phase = tt }

recovering_later : (start : ℕ) (o : Option Best) (w : WriterView) → Later w (begin_recovery start o w)
recovering_later start None w = record { epoch = refl; phase = tt }
recovering_later start (Some b) w = record { epoch = refl; phase = tt }

finalize_later : (a : Aim) (end : ℕ) (w : WriterView) → Later w (after_finalize a end w).writer
finalize_later aim.Close end w = record { epoch = refl; phase = tt }
finalize_later aim.Takeover end w = record { epoch = refl; phase = tt }
finalize_later aim.Log end w = record { epoch = refl; phase = tt }
finalize_later aim.Roll end w = record { epoch = refl; phase = tt }
finalize_later aim.Purge end w = record { epoch = refl; phase = tt }

open_later : (a : Aim) (w : WriterView) → Later w (after_open a w).writer
open_later aim.Close w = record { epoch = refl; phase = tt }
open_later aim.Takeover w = record { epoch = refl; phase = tt }
open_later aim.Log w = record { epoch = refl; phase = tt }
open_later aim.Roll w = record { epoch = refl; phase = tt }
open_later aim.Purge w = record { epoch = refl; phase = tt }

write_later : (a : Aim) (first last : ℕ) (w : WriterView) → Later w (after_write a first last w).writer
write_later aim.Close first last w = record { epoch = refl; phase = tt }
write_later aim.Takeover first last w = record { epoch = refl; phase = tt }
write_later aim.Log first last w = record { epoch = refl; phase = tt }
write_later aim.Roll first last w = record { epoch = refl; phase = tt }
write_later aim.Purge first last w = record { epoch = refl; phase = tt }

along : (w u v : WriterView) → u.epoch ≡ w.epoch → Later u v → Later w v
along w u v e l = record { epoch = l.epoch ∙ e; phase = l.phase }

done_later : (r : Round) (w : WriterView) → r ≢ round.State → Later w (after_round r w).writer
done_later round.State w off = absurd (off refl)
done_later round.Propose w off = along w (next_serial w) _ refl (propose_later (greatest_newest w.slots) (next_serial w))
done_later (round.Prepare start) w off = along w (next_serial w) _ refl (recovering_later start (best_of start w.slots) (next_serial w))
done_later (round.Fetch node start end bodies) w off = along w (next_serial w) _ refl (recovering_later start (best_of start w.slots) (next_serial w))
done_later (round.Accept batch) w off = record { epoch = refl; phase = tt }
done_later (round.Finalize start end) w off = along w (next_serial w) _ refl (finalize_later w.aim end (next_serial w))
done_later round.Start w off = record { epoch = refl; phase = tt }
done_later round.Open w off =
    let u : WriterView = record (next_serial w) { committed = w.start; next = w.start + 1; left = left_out_after round.Open w.slots } in
    along w u _ refl (open_later w.aim u)
done_later (round.Write bodies) w off =
    let last : ℕ = w.next + length bodies - 1 in
    let u : WriterView = record (next_serial w) { committed = last; next = last + 1; left = left_out_after (round.Write bodies) w.slots } in
    along w u _ refl (write_later w.aim w.next last u)
done_later (round.Purge min) w off = record { epoch = refl; phase = tt }

-- ## A round that was heard whole
state_by : (b : Bool) (told : ℕ) (w u : WriterView) (k : ℕ) (h : Heard) → w.phase ≡ phase.InRound round.State
    → Next w k h (cond b (keep_going (begin_propose told u)) (stops_with (turn.EpochLimit told) u)).writer
state_by true told w u k h p = Proposes _ p refl refl
state_by false told w u k h p = Stops _ refl

state_next : (b : Bool) (w : WriterView) (k : ℕ) (h : Heard) → w.phase ≡ phase.InRound round.State → Next w k h (judgment_by b round.State (with_answer w k h)).writer
state_next true w k h p = let u : WriterView = with_causes round.State (with_answer w k h) in state_by (nat_lt (greatest_promise u.slots) max_number) (greatest_promise u.slots) w u k h p
state_next false w k h p = Stops _ refl

judged_next : (b : Bool) (r s : Round) (w u : WriterView) (k : ℕ) (h : Heard) → w.phase ≡ phase.InRound s → r ≢ round.State → u.epoch ≡ w.epoch
    → (b ≡ true → IsLaterRound s ⊎ IsDone w k h s) → Next w k h (judgment_by b r u).writer
judged_next true r s w u k h p off e d = later w k h _ s p (d refl) (along w (with_causes r u) _ e (done_later r (with_causes r u) off))
judged_next false r s w u k h p off e d = Stops _ refl

round_next : (b : Bool) (r : Round) (w : WriterView) (k : ℕ) (h : Heard) → w.phase ≡ phase.InRound r → r ≢ round.State
    → (has_majority r (with_answer w k h).slots ≡ true → IsLaterRound r ⊎ IsDone w k h r) → Next w k h (judgment_when b r (with_answer w k h)).writer
unfolding judgment
round_next true r w k h p off d = Stays r p
round_next false r w k h p off d =
    judged_next (numbers_fit (with_answer w k h) r && has_majority r (with_answer w k h).slots) r r w (with_answer w k h) k h p off refl
    (λ e. d (and_parts (numbers_fit (with_answer w k h) r) (has_majority r (with_answer w k h).slots) e).1)

state_round : (b : Bool) (w : WriterView) (k : ℕ) (h : Heard) → w.phase ≡ phase.InRound round.State → Next w k h (judgment_when b round.State (with_answer w k h)).writer
unfolding judgment
state_round true w k h p = Stays round.State p
state_round false w k h p = state_next (numbers_fit (with_answer w k h) round.State && has_majority round.State (with_answer w k h).slots) w k h p

-- ## A piece that was fetched
pieced_by : (b : Bool) (node start end : ℕ) (bodies : List (List ℕ)) (u w : WriterView) → u.epoch ≡ w.epoch
    → Later w (cond b (asks_all (round.Accept (batch_from start bodies)) u) (record u { phase = phase.InRound (round.Fetch node start end bodies) }))
pieced_by true node start end bodies u w e = record { epoch = e; phase = tt }
pieced_by false node start end bodies u w e = record { epoch = e; phase = tt }

missing_next : (node start : ℕ) (heard : Heard) (w : WriterView) (k : ℕ) (h : Heard) (s : Round) → w.phase ≡ phase.InRound s → IsLaterRound s → Next w k h (after_no_edits node start heard w).writer
missing_next node start heard w k h s p l =
    judged_next (has_majority (round.Prepare start) (without_answer_of node heard w).slots) (round.Prepare start) s w (without_answer_of node heard w)
    k h p (λ (x : round.Prepare start ≡ round.State). cc x) refl (λ e. inl l)

edits_next : (b : Bool) (node start end : ℕ) (bodies : List (List ℕ)) (batch : BatchView) (w : WriterView) (k : ℕ) (h : Heard) (s : Round)
    → w.phase ≡ phase.InRound s → IsLaterRound s → Next w k h (after_edits b node start end bodies batch w).writer
edits_next true node start end bodies batch w k h s p l =
    let more : List (List ℕ) = bodies ++ take (end + 1 - (start + length bodies)) batch.bodies in
    later w k h _ s p (inl l) (pieced_by (nat_lt end (start + length more)) node start end more (next_serial w) w refl)
edits_next false node start end bodies batch w k h s p l = missing_next node start Silent w k h s p l

fetched_next : (node start end : ℕ) (bodies : List (List ℕ)) (w : WriterView) (k : ℕ) (h : Heard) (s : Round) → w.phase ≡ phase.InRound s
    → IsLaterRound s → Next w k h (after_fetch node start end bodies h w).writer
unfolding after_fetch
fetched_next node start end bodies w k (Answer (reply.Edits batch)) s p l =
    edits_next (numbers_fit w (round.Fetch node start end bodies) && fits_edits (start + length bodies) batch) node start end bodies batch w k
    (Answer (reply.Edits batch)) s p l
fetched_next node start end bodies w k (Answer reply.Ok) s p l = missing_next node start (Answer reply.Ok) w k (Answer reply.Ok) s p l
fetched_next node start end bodies w k (Answer (reply.State promised)) s p l = missing_next node start (Answer (reply.State promised)) w k (Answer (reply.State promised)) s p l
fetched_next node start end bodies w k (Answer (reply.NewEpoch newest)) s p l = missing_next node start (Answer (reply.NewEpoch newest)) w k (Answer (reply.NewEpoch newest)) s p l
fetched_next node start end bodies w k (Answer (reply.Prepared a b c)) s p l = missing_next node start (Answer (reply.Prepared a b c)) w k (Answer (reply.Prepared a b c)) s p l
fetched_next node start end bodies w k (Answer (reply.Segments lines)) s p l = missing_next node start (Answer (reply.Segments lines)) w k (Answer (reply.Segments lines)) s p l
fetched_next node start end bodies w k (Answer (reply.Refused refusal)) s p l = missing_next node start (Answer (reply.Refused refusal)) w k (Answer (reply.Refused refusal)) s p l
fetched_next node start end bodies w k Silent s p l = missing_next node start Silent w k Silent s p l

-- ## An answer
in_next : (r : Round) (w : WriterView) (k : ℕ) (h : Heard) → w.phase ≡ phase.InRound r → Next w k h (heard_in r w k h).writer
in_next (round.Fetch node start end bodies) w k h p = fetched_next node start end bodies w k h (round.Fetch node start end bodies) p tt
in_next round.State w k h p = state_round (list_any is_waiting (with_answer w k h).slots) w k h p
in_next round.Propose w k h p = round_next (list_any is_waiting (with_answer w k h).slots) round.Propose w k h p (λ (x : round.Propose ≡ round.State). cc x) (λ e. inr (refl, e))
in_next (round.Prepare start) w k h p = round_next (list_any is_waiting (with_answer w k h).slots) (round.Prepare start) w k h p (λ (x : round.Prepare start ≡ round.State). cc x) (λ e. inl tt)
in_next (round.Accept batch) w k h p = round_next (list_any is_waiting (with_answer w k h).slots) (round.Accept batch) w k h p (λ (x : round.Accept batch ≡ round.State). cc x) (λ e. inl tt)
in_next (round.Finalize start end) w k h p = round_next (list_any is_waiting (with_answer w k h).slots) (round.Finalize start end) w k h p
    (λ (x : round.Finalize start end ≡ round.State). cc x) (λ e. inl tt)
in_next round.Start w k h p = round_next (list_any is_waiting (with_answer w k h).slots) round.Start w k h p (λ (x : round.Start ≡ round.State). cc x) (λ e. inl tt)
in_next round.Open w k h p = round_next (list_any is_waiting (with_answer w k h).slots) round.Open w k h p (λ (x : round.Open ≡ round.State). cc x) (λ e. inl tt)
in_next (round.Write bodies) w k h p = round_next (list_any is_waiting (with_answer w k h).slots) (round.Write bodies) w k h p (λ (x : round.Write bodies ≡ round.State). cc x) (λ e. inl tt)
in_next (round.Purge min) w k h p = round_next (list_any is_waiting (with_answer w k h).slots) (round.Purge min) w k h p (λ (x : round.Purge min ≡ round.State). cc x) (λ e. inl tt)

at_next : (p : Phase) (r : Round) (w : WriterView) (k : ℕ) (h : Heard) → w.phase ≡ p → p ≡ phase.InRound r → Next w k h (heard_at p w k h).writer
at_next (phase.InRound s) r w k h e f = in_next s w k h e
at_next phase.Idle r w k h e f = absurd (cc f)
at_next phase.Writing r w k h e f = absurd (cc f)
at_next phase.Stopped r w k h e f = absurd (cc f)

pub next_of : (w : WriterView) (r : Round) (k : ℕ) (h : Heard) → w.phase ≡ phase.InRound r → Next w k h (writer_heard w k h).writer
unfolding writer_heard
next_of w r k h e = at_next w.phase r w k h refl e
