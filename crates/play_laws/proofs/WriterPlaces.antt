-- Where a writer stands while it does a task, after so many entries of the line: which entries each
-- round of a task follows, and what an outcome leaves. The line is any list of entries on which
-- each journal round that is done puts its bodies.
use Rattle.std.proofs.Common.{◌≡◌, ℕ, ◌+◌, ◌-◌, List, [], ◌∷◌, ◌++◌, Bool, true, false, cond, refl, sym, ap, subst, arith, length, take}
use Rattle.std.specs.Prelude.{Option, Some, None, ◌&&◌, nat_lt}
use Rattle.std.specs.List.{list_any}
use Rattle.std.proofs.lemmas.Bool.{and_parts}
use Rattle.journal_core.specs.Views.{BatchView}
use Rattle.journal_core.specs.Limits.{max_number}
use Rattle.journal_core.specs.declared.reply.Reply.TheVariants as reply
use Rattle.journal_core.specs.declared.heard.Heard.{Heard}
use Rattle.journal_core.specs.declared.heard.Heard.TheVariants.{Answer, Silent}
use Rattle.writer_core.specs.declared.round.Round.{Round}
use Rattle.writer_core.specs.declared.round.Round.TheVariants as round
use Rattle.writer_core.specs.declared.phase.Phase.{Phase}
use Rattle.writer_core.specs.declared.phase.Phase.TheVariants as phase
use Rattle.writer_core.specs.declared.phase.Aim.{Aim}
use Rattle.writer_core.specs.declared.phase.Aim.TheVariants as aim
use Rattle.writer_core.specs.declared.turn.Turn.{Turn}
use Rattle.writer_core.specs.declared.turn.Turn.TheVariants as turn
use Rattle.writer_core.specs.declared.turn.Outcome.{Outcome}
use Rattle.writer_core.specs.declared.turn.Outcome.TheVariants as outcome
use Rattle.writer_core.specs.Views.{WriterView}
use Rattle.writer_core.specs.Answers.{is_waiting, has_majority, fits_edits}
use Rattle.writer_core.specs.Best.{Best, best_of, greatest_promise, greatest_newest}
use Rattle.writer_core.specs.Rounds.{numbers_fit, Judgment, keep_going, stops_with, after_round, with_causes, judgment_by, judgment, after_fetch}
use Rattle.writer_core.specs.Rounds.{begin_propose, after_propose, begin_recovery, after_finalize, after_open, after_write, after_edits}
use Rattle.writer_core.specs.Rounds.{after_no_edits, without_answer_of, next_serial, left_out_after, asks_all, batch_from, end_record}
use Rattle.writer_core.specs.Writer.{with_answer, judgment_when, heard_in, heard_at, writer_heard}
use Rattle.play_model.specs.Safe.{AllOn}
use Rattle.writer_core.specs.Turns.{Suits, IsInRound}
use Rattle.play_model.proofs.WriterTurns.{Course, InCourse}

module _ (L : ℕ → List ℕ → Type 0) where
  -- ## After p entries of the line
  abbrev pub RoundPlace : ℕ → Aim → Round → WriterView → Type 0
  RoundPlace p aim.Takeover r w = Unit {0}
  RoundPlace p aim.Log r w = w.next ≡ p + 1
  RoundPlace p aim.Purge r w = w.next ≡ p + 1
  RoundPlace p aim.Roll (round.Write bodies) w = (bodies ≡ end_record) × (w.next ≡ p + 1)
  RoundPlace p aim.Roll (round.Finalize start end) w = (end ≡ p + 1) × L (p + 1) (23 ∷ [])
  RoundPlace p aim.Roll r w = (w.start ≡ p + 2) × L (p + 1) (23 ∷ [])
  RoundPlace p aim.Close (round.Write bodies) w = (bodies ≡ end_record) × (w.next ≡ p + 1)
  RoundPlace p aim.Close (round.Finalize start end) w = (end ≡ p + 1) × L (p + 1) (23 ∷ [])
  RoundPlace p aim.Close r w = Unit {0}

  abbrev pub PhasePlace : ℕ → Aim → Phase → WriterView → Type 0
  PhasePlace p a (phase.InRound r) w = RoundPlace p a r w
  PhasePlace p a _ w = Unit {0}

  -- what an outcome leaves; a log was of these bodies
  abbrev pub OutcomePlace : ℕ → List (List ℕ) → Outcome → WriterView → Type 0
  OutcomePlace p bodies (outcome.Takeover epoch first) w = (w.phase ≡ phase.Writing) × (w.start ≡ first) × (w.next ≡ first + 1) × L first (24 ∷ []) × (w.epoch ≡ epoch)
  OutcomePlace p bodies (outcome.Log first last) w = (w.phase ≡ phase.Writing) × (w.next ≡ last + 1) × (last ≡ p + length bodies) × AllOn L p bodies × (first ≡ p + 1)
  OutcomePlace p bodies (outcome.Roll start) w = (w.phase ≡ phase.Writing) × (w.next ≡ start + 1) × (start ≡ p + 2) × L (p + 1) (23 ∷ []) × L (p + 2) (24 ∷ [])
  OutcomePlace p bodies (outcome.Close last) w = (w.phase ≡ phase.Idle) × (last ≡ p + 1) × L (p + 1) (23 ∷ [])
  OutcomePlace p bodies outcome.Purge w = (w.phase ≡ phase.Writing) × (w.next ≡ p + 1)

  -- a log task has one round
  abbrev pub IsLogOf : List (List ℕ) → Aim → Round → Type 0
  IsLogOf bodies aim.Log (round.Write b) = b ≡ bodies
  IsLogOf bodies _ _ = Unit {0}

  abbrev pub IsLogIn : List (List ℕ) → Aim → Phase → Type 0
  IsLogIn bodies a (phase.InRound r) = IsLogOf bodies a r
  IsLogIn bodies a _ = Unit {0}

  abbrev pub TurnPlace : ℕ → List (List ℕ) → Aim → Turn → WriterView → Type 0
  TurnPlace p bodies a turn.Going w = PhasePlace p a w.phase w × IsLogIn bodies a w.phase
  TurnPlace p bodies a (turn.Done o) w = OutcomePlace p bodies o w
  TurnPlace p bodies a turn.Aborted w = w.phase ≡ phase.Stopped
  TurnPlace p bodies a (turn.EpochLimit told) w = w.phase ≡ phase.Stopped

  abbrev pub JudgedPlace : ℕ → List (List ℕ) → Aim → Judgment → Type 0
  JudgedPlace p bodies a j = TurnPlace p bodies a j.turn j.writer

  -- ## What a journal round puts on the line once it is done
  abbrev pub DoneOn : Round → WriterView → Type 0
  DoneOn (round.Write bodies) w = (p : ℕ) → w.next ≡ p + 1 → AllOn L p bodies
  DoneOn round.Open w = L w.start (24 ∷ [])
  DoneOn _ w = Unit {0}

  -- of the answer that ends a round
  abbrev pub HearsAt : Phase → WriterView → ℕ → Heard → Type 0
  HearsAt (phase.InRound r) w node heard =
      list_any is_waiting (with_answer w node heard).slots ≡ false → numbers_fit (with_answer w node heard) r ≡ true
      → has_majority r (with_answer w node heard).slots ≡ true → DoneOn r w
  HearsAt _ w node heard = Unit {0}

  -- ## A round that was done
  state_place : (p : ℕ) (bodies : List (List ℕ)) (b : Bool) (told : ℕ) (w : WriterView)
      → JudgedPlace p bodies aim.Takeover (cond b (keep_going (begin_propose told w)) (stops_with (turn.EpochLimit told) w))
  state_place p bodies true told w = (tt, tt)
  state_place p bodies false told w = refl

  propose_place : (p : ℕ) (bodies : List (List ℕ)) (o : Option ℕ) (w : WriterView) → JudgedPlace p bodies aim.Takeover (keep_going (after_propose o w))
  propose_place p bodies None w = (tt, tt)
  propose_place p bodies (Some start) w = (tt, tt)

  recovering_place : (p : ℕ) (bodies : List (List ℕ)) (start : ℕ) (o : Option Best) (w : WriterView) → JudgedPlace p bodies aim.Takeover (keep_going (begin_recovery start o w))
  recovering_place p bodies start None w = (tt, tt)
  recovering_place p bodies start (Some b) w = (tt, tt)

  by_aim : (p : ℕ) (bodies : List (List ℕ)) (a : Aim) (w : WriterView) (f : Aim → Judgment) → w.aim ≡ a → JudgedPlace p bodies a (f a) → JudgedPlace p bodies a (f w.aim)
  by_aim p bodies a w f e h = subst (λ (x : Aim). JudgedPlace p bodies a (f x)) (sym e) h

  done_place : (p : ℕ) (bodies : List (List ℕ)) (a : Aim) (r : Round) (w : WriterView) → w.aim ≡ a → Suits a r → IsLogOf bodies a r
      → RoundPlace p a r w → DoneOn r w → JudgedPlace p bodies a (after_round r w)
  done_place p bodies aim.Takeover round.State w e s l pl d = state_place p bodies (nat_lt (greatest_promise w.slots) max_number) (greatest_promise w.slots) w
  done_place p bodies aim.Takeover round.Propose w e s l pl d = propose_place p bodies (greatest_newest w.slots) (next_serial w)
  done_place p bodies aim.Takeover (round.Prepare start) w e s l pl d = recovering_place p bodies start (best_of start w.slots) (next_serial w)
  done_place p bodies aim.Takeover (round.Fetch node start end b) w e s l pl d = recovering_place p bodies start (best_of start w.slots) (next_serial w)
  done_place p bodies aim.Takeover (round.Accept batch) w e s l pl d = (tt, tt)
  done_place p bodies aim.Takeover (round.Finalize start end) w e s l pl d = by_aim p bodies aim.Takeover w (λ x. after_finalize x end (next_serial w)) e (tt, tt)
  done_place p bodies aim.Takeover round.Start w e s l pl d = (tt, tt)
  done_place p bodies aim.Takeover round.Open w e s l pl d =
      by_aim p bodies aim.Takeover w (λ x. after_open x (record (next_serial w) { committed = w.start; next = w.start + 1; left = left_out_after round.Open w.slots })) e (refl, refl, refl, d, refl)
  done_place p bodies aim.Log (round.Write b) w e s l pl d =
      let last : ℕ = w.next + length b - 1 in
      let same : length b ≡ length bodies = ap (λ (z : List (List ℕ)). length z) l in
      let at : last ≡ p + length bodies = omega (arith, pl, same) in
      by_aim p bodies aim.Log w (λ x. after_write x w.next last (record (next_serial w) { committed = last; next = last + 1; left = left_out_after (round.Write b) w.slots })) e
      (refl, refl, at, subst (λ (z : List (List ℕ)). AllOn L p z) l (d p pl), pl)
  done_place p bodies aim.Roll (round.Write b) w e s l pl d =
      let last : ℕ = w.next + length b - 1 in
      let one : length b ≡ 1 = ap (λ (z : List (List ℕ)). length z) pl.0 in
      let at : last ≡ p + 1 = omega (arith, pl.1, one) in
      by_aim p bodies aim.Roll w (λ x. after_write x w.next last (record (next_serial w) { committed = last; next = last + 1; left = left_out_after (round.Write b) w.slots })) e
      ((at, (subst (λ (z : List (List ℕ)). AllOn L p z) pl.0 (d p pl.1)).0), tt)
  done_place p bodies aim.Roll (round.Finalize start end) w e s l pl d =
      let at : end + 1 ≡ p + 2 = omega (arith, pl.0) in
      by_aim p bodies aim.Roll w (λ x. after_finalize x end (next_serial w)) e ((at, pl.1), tt)
  done_place p bodies aim.Roll round.Start w e s l pl d = (pl, tt)
  done_place p bodies aim.Roll round.Open w e s l pl d =
      by_aim p bodies aim.Roll w (λ x. after_open x (record (next_serial w) { committed = w.start; next = w.start + 1; left = left_out_after round.Open w.slots })) e
      (refl, refl, pl.0, pl.1, subst (λ (t : ℕ). L t (24 ∷ [])) pl.0 d)
  done_place p bodies aim.Close (round.Write b) w e s l pl d =
      let last : ℕ = w.next + length b - 1 in
      let one : length b ≡ 1 = ap (λ (z : List (List ℕ)). length z) pl.0 in
      let at : last ≡ p + 1 = omega (arith, pl.1, one) in
      by_aim p bodies aim.Close w (λ x. after_write x w.next last (record (next_serial w) { committed = last; next = last + 1; left = left_out_after (round.Write b) w.slots })) e
      ((at, (subst (λ (z : List (List ℕ)). AllOn L p z) pl.0 (d p pl.1)).0), tt)
  done_place p bodies aim.Close (round.Finalize start end) w e s l pl d = by_aim p bodies aim.Close w (λ x. after_finalize x end (next_serial w)) e (refl, pl.0, pl.1)
  done_place p bodies aim.Purge (round.Purge min) w e s l pl d = (refl, pl)
  done_place p bodies _ _ w e s l pl d = absurd s

  -- ## A round that was heard whole
  judged_place : (p : ℕ) (bodies : List (List ℕ)) (a : Aim) (b : Bool) (r : Round) (w : WriterView) → w.aim ≡ a → Suits a r → IsLogOf bodies a r
      → RoundPlace p a r w → (b ≡ true → DoneOn r w) → JudgedPlace p bodies a (judgment_by b r w)
  judged_place p bodies a true r w e s l pl d = done_place p bodies a r (with_causes r w) e s l (causes_place p a r w pl) (causes_done r w (d refl))
    where
      causes_place : (p : ℕ) (a : Aim) (r : Round) (w : WriterView) → RoundPlace p a r w → RoundPlace p a r (with_causes r w)
      causes_place p aim.Takeover r w h = tt
      causes_place p aim.Log r w h = h
      causes_place p aim.Purge r w h = h
      causes_place p aim.Roll (round.Write bodies) w h = h
      causes_place p aim.Roll (round.Finalize start end) w h = h
      causes_place p aim.Roll _ w h = h
      causes_place p aim.Close (round.Write bodies) w h = h
      causes_place p aim.Close (round.Finalize start end) w h = h
      causes_place p aim.Close _ w h = h

      causes_done : (r : Round) (w : WriterView) → DoneOn r w → DoneOn r (with_causes r w)
      causes_done (round.Write bodies) w h = h
      causes_done round.Open w h = h
      causes_done _ w h = tt
  judged_place p bodies a false r w e s l pl d = refl

  -- an answer in a slot leaves the round where it stands
  other_slots : (p : ℕ) (a : Aim) (r : Round) (w : WriterView) (node : ℕ) (heard : Heard) → RoundPlace p a r w → RoundPlace p a r (with_answer w node heard)
  other_slots p aim.Takeover r w node heard h = tt
  other_slots p aim.Log r w node heard h = h
  other_slots p aim.Purge r w node heard h = h
  other_slots p aim.Roll (round.Write bodies) w node heard h = h
  other_slots p aim.Roll (round.Finalize start end) w node heard h = h
  other_slots p aim.Roll _ w node heard h = h
  other_slots p aim.Close (round.Write bodies) w node heard h = h
  other_slots p aim.Close (round.Finalize start end) w node heard h = h
  other_slots p aim.Close _ w node heard h = h

  other_done : (r : Round) (w : WriterView) (node : ℕ) (heard : Heard) → DoneOn r w → DoneOn r (with_answer w node heard)
  other_done (round.Write bodies) w node heard h = h
  other_done round.Open w node heard h = h
  other_done _ w node heard h = tt

  round_place : (p : ℕ) (bodies : List (List ℕ)) (a : Aim) (b : Bool) (r : Round) (w : WriterView) (node : ℕ) (heard : Heard) → list_any is_waiting (with_answer w node heard).slots ≡ b
      → w.aim ≡ a → w.phase ≡ phase.InRound r → Suits a r → IsLogOf bodies a r → RoundPlace p a r w → HearsAt (phase.InRound r) w node heard
      → JudgedPlace p bodies a (judgment_when b r (with_answer w node heard))
  unfolding judgment
  round_place p bodies a true r w node heard is e same s l pl d = (
    subst (λ (x : Phase). PhasePlace p a x (with_answer w node heard)) (sym same)
        (other_slots p a r w node heard pl),
    subst (λ (x : Phase). IsLogIn bodies a x) (sym same) l,
  )
  round_place p bodies a false r w node heard is e same s l pl d =
      let v : WriterView = with_answer w node heard in
      judged_place p bodies a (numbers_fit v r && has_majority r v.slots) r v e s l (other_slots p a r w node heard pl)
      (λ t. let both : (numbers_fit v r ≡ true) × (has_majority r v.slots ≡ true) = and_parts (numbers_fit v r) (has_majority r v.slots) t in other_done r w node heard (d is both.0 both.1))

  -- ## A piece that was fetched: a takeover goes on, or is aborted
  pieced_place : (p : ℕ) (bodies : List (List ℕ)) (b : Bool) (node start end : ℕ) (more : List (List ℕ)) (w : WriterView)
      → JudgedPlace p bodies aim.Takeover (keep_going (cond b (asks_all (round.Accept (batch_from start more)) w) (record w { phase = phase.InRound (round.Fetch node start end more) })))
  pieced_place p bodies true node start end more w = (tt, tt)
  pieced_place p bodies false node start end more w = (tt, tt)

  missing_place : (p : ℕ) (bodies : List (List ℕ)) (node start : ℕ) (heard : Heard) (w : WriterView) → w.aim ≡ aim.Takeover → JudgedPlace p bodies aim.Takeover (after_no_edits node start heard w)
  missing_place p bodies node start heard w e =
      judged_place p bodies aim.Takeover (has_majority (round.Prepare start) (without_answer_of node heard w).slots) (round.Prepare start) (without_answer_of node heard w) e tt tt tt (λ t. tt)

  edits_place : (p : ℕ) (bodies : List (List ℕ)) (b : Bool) (node start end : ℕ) (had : List (List ℕ)) (batch : BatchView) (w : WriterView)
      → w.aim ≡ aim.Takeover → JudgedPlace p bodies aim.Takeover (after_edits b node start end had batch w)
  edits_place p bodies true node start end had batch w e =
      let more : List (List ℕ) = had ++ take (end + 1 - (start + length had)) batch.bodies in
      pieced_place p bodies (nat_lt end (start + length more)) node start end more (next_serial w)
  edits_place p bodies false node start end had batch w e = missing_place p bodies node start Silent w e

  fetched_place : (p : ℕ) (bodies : List (List ℕ)) (node start end : ℕ) (had : List (List ℕ)) (heard : Heard) (w : WriterView) → w.aim ≡ aim.Takeover
      → JudgedPlace p bodies aim.Takeover (after_fetch node start end had heard w)
  unfolding after_fetch
  fetched_place p bodies node start end had (Answer (reply.Edits batch)) w e =
      edits_place p bodies (numbers_fit w (round.Fetch node start end had) && fits_edits (start + length had) batch) node start end had batch w e
  fetched_place p bodies node start end had (Answer reply.Ok) w e = missing_place p bodies node start (Answer reply.Ok) w e
  fetched_place p bodies node start end had (Answer (reply.State promised)) w e = missing_place p bodies node start (Answer (reply.State promised)) w e
  fetched_place p bodies node start end had (Answer (reply.NewEpoch newest)) w e = missing_place p bodies node start (Answer (reply.NewEpoch newest)) w e
  fetched_place p bodies node start end had (Answer (reply.Prepared writer committed segment)) w e = missing_place p bodies node start (Answer (reply.Prepared writer committed segment)) w e
  fetched_place p bodies node start end had (Answer (reply.Segments lines)) w e = missing_place p bodies node start (Answer (reply.Segments lines)) w e
  fetched_place p bodies node start end had (Answer (reply.Refused refusal)) w e = missing_place p bodies node start (Answer (reply.Refused refusal)) w e
  fetched_place p bodies node start end had Silent w e = missing_place p bodies node start Silent w e

  -- ## An answer
  fetch_place : (p : ℕ) (bodies : List (List ℕ)) (a : Aim) (from start end : ℕ) (had : List (List ℕ)) (w : WriterView) (heard : Heard) → w.aim ≡ a
      → Suits a (round.Fetch from start end had) → JudgedPlace p bodies a (after_fetch from start end had heard w)
  fetch_place p bodies aim.Takeover from start end had w heard e s = fetched_place p bodies from start end had heard w e
  fetch_place p bodies _ from start end had w heard e s = absurd s

  in_place : (p : ℕ) (bodies : List (List ℕ)) (a : Aim) (r : Round) (w : WriterView) (node : ℕ) (heard : Heard) → w.aim ≡ a
      → w.phase ≡ phase.InRound r → Suits a r → IsLogOf bodies a r → RoundPlace p a r w
      → HearsAt (phase.InRound r) w node heard → JudgedPlace p bodies a (heard_in r w node heard)
  in_place p bodies a (round.Fetch from start end had) w node heard e same s l pl d = fetch_place p bodies a from start end had w heard e s
  in_place p bodies a round.State w node heard e same s l pl d = round_place p bodies a (list_any is_waiting (with_answer w node heard).slots) round.State w node heard refl e same s l pl d
  in_place p bodies a round.Propose w node heard e same s l pl d = round_place p bodies a (list_any is_waiting (with_answer w node heard).slots) round.Propose w node heard refl e same s l pl d
  in_place p bodies a (round.Prepare start) w node heard e same s l pl d =
      round_place p bodies a (list_any is_waiting (with_answer w node heard).slots) (round.Prepare start) w node heard refl e same s l pl d
  in_place p bodies a (round.Accept batch) w node heard e same s l pl d =
      round_place p bodies a (list_any is_waiting (with_answer w node heard).slots) (round.Accept batch) w node heard refl e same s l pl d
  in_place p bodies a (round.Finalize start end) w node heard e same s l pl d =
      round_place p bodies a (list_any is_waiting (with_answer w node heard).slots) (round.Finalize start end) w node heard refl e same s l pl d
  in_place p bodies a round.Start w node heard e same s l pl d = round_place p bodies a (list_any is_waiting (with_answer w node heard).slots) round.Start w node heard refl e same s l pl d
  in_place p bodies a round.Open w node heard e same s l pl d = round_place p bodies a (list_any is_waiting (with_answer w node heard).slots) round.Open w node heard refl e same s l pl d
  in_place p bodies a (round.Write b) w node heard e same s l pl d = round_place p bodies a (list_any is_waiting (with_answer w node heard).slots) (round.Write b) w node heard refl e same s l pl d
  in_place p bodies a (round.Purge min) w node heard e same s l pl d = round_place p bodies a (list_any is_waiting (with_answer w node heard).slots) (round.Purge min) w node heard refl e same s l pl d

  pub heard_place : (p : ℕ) (bodies : List (List ℕ)) (a : Aim) (w : WriterView) (node : ℕ) (heard : Heard) → Course a w → IsInRound w.phase → IsLogIn bodies a w.phase → PhasePlace p a w.phase w
      → HearsAt w.phase w node heard → JudgedPlace p bodies a (writer_heard w node heard)
  unfolding writer_heard
  heard_place p bodies a w node heard c i l pl d = by w.phase refl i l pl d
    where
      by : (x : Phase) → w.phase ≡ x → IsInRound x → IsLogIn bodies a x → PhasePlace p a x w → HearsAt x w node heard → JudgedPlace p bodies a (heard_at x w node heard)
      by (phase.InRound r) same i l pl d = in_place p bodies a r w node heard c.is same (subst (λ (x : Phase). InCourse a x w.slots) same c.course).0 l pl d
      by phase.Idle same i l pl d = absurd i
      by phase.Writing same i l pl d = absurd i
      by phase.Stopped same i l pl d = absurd i

-- ## Two lists of entries: what stands on the one stands on the other
module _ (L K : ℕ → List ℕ → Type 0) (more : (t : ℕ) (x : List ℕ) → L t x → K t x) where
  all_more : (t : ℕ) (bodies : List (List ℕ)) → AllOn L t bodies → AllOn K t bodies
  all_more t [] a = tt
  all_more t (x ∷ xs) a = (more (t + 1) x a.0, all_more (t + 1) xs a.1)

  done_more : (r : Round) (w : WriterView) → DoneOn L r w → DoneOn K r w
  done_more (round.Write bodies) w d = λ p at. all_more p bodies (d p at)
  done_more round.Open w d = more w.start (24 ∷ []) d
  done_more _ w d = tt

  pub hears_more : (x : Phase) (w : WriterView) (node : ℕ) (heard : Heard) → HearsAt L x w node heard → HearsAt K x w node heard
  hears_more (phase.InRound r) w node heard h = λ none small maj. done_more r w (h none small maj)
  hears_more _ w node heard h = tt
