-- The Ok answers of a journal round stand in the record of its caller: each with the round's
-- request.
use Rattle.std.proofs.Common.{◌≡◌, ℕ, ◌+◌, ◌-◌, ◌≤◌, List, [], ◌∷◌, ◌++◌, Bool, true, false, cond, refl, sym, ap, subst, arith, length, ◌⊎◌, inl, inr, take}
use Rattle.std.specs.Prelude.{Option, Some, None, ◌&&◌, nat_lt, option_map}
use Rattle.std.specs.List.{list_any}
use Rattle.journal_core.specs.Views.{BatchView}
use Rattle.journal_core.specs.Limits.{max_number}
use Rattle.journal_core.specs.declared.request.Request.{Request}
use Rattle.journal_core.specs.declared.reply.Reply.TheVariants as reply
use Rattle.journal_core.specs.declared.heard.Heard.{Heard}
use Rattle.journal_core.specs.declared.heard.Heard.TheVariants.{Answer, Silent}
use Rattle.writer_core.specs.declared.round.Round.{Round}
use Rattle.writer_core.specs.declared.round.Round.TheVariants as round
use Rattle.writer_core.specs.declared.phase.Phase.{Phase}
use Rattle.writer_core.specs.declared.phase.Phase.TheVariants as phase
use Rattle.writer_core.specs.declared.phase.Aim.{Aim}
use Rattle.writer_core.specs.declared.phase.Aim.TheVariants as aim
use Rattle.writer_core.specs.declared.slot.Slot.{Slot}
use Rattle.writer_core.specs.declared.slot.Slot.TheVariants.{Waiting, LeftOut, Told as Heard_}
use Rattle.writer_core.specs.declared.task.Task.{Task}
use Rattle.writer_core.specs.declared.task.Task.TheVariants as task
use Rattle.writer_core.specs.declared.task.Begun.TheVariants as begun
use Rattle.writer_core.specs.declared.turn.Turn.TheVariants as turn
use Rattle.writer_core.specs.Views.{WriterView}
use Rattle.writer_core.specs.Answers.{is_waiting, has_majority, fits_edits}
use Rattle.writer_core.specs.Best.{Best, best_of, greatest_promise, greatest_newest}
use Rattle.writer_core.specs.Rounds.{request_in, numbers_fit, keep_going, stops_with, after_round, with_causes, judgment_by, judgment, after_fetch}
use Rattle.writer_core.specs.Rounds.{begin_propose, after_propose, begin_recovery, after_finalize, after_open, after_write, after_edits}
use Rattle.writer_core.specs.Rounds.{after_no_edits, without_answer_of, next_serial, left_out_after, to_others, asks_all, asks_others, batch_from}
use Rattle.writer_core.specs.Rounds.{end_record}
use Rattle.writer_core.specs.Writer.{log_begins, log_limit, is_writing, if_writing, writer_begun, next_call, call_in, node_in, with_answer, judgment_when, heard_in, heard_at, writer_heard}
use Rattle.journal_history.specs.declared.record.Record.{Record}
use Rattle.journal_history.specs.declared.record.Record.TheVariants.{Call}
use Rattle.journal_history.specs.declared.record.Told.{Told}
use Rattle.journal_history.specs.declared.record.Told.TheVariants as told
use Rattle.run_safety.proofs.Slots.{At, IsFresh, to_others_fresh, At-set}
use Rattle.mesh.specs.Makers.{heard_of}
use Rattle.mesh.proofs.Shared.{In}
use Rattle.mesh.proofs.OrderSigns.{in_left}

-- ## Members of a list that grows
pub in_last : {A : Type 0} (x : A) (xs : List A) → In x (xs ++ x ∷ [])
unfolding In
in_last x [] = inl refl
in_last x (y ∷ xs) = inr (in_last x xs)

ok_told : (t : Told) → Answer reply.Ok ≡ heard_of t → t ≡ told.Reply reply.Ok
ok_told (told.Reply r) e = cc e
ok_told told.Dropped e = absurd (cc e)
ok_told told.Muted e = absurd (cc e)
ok_told told.Silent e = absurd (cc e)

-- ## Of a record
abbrev pub AllOks : List Record → Request → List Slot → Type 0
AllOks rs q slots = (node : ℕ) → At 1 slots node (Heard_ (Answer reply.Ok)) → In (Call node q (told.Reply reply.Ok)) rs

abbrev pub RoundOks : List Record → Round → WriterView → Type 0
RoundOks rs (round.Write bodies) w = AllOks rs (request_in w (round.Write bodies)) w.slots
RoundOks rs round.Open w = AllOks rs (request_in w round.Open) w.slots
RoundOks rs _ w = Unit {0}

abbrev pub PhaseOks : List Record → Phase → WriterView → Type 0
PhaseOks rs (phase.InRound r) w = RoundOks rs r w
PhaseOks rs _ w = Unit {0}

abbrev pub Oks : List Record → WriterView → Type 0
Oks rs w = PhaseOks rs w.phase w

-- a round that begins has no answer
fresh_none : (first : ℕ) (slots : List Slot) (node : ℕ) (h : Heard) → IsFresh slots → At first slots node (Heard_ h) → ⊥
fresh_none first [] node h f a = a
fresh_none first (Waiting ∷ slots) node h f (inl a) = cc a.1
fresh_none first (Waiting ∷ slots) node h f (inr a) = fresh_none (first + 1) slots node h f a
fresh_none first (LeftOut ∷ slots) node h f (inl a) = cc a.1
fresh_none first (LeftOut ∷ slots) node h f (inr a) = fresh_none (first + 1) slots node h f a
fresh_none first (Heard_ x ∷ slots) node h f a = f

fresh_oks : (rs : List Record) (q : Request) (slots : List Slot) → IsFresh slots → AllOks rs q slots
fresh_oks rs q slots f node a = absurd (fresh_none 1 slots node (Answer reply.Ok) f a)

others_oks : (rs : List Record) (r : Round) (w : WriterView) → Oks rs (asks_others r w)
others_oks rs (round.Write bodies) w = fresh_oks rs (request_in (asks_others (round.Write bodies) w) (round.Write bodies)) (to_others w.left) (to_others_fresh w.left)
others_oks rs round.Open w = fresh_oks rs (request_in (asks_others round.Open w) round.Open) (to_others w.left) (to_others_fresh w.left)
others_oks rs _ w = tt

-- ## A round that was done, or not
done_oks : (rs : List Record) (r : Round) (w : WriterView) → Oks rs (after_round r w).writer
done_oks rs round.State w = by (nat_lt (greatest_promise w.slots) max_number)
  where
    by : (b : Bool) → Oks rs (cond b (keep_going (begin_propose (greatest_promise w.slots) w)) (stops_with (turn.EpochLimit (greatest_promise w.slots)) w)).writer
    by true = tt
    by false = tt
done_oks rs round.Propose w = by (greatest_newest w.slots)
  where
    by : (o : Option ℕ) → Oks rs (after_propose o (next_serial w))
    by None = tt
    by (Some start) = tt
done_oks rs (round.Prepare start) w = by (best_of start w.slots)
  where
    by : (o : Option Best) → Oks rs (begin_recovery start o (next_serial w))
    by None = tt
    by (Some b) = tt
done_oks rs (round.Fetch node start end bodies) w = by (best_of start w.slots)
  where
    by : (o : Option Best) → Oks rs (begin_recovery start o (next_serial w))
    by None = tt
    by (Some b) = tt
done_oks rs (round.Accept batch) w = tt
done_oks rs (round.Finalize start end) w = by w.aim
  where
    by : (a : Aim) → Oks rs (after_finalize a end (next_serial w)).writer
    by aim.Close = tt
    by _ = tt
done_oks rs round.Start w = others_oks rs round.Open (record (next_serial w) { left = left_out_after round.Start w.slots })
done_oks rs round.Open w = by w.aim
  where
    by : (a : Aim) → Oks rs (after_open a (record (next_serial w) { committed = w.start; next = w.start + 1; left = left_out_after round.Open w.slots })).writer
    by aim.Roll = tt
    by _ = tt
done_oks rs (round.Write bodies) w = by w.aim
  where
    by : (a : Aim) → Oks rs (after_write a w.next (w.next + length bodies - 1)
        (record (next_serial w) {
          committed = w.next + length bodies - 1;
          next = w.next + length bodies - 1 + 1;
          left = left_out_after (round.Write bodies) w.slots;
        })).writer
    by aim.Roll = tt
    by aim.Close = tt
    by _ = tt
done_oks rs (round.Purge min) w = tt

judged_oks : (rs : List Record) (b : Bool) (r : Round) (w : WriterView) → Oks rs (judgment_by b r w).writer
judged_oks rs true r w = done_oks rs r (with_causes r w)
judged_oks rs false r w = tt

-- ## An answer
more_oks : (rs : List Record) (q : Request) (w : WriterView) (node : ℕ) (t : Told) → 1 ≤ node → AllOks rs q w.slots → AllOks (rs ++ Call node q t ∷ []) q (with_answer w node (heard_of t)).slots
more_oks rs q w node t one h k a = by (At-set 1 (node - 1) k w.slots (Heard_ (heard_of t)) (Heard_ (Answer reply.Ok)) a)
  where
    heard_is : (x y : Heard) → Heard_ x ≡ Heard_ y → x ≡ y
    heard_is x y e = ap heard_in_it e
      where
        heard_in_it : Slot → Heard
        heard_in_it (Heard_ z) = z
        heard_in_it _ = x

    by : ((k ≡ 1 + (node - 1)) × (Heard_ (Answer reply.Ok) ≡ Heard_ (heard_of t))) ⊎ At 1 w.slots k (Heard_ (Answer reply.Ok)) → In (Call k q (told.Reply reply.Ok)) (rs ++ Call node q t ∷ [])
    by (inl e) =
        let same : node ≡ k = omega (arith, e.0, one) in
        let ok : t ≡ told.Reply reply.Ok = ok_told t (heard_is (Answer reply.Ok) (heard_of t) e.1) in
        subst (λ (j : ℕ). In (Call j q (told.Reply reply.Ok)) (rs ++ Call node q t ∷ [])) same
        (subst (λ (z : Told). In (Call node q z) (rs ++ Call node q t ∷ [])) ok (in_last (Call node q t) rs))
    by (inr b) = in_left (Call k q (told.Reply reply.Ok)) rs (Call node q t ∷ []) (h k b)

pub RoundOks-more : (rs : List Record) (r : Round) (w : WriterView) (node : ℕ) (q : Request) (t : Told) → 1 ≤ node → q ≡ request_in w r
    → RoundOks rs r w → RoundOks (rs ++ Call node q t ∷ []) r (with_answer w node (heard_of t))
RoundOks-more rs (round.Write bodies) w node q t one is h = subst (λ (x : Request).
    AllOks (rs ++ Call node x t ∷ []) (request_in w (round.Write bodies)) (with_answer w node (heard_of t)).slots) (sym is)
    (more_oks rs (request_in w (round.Write bodies)) w node t one h)
RoundOks-more rs round.Open w node q t one is h = subst (λ (x : Request).
    AllOks (rs ++ Call node x t ∷ []) (request_in w round.Open) (with_answer w node (heard_of t)).slots) (sym is)
    (more_oks rs (request_in w round.Open) w node t one h)
RoundOks-more rs _ w node q t one is h = tt

when_oks : (rs : List Record) (b : Bool) (r : Round) (w : WriterView) (node : ℕ) (q : Request) (t : Told) → w.phase ≡ phase.InRound r → 1 ≤ node → q ≡ request_in w r → RoundOks rs r w
    → Oks (rs ++ Call node q t ∷ []) (judgment_when b r (with_answer w node (heard_of t))).writer
unfolding judgment
when_oks rs true r w node q t same one is h = subst (λ (x : Phase). PhaseOks (rs ++ Call node q t ∷ []) x (with_answer w node (heard_of t))) (sym same) (RoundOks-more rs r w node q t one is h)
when_oks rs false r w node q t same one is h = judged_oks (rs ++ Call node q t ∷ [])
    (numbers_fit (with_answer w node (heard_of t)) r && has_majority r (with_answer w node (heard_of t)).slots) r (with_answer w node (heard_of t))

missing_oks : (rs : List Record) (node start : ℕ) (heard : Heard) (w : WriterView) → Oks rs (after_no_edits node start heard w).writer
missing_oks rs node start heard w = judged_oks rs (has_majority (round.Prepare start) (without_answer_of node heard w).slots) (round.Prepare start) (without_answer_of node heard w)

edits_oks : (rs : List Record) (b : Bool) (node start end : ℕ) (had : List (List ℕ)) (batch : BatchView) (w : WriterView) → Oks rs (after_edits b node start end had batch w).writer
edits_oks rs true node start end had batch w = by (nat_lt end (start + length (had ++ take (end + 1 - (start + length had)) batch.bodies)))
  where
    by : (b : Bool) → Oks rs (cond b (asks_all (round.Accept (batch_from start (had ++ take (end + 1 - (start + length had)) batch.bodies)))
        (next_serial w)) (record (next_serial w) {
          phase = phase.InRound
              (round.Fetch node start end (had ++ take (end + 1 - (start + length had)) batch.bodies));
        }))
    by true = tt
    by false = tt
edits_oks rs false node start end had batch w = missing_oks rs node start Silent w

fetched_oks : (rs : List Record) (node start end : ℕ) (had : List (List ℕ)) (heard : Heard) (w : WriterView) → Oks rs (after_fetch node start end had heard w).writer
unfolding after_fetch
fetched_oks rs node start end had (Answer (reply.Edits batch)) w = edits_oks rs (numbers_fit w (round.Fetch node start end had) && fits_edits (start + length had) batch) node start end had batch w
fetched_oks rs node start end had heard w = missing_oks rs node start heard w

-- the call was the writer's next one
pub record IsNext (w : WriterView) (r : Round) (node : ℕ) (q : Request) : Type 0 where
  pub phase_is : w.phase ≡ phase.InRound r
  pub asked : q ≡ request_in w r

map_asks : (r : Request) (o : Option ℕ) (k : ℕ) (q : Request) → option_map {U = ℕ × Request} (λ (node : ℕ). (node, r)) o ≡ Some (k, q) → q ≡ r
map_asks r None k q e = absurd (cc e)
map_asks r (Some j) k q e = let pair : (j, r) ≡ (k, q) = cc e in ap (λ (x : ℕ × Request). x.1) (sym pair)

pub next_is : (w : WriterView) (x : Phase) (node : ℕ) (q : Request) → w.phase ≡ x → call_in x w ≡ Some (node, q) → (r : Round) × IsNext w r node q
next_is w (phase.InRound r) node q is e = (r, record { phase_is = is; asked = map_asks (request_in w r) (node_in r w.slots) node q e })
next_is w phase.Idle node q is e = absurd (cc e)
next_is w phase.Writing node q is e = absurd (cc e)
next_is w phase.Stopped node q is e = absurd (cc e)

in_oks : (rs : List Record) (r : Round) (w : WriterView) (node : ℕ) (q : Request) (t : Told) → w.phase ≡ phase.InRound r → 1 ≤ node
    → q ≡ request_in w r → RoundOks rs r w → Oks (rs ++ Call node q t ∷ []) (heard_in r w node (heard_of t)).writer
in_oks rs (round.Fetch from start end had) w node q t same one is h = fetched_oks (rs ++ Call node q t ∷ []) from start end had (heard_of t) w
in_oks rs round.State w node q t same one is h = when_oks rs (list_any is_waiting (with_answer w node (heard_of t)).slots) round.State w node q t same one is h
in_oks rs round.Propose w node q t same one is h = when_oks rs (list_any is_waiting (with_answer w node (heard_of t)).slots) round.Propose w node q t same one is h
in_oks rs (round.Prepare start) w node q t same one is h = when_oks rs (list_any is_waiting (with_answer w node (heard_of t)).slots) (round.Prepare start) w node q t same one is h
in_oks rs (round.Accept batch) w node q t same one is h = when_oks rs (list_any is_waiting (with_answer w node (heard_of t)).slots) (round.Accept batch) w node q t same one is h
in_oks rs (round.Finalize start end) w node q t same one is h = when_oks rs (list_any is_waiting (with_answer w node (heard_of t)).slots) (round.Finalize start end) w node q t same one is h
in_oks rs round.Start w node q t same one is h = when_oks rs (list_any is_waiting (with_answer w node (heard_of t)).slots) round.Start w node q t same one is h
in_oks rs round.Open w node q t same one is h = when_oks rs (list_any is_waiting (with_answer w node (heard_of t)).slots) round.Open w node q t same one is h
in_oks rs (round.Write bodies) w node q t same one is h = when_oks rs (list_any is_waiting (with_answer w node (heard_of t)).slots) (round.Write bodies) w node q t same one is h
in_oks rs (round.Purge min) w node q t same one is h = when_oks rs (list_any is_waiting (with_answer w node (heard_of t)).slots) (round.Purge min) w node q t same one is h

pub heard_oks : (rs : List Record) (w : WriterView) (node : ℕ) (q : Request) (t : Told) → next_call w ≡ Some (node, q) → 1 ≤ node → Oks rs w
    → Oks (rs ++ Call node q t ∷ []) (writer_heard w node (heard_of t)).writer
unfolding writer_heard
heard_oks rs w node q t next one h =
    let x : (r : Round) × IsNext w r node q = next_is w w.phase node q refl next in
    subst (λ (y : Phase). Oks (rs ++ Call node q t ∷ []) (heard_at y w node (heard_of t)).writer) (sym x.1.phase_is)
    (in_oks rs x.0 w node q t x.1.phase_is one x.1.asked (subst (λ (y : Phase). PhaseOks rs y w) x.1.phase_is h))

-- ## A longer record, and tasks that begin
pub Oks-more : (rs more : List Record) (w : WriterView) → Oks rs w → Oks (rs ++ more) w
Oks-more rs more w h = by w.phase h
  where
    grown : (q : Request) → AllOks rs q w.slots → AllOks (rs ++ more) q w.slots
    grown q h node a = in_left (Call node q (told.Reply reply.Ok)) rs more (h node a)

    by : (x : Phase) → PhaseOks rs x w → PhaseOks (rs ++ more) x w
    by (phase.InRound (round.Write bodies)) h = grown (request_in w (round.Write bodies)) h
    by (phase.InRound round.Open) h = grown (request_in w round.Open) h
    by (phase.InRound _) h = tt
    by _ h = tt

pub begun_oks : (rs : List Record) (w : WriterView) (t : Task) → Oks rs w → Oks rs (writer_begun w t).writer
unfolding writer_begun
begun_oks rs w task.Takeover h = tt
begun_oks rs w (task.Log bodies) h = by (is_writing w.phase) (log_limit w bodies)
  where
    by : (b : Bool) (o : Option ℕ) → Oks rs (if_writing b (log_begins o bodies w) w).writer
    by true (Some number) = h
    by true None = others_oks rs (round.Write bodies) (record w { aim = aim.Log })
    by false o = h
begun_oks rs w task.Roll h = by (is_writing w.phase)
  where
    by : (b : Bool) → Oks rs (if_writing b (record { writer = asks_others (round.Write end_record) (record w { aim = aim.Roll }); begun = begun.Going }) w).writer
    by true = others_oks rs (round.Write end_record) (record w { aim = aim.Roll })
    by false = h
begun_oks rs w task.Close h = by (is_writing w.phase)
  where
    by : (b : Bool) → Oks rs (if_writing b (record { writer = asks_others (round.Write end_record) (record w { aim = aim.Close }); begun = begun.Going }) w).writer
    by true = others_oks rs (round.Write end_record) (record w { aim = aim.Close })
    by false = h
begun_oks rs w (task.Purge min) h = by (is_writing w.phase)
  where
    by : (b : Bool) → Oks rs (if_writing b (record { writer = asks_all (round.Purge min) (record w { aim = aim.Purge }); begun = begun.Going }) w).writer
    by true = tt
    by false = h
