-- What an actor's journal rounds acknowledge once they are done: each body that it logged in them.
use Rattle.std.proofs.Common.{◌≡◌, ℕ, zero, suc, ◌+◌, ◌-◌, ◌<◌, ◌≤◌, List, [], ◌∷◌, ◌++◌, true, refl, sym, ap, ◌∙◌, subst, arith, length, append_assoc, reverse}
use Rattle.std.specs.Prelude.{Some, slice_get, slice_set}
use Rattle.std.specs.List.{list_all}
use Rattle.std.proofs.lemmas.Bool.Decides.{nat_tests}
use Rattle.journal_core.specs.Views.{HeadView, BatchView}
use Rattle.journal_core.specs.Limits.{max_number}
use Rattle.journal_core.specs.declared.request.Request.{Request}
use Rattle.journal_core.specs.declared.request.Request.TheVariants.{Journal}
use Rattle.journal_core.specs.declared.reply.Reply.{Reply}
use Rattle.journal_core.specs.declared.reply.Reply.TheVariants as reply
use Rattle.journal_core.specs.declared.heard.Heard.TheVariants.{Answer}
use Rattle.writer_core.specs.declared.round.Round.{Round}
use Rattle.writer_core.specs.declared.round.Round.TheVariants as round
use Rattle.writer_core.specs.declared.phase.Phase.{Phase}
use Rattle.writer_core.specs.declared.phase.Phase.TheVariants as phase
use Rattle.writer_core.specs.declared.slot.Slot.{Slot}
use Rattle.writer_core.specs.declared.slot.Slot.TheVariants.{Told as Heard_}
use Rattle.writer_core.specs.Views.{WriterView}
use Rattle.writer_core.specs.Answers.{fits, has_majority, is_ok, fits_round, is_done_reply}
use Rattle.writer_core.specs.Rounds.{request_in, numbers_fit, head_now, batch_from, start_record}
use Rattle.writer_core.specs.Writer.{next_call, with_answer}
use Rattle.journal_history.specs.declared.record.Record.{Record}
use Rattle.journal_history.specs.declared.record.Record.TheVariants.{Call}
use Rattle.journal_history.specs.declared.record.Told.{Told}
use Rattle.journal_history.specs.declared.record.Told.TheVariants as told
use Rattle.journal_history.specs.Entries.{Entry}
use Rattle.run_safety.specs.Majority.{Member, IsMajority}
use Rattle.run_safety.specs.Safe.{IsAcknowledged, SaidOk}
use Rattle.run_safety.proofs.Slots.{At, ok_from, in_ok, ok_majority, ok_slot}
use Rattle.run_safety.proofs.Values.{get_within}
use Rattle.run_safety.proofs.WriterRange.{call_within}
use Rattle.mesh.specs.declared.whole.Mesh.{Mesh}
use Rattle.mesh.specs.Agree.{operator_of, record_of, ListsAgree}
use Rattle.mesh.specs.Makers.{heard_of}
use Rattle.mesh.proofs.Shared.{In}
use Rattle.mesh.proofs.OrderSigns.{in_left}
use Rattle.play_laws.specs.Linear.{IsLinear}
use Rattle.play_laws.specs.Acked.{IsLoggedBy}
use Rattle.play_laws.proofs.ReadLaws.{all_on, in_contains}
use Rattle.play_laws.proofs.WriterPlaces.{DoneOn, HearsAt}
use Rattle.play_laws.proofs.Oks.{in_last, AllOks, PhaseOks, RoundOks-more, IsNext, next_is}
use Rattle.play_laws.proofs.SaidOks.{said_ok}
use Rattle.play_laws.proofs.Walks.{Both}

-- the actor logged this body at this txid under this epoch, and that is acknowledged
pub record Acked (m : Mesh) (entries : List Entry) (c epoch txid : ℕ) (body : List ℕ) : Type 0 where
  pub logged : IsLoggedBy m c epoch txid body
  pub acknowledged : IsAcknowledged m.nodes (reverse entries) epoch txid body
  pub epoch_fits : epoch ≤ max_number
  pub txid_fits : txid ≤ max_number

-- of numbers that fit
third_fits : (a b d e : ℕ) (ns : List ℕ) → list_all fits (a ∷ b ∷ d ∷ e ∷ ns) ≡ true → d ≤ max_number
third_fits a b d e ns h = grind (arith, nat_tests)

fourth_fits : (a b d e : ℕ) (ns : List ℕ) → list_all fits (a ∷ b ∷ d ∷ e ∷ ns) ≡ true → e ≤ max_number
fourth_fits a b d e ns h = grind (arith, nat_tests)

done_reply : (r : Reply) → is_done_reply r ≡ true → r ≡ reply.Ok
done_reply reply.Ok e = refl
done_reply _ e = absurd (cc e)

slots_same : (xs : List Slot) (i : ℕ) (y : Slot) → length (slice_set xs i y) ≡ length xs
slots_same [] i y = refl
slots_same (z ∷ xs) zero y = refl
slots_same (z ∷ xs) (suc i) y = let rec : length (slice_set xs i y) ≡ length xs = slots_same xs i y in omega (arith, rec)

module _ (m : Mesh) (entries : List Entry) (lists : ListsAgree m) (lin : IsLinear m entries) (c : ℕ) (below : c < operator_of m) where
  -- a journal round that was done, of this request
  acked_by : (r : Round) (slots : List Slot) (head : HeadView) (start : ℕ) (batch : BatchView) (k : ℕ) (x : List ℕ) → length slots ≡ m.nodes → has_majority r slots ≡ true
      → ((reply : Reply) → fits_round r reply ≡ true → is_done_reply reply ≡ true)
      → ((node : ℕ) → At 1 slots node (Heard_ (Answer reply.Ok)) → In (Call node (Journal head start batch) (told.Reply reply.Ok)) (record_of m c))
      → slice_get batch.bodies k ≡ Some x → IsAcknowledged m.nodes (reverse entries) head.epoch (batch.first + k) x
  acked_by r slots head start batch k x sized maj done oks is = (head, start, batch, refl, (k, refl, is), (ok_from r 1 slots, majority, said))
    where
      majority : IsMajority m.nodes (ok_from r 1 slots)
      majority = ok_majority m.nodes r slots sized maj

      said : (node : ℕ) → Member node (ok_from r 1 slots) → SaidOk (reverse entries) node (Journal head start batch)
      said node member =
          let s : (slot : Slot) × At 1 slots node slot × (is_ok r slot ≡ true) = in_ok r 1 slots node member in
          let o : (reply : Reply) × (s.0 ≡ Heard_ (Answer reply)) × (fits_round r reply ≡ true) = ok_slot r s.0 s.2 in
          let ok : o.0 ≡ reply.Ok = done_reply o.0 (done o.0 o.2) in
          said_ok m entries c node head start batch lists lin below
          (oks node (subst (λ (z : Slot). At 1 slots node z) (o.1 ∙ ap (λ (z : Reply). Heard_ (Answer z)) ok) s.1))

  -- the answer that ends a journal round
  module _ (before after : List Record) (w : WriterView) (node : ℕ) (q : Request) (t : Told) (is : record_of m c ≡ before ++ Call node q t ∷ after)
      (b : Both m.nodes before w) (next : next_call w ≡ Some (node, q)) where
    x : (r : Round) × IsNext w r node q
    x = next_is w w.phase node q refl next

    abbrev v : WriterView
    v = with_answer w node (heard_of t)

    sized : length v.slots ≡ m.nodes
    sized = slots_same w.slots (node - 1) (Heard_ (heard_of t)) ∙ b.sized.slots

    whole : (y : Record) → In y (before ++ Call node q t ∷ []) → In y (record_of m c)
    whole y i = subst (λ (l : List Record). In y l) (append_assoc before (Call node q t ∷ []) after ∙ sym is) (in_left y (before ++ Call node q t ∷ []) after i)

    from_one : 1 ≤ node
    from_one = (call_within m.nodes w node q b.sized next).0

    -- each body of the round's batch
    module _ (r : Round) (first : ℕ) (bodies : List (List ℕ)) (done : (reply : Reply) → fits_round r reply ≡ true → is_done_reply reply ≡ true)
        (asked : q ≡ Journal (head_now w) w.start (batch_from first bodies))
        (oks : AllOks (before ++ Call node q t ∷ []) (Journal (head_now w) w.start (batch_from first bodies)) v.slots)
        (small : list_all fits (w.start ∷ first ∷ (first + length bodies - 1) ∷ w.epoch ∷ w.serial ∷ w.committed ∷ []) ≡ true)
        (maj : has_majority r v.slots ≡ true) where
      abbrev asks : Request
      asks = Journal (head_now w) w.start (batch_from first bodies)

      listed : In (Call node asks t) (record_of m c)
      listed = subst (λ (z : Request). In (Call node z t) (record_of m c)) asked (whole (Call node q t) (in_last (Call node q t) before))

      one_acked : (k : ℕ) (body : List ℕ) → slice_get bodies k ≡ Some body → Acked m entries c w.epoch (first + k) body
      one_acked k body e = record {
        logged = record {
          node = node;
          start = w.start;
          head = head_now w;
          batch = batch_from first bodies;
          told = t;
          called = in_contains (Call node asks t) (record_of m c) listed;
          under = refl;
          has = (k, refl, e);
        };
        acknowledged = acked_by r v.slots (head_now w) w.start (batch_from first bodies) k body sized maj done (λ j a. whole (Call j asks (told.Reply reply.Ok)) (oks j a)) e;
        epoch_fits = fourth_fits w.start first (first + length bodies - 1) w.epoch (w.serial ∷ w.committed ∷ []) small;
        txid_fits = (let last : first + length bodies - 1 ≤ max_number = third_fits w.start first (first + length bodies - 1) w.epoch (w.serial ∷ w.committed ∷ []) small in
            let lt : k < length bodies = get_within bodies k body e in omega (arith, last, lt));
      }

    write_acked : (bodies : List (List ℕ)) → w.phase ≡ phase.InRound (round.Write bodies) → q ≡ request_in w (round.Write bodies) → numbers_fit v (round.Write bodies) ≡ true
        → has_majority (round.Write bodies) v.slots ≡ true → DoneOn (Acked m entries c w.epoch) (round.Write bodies) w
    write_acked bodies same asked small maj p at = all_on (Acked m entries c w.epoch) p bodies one
      where
        oks : AllOks (before ++ Call node q t ∷ []) (request_in w (round.Write bodies)) v.slots
        oks = RoundOks-more before (round.Write bodies) w node q t from_one asked (subst (λ (y : Phase). PhaseOks before y w) same b.oks)

        one : (k : ℕ) (body : List ℕ) → slice_get bodies k ≡ Some body → Acked m entries c w.epoch (p + 1 + k) body
        one k body e =
            let place : w.next + k ≡ p + 1 + k = omega (arith, at) in
            subst (λ (j : ℕ). Acked m entries c w.epoch j body) place (one_acked (round.Write bodies) w.next bodies (λ r f. f) asked oks small maj k body e)

    open_acked : w.phase ≡ phase.InRound round.Open → q ≡ request_in w round.Open → numbers_fit v round.Open ≡ true → has_majority round.Open v.slots ≡ true
        → DoneOn (Acked m entries c w.epoch) round.Open w
    open_acked same asked small maj =
        let oks : AllOks (before ++ Call node q t ∷ []) (request_in w round.Open) v.slots =
        RoundOks-more before round.Open w node q t from_one asked (subst (λ (y : Phase). PhaseOks before y w) same b.oks) in
        let place : w.start + 0 ≡ w.start = omega arith in
        subst (λ (j : ℕ). Acked m entries c w.epoch j (24 ∷ [])) place (one_acked round.Open w.start start_record (λ r f. f) asked oks small maj 0 (24 ∷ []) refl)

    round_acked : (r : Round) → w.phase ≡ phase.InRound r → q ≡ request_in w r → numbers_fit v r ≡ true → has_majority r v.slots ≡ true → DoneOn (Acked m entries c w.epoch) r w
    round_acked (round.Write bodies) same asked small maj = write_acked bodies same asked small maj
    round_acked round.Open same asked small maj = open_acked same asked small maj
    round_acked _ same asked small maj = tt

    pub acked_at : HearsAt (Acked m entries c w.epoch) w.phase w node (heard_of t)
    acked_at =
        subst (λ (y : Phase). HearsAt (Acked m entries c w.epoch) y w node (heard_of t)) (sym x.1.phase_is)
        (λ none small maj. round_acked x.0 x.1.phase_is x.1.asked small maj)
