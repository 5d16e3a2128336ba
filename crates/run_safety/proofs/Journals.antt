-- The journal request that put an entry of the line there: all of its batch up to that entry stands
-- on the line.
use Rattle.std.proofs.Common.{◌≡◌, ℕ, ◌+◌, ◌<◌, ◌≤◌, List, ◌∷◌, length, Some, refl, inr, arith, subst, sym, ap, ◌∙◌}
use Rattle.std.specs.Prelude.{slice_get}
use Rattle.journal_core.specs.Views.{HeadView, BatchView}
use Rattle.journal_core.specs.declared.request.Request.TheVariants.{Journal}
use Rattle.journal_history.specs.Entries.{Entry, Earlier}
use Rattle.run_safety.specs.Run.{Story, Follows}
use Rattle.run_safety.specs.Safe.{IsOnLine, IsOf, IsStart}
use Rattle.run_safety.specs.Parts.{IsJournaled, IsAuthor, IsPutByJournal}
use Rattle.run_safety.proofs.SeenLaws.{Open, Write}
use Rattle.run_safety.proofs.Frames.{Frame, IsWriting}
use Rattle.run_safety.proofs.Rounds.{frame}
use Rattle.run_safety.proofs.Before.{OpenedAt, opened_at}
use Rattle.run_safety.proofs.Spans.{Covers, covers_start, write_is, write_start}
use Rattle.run_safety.proofs.Sent.{OfRound, round_within, to}
use Rattle.run_safety.proofs.Values.{Wrote, wrote_by, wrote_once, Wrote-same, journal_round, get_within}
use Rattle.run_safety.proofs.Safety.{chosen_agree}
use Rattle.run_safety.proofs.Authors.{line_author, start_entry}

module _ (n : ℕ) (story : Story) (past : List Entry) (run : Follows n story past) where
  -- one body stands on the line at a txid
  pub line_once : (t : ℕ) (x y : List ℕ) → IsOnLine n past t x → IsOnLine n past t y → x ≡ y
  line_once t x y a b = chosen_agree n story past run a.epoch b.epoch t x y a.chosen b.chosen

  -- the round of a journal request
  record OfJournal (head : HeadView) (start : ℕ) (batch : BatchView) : Type 0 where
    pub z : OfRound n story past (Journal head start batch)
    pub is : z.w.round ≡ Write start batch
    pub epoch : head.epoch ≡ (story.takeover z.a).epoch

  of_journal : (old : List Entry) (e : Entry) (head : HeadView) (start : ℕ) (batch : BatchView) → Earlier (e ∷ old) past → IsOf e (Journal head start batch) → OfJournal head start batch
  of_journal old e head start batch p q =
      let z : OfRound n story past (Journal head start batch) = round_within n story past old e (Journal head start batch) run p q in
      let y : (z.w.round ≡ Write start batch) × (head.epoch ≡ (story.takeover z.a).epoch) = journal_round (story.takeover z.a).epoch z.s z.w.committed z.w.round head start batch z.is in
      record { z = z; is = y.0; epoch = y.1 }

  -- what is journaled was written
  journaled_wrote : (e t : ℕ) (body : List ℕ) → IsJournaled past e t body → (m : ℕ) × Wrote n story past e m t body
  journaled_wrote e t body j =
      let x : OfJournal j.3.0 j.3.1 j.3.2 = of_journal j.0 j.1 j.3.0 j.3.1 j.3.2 j.2 j.3.4 in
      let w : Wrote n story past (story.takeover x.z.a).epoch j.3.1 (j.3.2.first + j.3.5.0) body = wrote_by n story past x.z.a x.z.s x.z.w j.3.1 j.3.2 x.z.sent (inr x.is) j.3.5.0 body j.3.5.2 in
      (j.3.1, Wrote-same n story past (story.takeover x.z.a).epoch e j.3.1 (j.3.2.first + j.3.5.0) t body (sym x.epoch ∙ j.3.3) (sym j.3.5.1) w)

  journaled_once : (e t : ℕ) (x y : List ℕ) → IsJournaled past e t x → IsJournaled past e t y → x ≡ y
  journaled_once e t x y a b =
      let p : (m : ℕ) × Wrote n story past e m t x = journaled_wrote e t x a in
      let q : (m : ℕ) × Wrote n story past e m t y = journaled_wrote e t y b in
      (wrote_once n story past e p.0 q.0 t x y run p.1 q.1).1

  record Started (head : HeadView) (start : ℕ) (batch : BatchView) : Type 0 where
    pub entry : (old : List Entry) × (x : Entry) × Earlier (x ∷ old) past × IsStart x head.epoch start
    pub below : start ≤ batch.first

  started : (old : List Entry) (e : Entry) (head : HeadView) (start : ℕ) (batch : BatchView) (body : List ℕ) (k : ℕ) → Earlier (e ∷ old) past
      → IsOf e (Journal head start batch) → slice_get batch.bodies k ≡ Some body → Started head start batch
  started old e head start batch body k p q has = record {
    entry = to (λ ep. (old : List Entry) × (x : Entry) × Earlier (x ∷ old) past × IsStart x ep start) (sym x.epoch)
        (start_entry n story past run x.z.a x.z.s start x.z.w o.writer o.round x.z.sent o.before o.at (o.opens ∙ ap (λ z. Open z) same));
    below = below;
  }
    where
      x : OfJournal head start batch
      x = of_journal old e head start batch p q

      fr : Frame x.z.w
      fr = frame n (story.takeover x.z.a) x.z.s x.z.w x.z.sent.at

      writing : IsWriting x.z.w.round
      writing = write_is x.z.w start batch x.is

      same : x.z.w.start ≡ start
      same = write_start x.z.w start batch fr x.is

      o : OpenedAt n (story.takeover x.z.a) x.z.s x.z.w.start
      o = opened_at n (story.takeover x.z.a) x.z.s x.z.w x.z.sent.at writing

      below : start ≤ batch.first
      below =
          let lt : k < length batch.bodies = get_within batch.bodies k body has in
          let c : Covers x.z.w start batch.first = record { batch = batch; is = inr x.is; from = omega arith; below = omega (arith, lt) } in
          let r : (1 ≤ start) × (start ≤ batch.first) = covers_start x.z.w start batch.first fr c in
          r.1

  -- ## What put an entry of the line there
  pub line_put : (t : ℕ) (body : List ℕ) → IsOnLine n past t body → IsPutByJournal n past t body
  line_put t body on = record {
    old = j.0;
    entry = j.1;
    within = j.2;
    head = j.3.0;
    start = j.3.1;
    batch = j.3.2;
    of_request = j.3.4;
    k = j.3.5.0;
    place = j.3.5.1;
    has = j.3.5.2;
    on_line = others;
  }
    where
      a : (epoch : ℕ) × (first : ℕ) × IsAuthor n past epoch first t
      a = line_author n story past run t body on

      here : (b : List ℕ) × IsJournaled past a.0 t b × IsOnLine n past t b
      here = a.2.journaled t a.2.begins_below (omega arith)

      j : IsJournaled past a.0 t body
      j = subst (λ (b : List ℕ). IsJournaled past a.0 t b) (line_once t here.0 body here.2 on) here.1

      s : Started j.3.0 j.3.1 j.3.2
      s = started j.0 j.1 j.3.0 j.3.1 j.3.2 body j.3.5.0 j.2 j.3.4 j.3.5.2

      low : a.1 ≤ j.3.1
      low = a.2.is_first s.entry.0 s.entry.1 j.3.1 s.entry.2 (to (λ ep. IsStart s.entry.1 ep j.3.1) j.3.3 s.entry.3)

      others : (i : ℕ) (other : List ℕ) → i ≤ j.3.5.0 → slice_get j.3.2.bodies i ≡ Some other → IsOnLine n past (j.3.2.first + i) other
      others i other le has =
          let above : a.1 ≤ j.3.2.first + i = (let b : j.3.1 ≤ j.3.2.first = s.below in let l : a.1 ≤ j.3.1 = low in omega (arith, b, l)) in
          let upto : j.3.2.first + i ≤ t = (let p : t ≡ j.3.2.first + j.3.5.0 = j.3.5.1 in omega (arith, p, le)) in
          let y : (b : List ℕ) × IsJournaled past a.0 (j.3.2.first + i) b × IsOnLine n past (j.3.2.first + i) b = a.2.journaled (j.3.2.first + i) above upto in
          let mine : IsJournaled past a.0 (j.3.2.first + i) other = (j.0, j.1, j.2, (j.3.0, j.3.1, j.3.2, j.3.3, j.3.4, (i, refl, has))) in
          subst (λ (b : List ℕ). IsOnLine n past (j.3.2.first + i) b) (journaled_once a.0 (j.3.2.first + i) y.0 other y.1 mine) y.2
