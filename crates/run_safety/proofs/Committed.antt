-- The committed txid that a request carries: all up to it is chosen, under epochs that aren't above
-- the request's.
use Rattle.std.proofs.Common.{◌≡◌, ℕ, zero, suc, ◌+◌, ◌-◌, ◌<◌, ◌≤◌, List, length, Some, refl, inl, inr, arith, sym, ap, ◌∙◌}
use Rattle.std.specs.Prelude.{slice_get}
use Rattle.std.proofs.lemmas.Bool.{cases_lt}
use Rattle.journal_core.specs.Views.{BatchView, last_txid}
use Rattle.run_safety.specs.Majority.{Member}
use Rattle.journal_history.specs.Entries.{Entry}
use Rattle.run_safety.specs.Run.{Story, Follows}
use Rattle.run_safety.proofs.SeenLaws.{Round, Propose, Ask, Get, Other, Recover, Finalizing, Open, Write, Clean, Writer, seen_at, asked, seen_first}
use Rattle.run_safety.proofs.Slots.{some_same}
use Rattle.run_safety.proofs.Rounds.{Comes, comes, frame}
use Rattle.run_safety.proofs.Frames.{Framed, IsWriting, IsGet, committed_after, StepOf, asks_for, opens_at_one, opens_found_none, gets, gets_more}
use Rattle.run_safety.proofs.Frames.{recovers, seals_recovered, opens_next, writes_first, seals_written, goes_on}
use Rattle.run_safety.proofs.Sent.{Sent, Sent-round, Answers, answers_of, no_fetch, to}
use Rattle.run_safety.proofs.Values.{Wrote, wrote_by, get_there}
use Rattle.run_safety.proofs.Shapes.{HeldAt, Maj}
use Rattle.run_safety.proofs.Epochs.{Fin, After, maj_wrote, wrote_above}
use Rattle.run_safety.proofs.Finals.{Sealed, sealed, OkAt, ok_at, journal_keeps, keeps_same}
use Rattle.run_safety.proofs.ToldLaws.{fin_le}
use Rattle.run_safety.proofs.Induction.{good}
use Rattle.run_safety.proofs.Safety.{within_segment, start_after}

module _ (n : ℕ) (story : Story) (past : List Entry) (run : Follows n story past) where
  -- all txids up to c are chosen under epochs up to e
  abbrev pub UpTo : ℕ → ℕ → Type 0
  UpTo e c = (u : ℕ) → 1 ≤ u → u ≤ c → (f : ℕ) × (k : ℕ) × (b : List ℕ) × (f ≤ e) × Maj n past f k u b

  pub UpTo-more : (e f c : ℕ) → e ≤ f → UpTo e c → UpTo f c
  UpTo-more e f c le x = λ u one up. (let y = x u one up in (y.0, y.1, y.2, omega (arith, y.3), y.4))

  upto_fuel : (fuel e m t : ℕ) (x : List ℕ) → t < fuel → Maj n past e m t x → UpTo e t
  upto_fuel zero e m t x lt j = absurd (omega arith)
  upto_fuel (suc fuel) e m t x lt j = λ u one up. elim (cases_lt u m) [
    | inr le ↦ (let b = within_segment n story past run e m t u x j le up in (e, m, b.0, omega arith, b.1))
    | inl under ↦ chain (start_after n story past run e m t x w) u one under (λ g k l y lt2 j2. upto_fuel fuel g k l y lt2 j2)
  ]
    where
      w : Wrote n story past e m t x
      w = maj_wrote n story past run e m t x j

      above : (1 ≤ m) × (m ≤ t)
      above = wrote_above n story past run e m t x w

      chain : After n story past run e m → (u : ℕ) → 1 ≤ u → u < m → ((g k l : ℕ) (y : List ℕ) → l < fuel → Maj n past g k l y → UpTo g l)
          → (f : ℕ) × (k : ℕ) × (b : List ℕ) × (f ≤ e) × Maj n past f k u b
      chain (inl first) u one under again = absurd (omega arith)
      chain (inr c) u one under again =
          (let s : Sealed n story past run c.0 c.1 c.2 = sealed n story past run c.0 c.1 c.2 c.4 in
          let y = s.all c.2 (fin_le n story past run c.0 c.1 c.2 c.4).1 (omega arith) in
          let z = again s.epoch c.1 c.2 y.0 (omega (arith, c.5, above.1)) y.1 u one (omega (arith, c.5)) in
          (z.0, z.1, z.2, omega (arith, z.3, s.le, c.3), z.4))

  pub maj_upto : (e m t : ℕ) (x : List ℕ) → Maj n past e m t x → UpTo e t
  maj_upto e m t x j = upto_fuel (suc t) e m t x (omega arith) j

  pub fin_upto : (e m l : ℕ) → Fin n story past run e m l → UpTo e l
  fin_upto e m l x =
      let s : Sealed n story past run e m l = sealed n story past run e m l x in
      let y = s.all l (fin_le n story past run e m l x).1 (omega arith) in
      UpTo-more s.epoch e l s.le (maj_upto s.epoch m l y.0 y.1)

  after_upto : (e m c : ℕ) → After n story past run e m → c + 1 ≡ m → UpTo e c
  after_upto e m c (inl one) is = λ u a b. absurd (omega arith)
  after_upto e m c (inr x) is = (let l : x.2 ≡ c = omega (arith, x.5) in to (λ z. UpTo e z) l (UpTo-more x.0 e x.2 x.3 (fin_upto x.0 x.1 x.2 x.4)))

  -- a write that was done: each of its txids is chosen
  pub write_chosen : (a s r : ℕ) (w v : Writer) (m : ℕ) (b : BatchView) → (p : Sent n story past a s w) → r < s
      → seen_at n (story.takeover a) r ≡ Some v → v.round ≡ Write m b → (x : List ℕ) × Maj n past (story.takeover a).epoch m (last_txid b) x
  write_chosen a s r w v m b p lt at is = (y.0, record { nodes = ans.nodes; majority = ans.majority; each = each })
    where
      ans : Answers n story p.old a r
      ans = answers_of n story past a s r w run p lt (no_fetch n (story.takeover a) r v at (to (λ q. IsGet q → ⊥) (sym is) (λ z. z)))

      writer : ans.w ≡ v
      writer = some_same (sym ans.at ∙ at)

      fr : (v.committed + 1 ≡ b.first) × (v.start ≡ m) × (1 ≤ m) × (m ≤ b.first) × (v.next ≡ b.first + length b.bodies) × (1 ≤ length b.bodies)
      fr = to (λ q. Framed v q) is (frame n (story.takeover a) r v at)

      y : (body : List ℕ) × (slice_get b.bodies (length b.bodies - 1) ≡ Some body)
      y = get_there b.bodies (length b.bodies - 1) (omega (arith, fr.5))

      wrote_last : Wrote n story past (story.takeover a).epoch m (last_txid b) y.0
      wrote_last = to (λ z. Wrote n story past (story.takeover a).epoch m z y.0) (let h : b.first + (length b.bodies - 1) ≡ last_txid b = omega (arith, fr.5) in h)
          (wrote_by n story past a r v m b (Sent-round n story past a s r w v p (omega arith) at) (inr is) (length b.bodies - 1) y.0 y.1)

      each : (i : ℕ) → Member i ans.nodes → HeldAt past i (story.takeover a).epoch m (last_txid b) y.0
      each i mem = (let q = ans.each i mem in
          let ok : OkAt p.old i (asked (story.takeover a).epoch r ans.w.committed (Write m b)) = ok_at n story p.old a r ans.w i q.0 (Write m b) (ap (λ z. z.round) writer ∙ is) q.1 in
          let k = journal_keeps n story past run (story.takeover a).epoch a r ans.w p.old i m (last_txid b) b p.within refl (omega (arith, fr.2, fr.3, fr.5)) ok in
          keeps_same n story past run (story.takeover a).epoch m (last_txid b) i k.0 k.1 k.2 k.3 k.4 k.5 (last_txid b) y.0 (omega (arith, fr.3, fr.5)) (omega arith) wrote_last)

  -- an opening
  open_upto : (a s m : ℕ) (w : Writer) → Sent n story past a s w → w.round ≡ Open m → UpTo (story.takeover a).epoch w.committed
  open_upto a s m w p is = after_upto (story.takeover a).epoch m w.committed
      ((good n story past run (story.takeover a).epoch).opened_chain m (record { a = a; s = s; w = w; sent = p; epoch = refl; is = is }))
      (to (λ z. Framed w z) is (frame n (story.takeover a) s w p.at)).0

  -- the rounds of an open segment
  writing_upto : (a s : ℕ) (w : Writer) → Sent n story past a s w → IsWriting w.round → UpTo (story.takeover a).epoch w.committed
  writing_upto a zero w p writing = absurd (to (λ z. IsWriting z) (seen_first n (story.takeover a) w p.at).0 writing)
  writing_upto a (suc s) w p writing = by c.step (λ v. writing_upto a s c.writer sent_c v)
    where
      c : Comes n (story.takeover a) s w
      c = comes n (story.takeover a) s w p.at

      sent_c : Sent n story past a s c.writer
      sent_c = Sent-round n story past a (suc s) s w c.writer p (omega arith) c.at

      none : {r : Round} → w.round ≡ r → (IsWriting r → ⊥) → UpTo (story.takeover a).epoch w.committed
      none e never = absurd (never (to (λ z. IsWriting z) e writing))

      -- the committed txid after a round of an open segment
      then : (r : Round) → c.writer.round ≡ r → IsWriting r → (IsWriting c.writer.round → UpTo (story.takeover a).epoch c.writer.committed) → UpTo (story.takeover a).epoch (committed_after c.writer r)
      then (Write m b) is v again = (let j = write_chosen a (suc s) s w c.writer m b p (omega arith) c.at is in maj_upto (story.takeover a).epoch m (last_txid b) j.0 j.1)
      then (Clean l) is v again = again (to (λ r. IsWriting r) (sym is) tt)
      then Propose is v again = absurd v
      then (Ask m) is v again = absurd v
      then (Get i m l bodies) is v again = absurd v
      then (Recover b) is v again = absurd v
      then (Finalizing m l) is v again = absurd v
      then (Open m) is v again = absurd v
      then Other is v again = absurd v

      by : StepOf n (story.takeover a) s c.writer w → (IsWriting c.writer.round → UpTo (story.takeover a).epoch c.writer.committed) → UpTo (story.takeover a).epoch w.committed
      by (asks_for m is o e) again = none e (λ v. v)
      by (opens_at_one is o e) again = none e (λ v. v)
      by (opens_found_none m slots q k o e) again = none e (λ v. v)
      by (gets m node end slots q g e) again = none e (λ v. v)
      by (gets_more m node end bodies batch slots is h g e) again = none e (λ v. v)
      by (recovers m node end bodies batch slots is h g lt e) again = none e (λ v. v)
      by (seals_recovered b is e) again = none e (λ v. v)
      by (opens_next m l is e) again = none e (λ v. v)
      by (writes_first m is e st co) again = to (λ z. UpTo (story.takeover a).epoch z) (sym co) (open_upto a s m c.writer sent_c is)
      by (seals_written m b is e) again = none e (λ v. v)
      by (goes_on q v st co) again = to (λ z. UpTo (story.takeover a).epoch z) (sym co) (then c.writer.round refl q again)

  -- the head of every request that was sent
  pub head_upto : (a s : ℕ) (w : Writer) → Sent n story past a s w → UpTo (story.takeover a).epoch w.committed
  head_upto a s w p = by_round w.round refl
    where
      none_yet : (c : ℕ) → c ≡ 0 → UpTo (story.takeover a).epoch c
      none_yet c is = λ u a2 b. absurd (omega arith)

      framed : (r : Round) → w.round ≡ r → Framed w r
      framed r is = to (λ z. Framed w z) is (frame n (story.takeover a) s w p.at)

      by_round : (r : Round) → w.round ≡ r → UpTo (story.takeover a).epoch w.committed
      by_round Propose is = none_yet w.committed (framed Propose is)
      by_round (Ask m) is = none_yet w.committed (framed (Ask m) is).0
      by_round (Get i m l bodies) is = none_yet w.committed (framed (Get i m l bodies) is).0
      by_round Other is = absurd (framed Other is)
      by_round (Recover b) is = none_yet w.committed (framed (Recover b) is).0
      by_round (Finalizing m l) is = to (λ z. UpTo (story.takeover a).epoch z) (sym (framed (Finalizing m l) is).0)
          (fin_upto (story.takeover a).epoch m l (record { a = a; s = s; w = w; sent = p; epoch = refl; is = is }))
      by_round (Open m) is = open_upto a s m w p is
      by_round (Write m b) is = writing_upto a s w p (to (λ r. IsWriting r) (sym is) tt)
      by_round (Clean l) is = writing_upto a s w p (to (λ r. IsWriting r) (sym is) tt)
