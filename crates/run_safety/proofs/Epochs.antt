-- What an epoch owes to the ones below it, and what follows where all epochs below some number keep
-- it.
use Rattle.std.proofs.Common.{◌≡◌, ℕ, zero, suc, ◌+◌, ◌-◌, ◌<◌, ◌≤◌, ◌⊎◌, List, length, Some, refl, inl, inr, arith, sym, ap, ◌∙◌}
use Rattle.std.specs.Prelude.{slice_get}
use Rattle.std.proofs.lemmas.Bool.{cases_lt}
use Rattle.journal_core.specs.Segments.{find_segment, HasAt}
use Rattle.journal_core.specs.Views.{BatchView, last_txid}
use Rattle.journal_core.specs.declared.segment.Segment.{Segment}
use Rattle.writer_core.specs.Whole.{Takeover}
use Rattle.journal_history.specs.Entries.{Entry, node_after, Earlier}
use Rattle.run_safety.specs.Parts.{IsFinalised}
use Rattle.run_safety.specs.Run.{Story, Follows}
use Rattle.run_safety.proofs.SeenLaws.{seen_first, Round, Propose, Recover, Finalizing, Open, Write, Writer, seen_at}
use Rattle.run_safety.proofs.Places.{Follows-earlier}
use Rattle.run_safety.proofs.Majorities.{majorities_share}
use Rattle.journal_core.proofs.SegmentLists.{find-start}
use Rattle.run_safety.proofs.Slots.{some_same}
use Rattle.run_safety.proofs.Rounds.{frame, below_later}
use Rattle.run_safety.proofs.Frames.{Framed, low_of, end_below, IsWriting}
use Rattle.run_safety.proofs.Before.{stage, one_round}
use Rattle.run_safety.proofs.Spans.{covers_end, covers_start, Against, below_it, opens_it, in_it, against, write_start, write_is}
use Rattle.run_safety.proofs.Sent.{one_owner, to}
use Rattle.run_safety.proofs.Values.{Wrote, Wrote-later, wrote_once, held_written, later_round, get_there}
use Rattle.run_safety.proofs.Shapes.{InRound, write_opens, Shape, by_recovery, by_opening, shaped, Shaped-later, HeldAt, Maj}

-- a batch has this body at this txid
abbrev pub HasIn : BatchView → ℕ → List ℕ → Type 0
HasIn b txid body = (k : ℕ) × (txid ≡ b.first + k) × (slice_get b.bodies k ≡ Some body)

-- a takeover recovers in one round
pub recover_once : (n : ℕ) (t : Takeover) (s k : ℕ) (w x : Writer) (b c : BatchView) → seen_at n t s ≡ Some w → seen_at n t k ≡ Some x → w.round ≡ Recover b → x.round ≡ Recover c → s ≡ k
recover_once n t s k w x b c p q is also =
    let three : stage w.round ≡ 3 = ap stage is in
    let three2 : stage x.round ≡ 3 = ap stage also in
    one_round n t s k w x p q (three ∙ sym three2) (λ two. omega (arith, three, two)) (λ four. omega (arith, three, four))

module _ (n : ℕ) (story : Story) (past : List Entry) (run : Follows n story past) where
  abbrev pub Fin : ℕ → ℕ → ℕ → Type 0
  Fin e m l = InRound n story past e (Finalizing m l)

  abbrev pub Rec : ℕ → BatchView → Type 0
  Rec e b = InRound n story past e (Recover b)

  abbrev pub Opn : ℕ → ℕ → Type 0
  Opn e m = InRound n story past e (Open m)

  -- a start is 1, or comes right after the end of a finalise that was done under an epoch that
  -- isn't above f
  abbrev pub After : ℕ → ℕ → Type 0
  After f k = (k ≡ 1) ⊎ ((e : ℕ) × (m : ℕ) × (l : ℕ) × (e ≤ f) × Fin e m l × (l + 1 ≡ k) × IsFinalised n past e m l)

  -- what the owner of f owes to lower epochs
  pub record Good (f : ℕ) : Type 0 where
    pub recovered : (b : BatchView) → Rec f b → (e m t : ℕ) (body : List ℕ) → e < f → Maj n past e m t body → (t < b.first) ⊎ ((b.first ≡ m) × HasIn b t body)
    pub opened : (k : ℕ) → Opn f k → (e m t : ℕ) (body : List ℕ) → e < f → Maj n past e m t body → t < k
    pub recovered_end : (b : BatchView) → Rec f b → (e m l : ℕ) → e < f → Fin e m l → (l < b.first) ⊎ ((b.first ≡ m) × (last_txid b ≡ l))
    pub opened_end : (k : ℕ) → Opn f k → (e m l : ℕ) → e < f → Fin e m l → l < k
    pub recovered_chain : (b : BatchView) → Rec f b → After f b.first
    pub opened_chain : (k : ℕ) → Opn f k → After f k

  abbrev pub AllGood : ℕ → Type 0
  AllGood f = (e : ℕ) → e < f → Good e

  -- the rounds of one owner are those of one takeover
  pub owner_same : (e : ℕ) (r q : Round) (x : InRound n story past e r) (y : InRound n story past e q) → 0 < x.s → 0 < y.s → x.a ≡ y.a
  owner_same e r q x y p l = one_owner n story past x.a y.a x.s y.s x.w y.w run x.sent y.sent p l (x.epoch ∙ sym y.epoch)

  pub not_first : (e : ℕ) (r : Round) (x : InRound n story past e r) → (r ≡ Propose → ⊥) → 0 < x.s
  not_first e r x other = go x.s x.sent.at
    where
      go : (s : ℕ) → seen_at n (story.takeover x.a) s ≡ Some x.w → 0 < s
      go zero at = absurd (other (sym x.is ∙ (seen_first n (story.takeover x.a) x.w at).0))
      go (suc s) at = omega arith

  -- ## What was written under an epoch
  pub held_wrote : (i e m t : ℕ) (body : List ℕ) → HeldAt past i e m t body → Wrote n story past e m t body
  held_wrote i e m t body h =
      let start : h.segment.start ≡ m = find-start m (node_after i h.old).segments h.segment h.found in
      let w : Wrote n story h.old h.segment.epoch h.segment.start t body =
      held_written n story h.old (Follows-earlier n story h.within run) i h.segment t body (ap (λ z. find_segment z (node_after i h.old).segments) start ∙ h.found) h.has in
      Wrote-later n story e m t body h.within (to (λ z. Wrote n story h.old z m t body) h.header (to (λ z. Wrote n story h.old h.segment.epoch z t body) start w))

  pub maj_wrote : (e m t : ℕ) (body : List ℕ) → Maj n past e m t body → Wrote n story past e m t body
  maj_wrote e m t body j = let i = majorities_share n j.nodes j.nodes j.majority j.majority in held_wrote i.0 e m t body (j.each i.0 i.1)

  pub wrote_above : (e m t : ℕ) (body : List ℕ) → Wrote n story past e m t body → (1 ≤ m) × (m ≤ t)
  wrote_above e m t body w = covers_start w.w m t (frame n (story.takeover w.a) w.s w.w w.sent.at) w.covers

  -- where the owner opened the segment or recovered it
  pub data WroteBy (e m t : ℕ) (body : List ℕ) : Type 0 where
    in_recovery : (b : BatchView) → b.first ≡ m → Rec e b → HasIn b t body → WroteBy e m t body
    in_opened : Opn e m → WroteBy e m t body

  pub wrote_by_round : (e m t : ℕ) (body : List ℕ) → Wrote n story past e m t body → WroteBy e m t body
  wrote_by_round e m t body w = go w.covers.is
    where
      go : (w.w.round ≡ Recover w.covers.batch) × (w.covers.batch.first ≡ m) ⊎ (w.w.round ≡ Write m w.covers.batch) → WroteBy e m t body
      go (inl x) = in_recovery w.covers.batch x.1 (record { a = w.a; s = w.s; w = w.w; sent = w.sent; epoch = w.epoch; is = x.0 }) (w.k, w.place, w.has)
      go (inr x) = in_opened (to (λ z. InRound n story past z (Open m)) w.epoch
          (write_opens n story past w.a w.s w.w m w.sent (write_is w.w m w.covers.batch x) (write_start w.w m w.covers.batch (frame n (story.takeover w.a) w.s w.w w.sent.at) x)))

  -- a recovery has all that its owner wrote in that segment
  pub recovery_has : (e m t : ℕ) (b : BatchView) (body : List ℕ) → Rec e b → b.first ≡ m → Wrote n story past e m t body → HasIn b t body
  recovery_has e m t b body r first w = go w.covers.is
    where
      one : r.a ≡ w.a
      one = one_owner n story past r.a w.a r.s w.s r.w w.w run r.sent w.sent (not_first e (Recover b) r (λ x. cc)) (later_round n story past w.a w.s w.w m t w.sent w.covers) (r.epoch ∙ sym w.epoch)

      at : seen_at n (story.takeover w.a) r.s ≡ Some r.w
      at = ap (λ z. seen_at n (story.takeover z) r.s) (sym one) ∙ r.sent.at

      fr : (r.w.committed ≡ 0) × (1 ≤ b.first) × (1 ≤ length b.bodies)
      fr = to (λ z. Framed r.w z) r.is (frame n (story.takeover w.a) r.s r.w at)

      start : (1 ≤ m) × (m ≤ t)
      start = covers_start w.w m t (frame n (story.takeover w.a) w.s w.w w.sent.at) w.covers

      past_end : t < end_below w.w w.w.round
      past_end = covers_end w.w m t w.covers

      place : Against n (story.takeover w.a) r.s r.w w.w.start → w.w.start ≡ m → ⊥
      place (below_it h) is = let h2 : b.first + length b.bodies ≤ w.w.start = to (λ z. end_below r.w z ≤ w.w.start) r.is h in omega (arith, fr.2)
      place (opens_it h) is = let no : Recover b ≡ Open w.w.start = sym r.is ∙ h in cc
      place (in_it h q) is = to (λ z. IsWriting z) r.is h

      never : w.w.round ≡ Write m w.covers.batch → ⊥
      never x = elim (cases_lt w.s r.s) [
        | inl lt ↦ (let h : end_below w.w w.w.round ≤ low_of r.w r.w.round = below_later n (story.takeover w.a) w.s r.s w.w r.w lt w.sent.at at in
            let h2 : end_below w.w w.w.round ≤ b.first = to (λ z. end_below w.w w.w.round ≤ low_of r.w z) r.is h in omega (arith, past_end, start.1))
        | inr le ↦ place (against n (story.takeover w.a) r.s w.s r.w w.w le at w.sent.at (write_is w.w m w.covers.batch x))
            (write_start w.w m w.covers.batch (frame n (story.takeover w.a) w.s w.w w.sent.at) x)
      ]

      go : (w.w.round ≡ Recover w.covers.batch) × (w.covers.batch.first ≡ m) ⊎ (w.w.round ≡ Write m w.covers.batch) → HasIn b t body
      go (inr x) = absurd (never x)
      go (inl x) =
          (let rounds : r.s ≡ w.s = recover_once n (story.takeover w.a) r.s w.s r.w w.w b w.covers.batch at w.sent.at r.is x.0 in
          let writer : r.w ≡ w.w = some_same (sym at ∙ (ap (λ z. seen_at n (story.takeover w.a) z) rounds ∙ w.sent.at)) in
          let both : Recover b ≡ Recover w.covers.batch = sym r.is ∙ (ap (λ z. z.round) writer ∙ x.0) in
          let same_one : b ≡ w.covers.batch = cc in
          (w.k, w.place ∙ ap (λ z. z.first + w.k) (sym same_one), ap (λ z. slice_get z.bodies w.k) same_one ∙ w.has))

  -- ## What a segment has that stands under an epoch
  pub has_place : (i m t : ℕ) (q : List Entry) (g : Segment) → Earlier q past → find_segment m (node_after i q).segments ≡ Some g → m ≤ t
      → t < m + length g.bodies → (y : List ℕ) × HasAt g t y × Wrote n story past g.epoch m t y
  has_place i m t q g p is le lt =
      let start : g.start ≡ m = find-start m (node_after i q).segments g is in
      let y = get_there g.bodies (t - m) (omega arith) in
      let has : HasAt g t y.0 = (t - m, omega arith, y.1) in
      (y.0, has, held_wrote i g.epoch m t y.0 (record { old = q; within = p; segment = g; found = is; header = refl; has = has }))

  -- under the same epoch: the same body
  pub same_epoch : (i e m t : ℕ) (body : List ℕ) (q : List Entry) (g : Segment) → Earlier q past → find_segment m (node_after i q).segments ≡ Some g
      → g.epoch ≡ e → Wrote n story past e m t body → t < m + length g.bodies → HasAt g t body
  same_epoch i e m t body q g p is header w lt =
      let x = has_place i m t q g p is (wrote_above e m t body w).1 lt in
      let once = wrote_once n story past e m m t x.0 body run (to (λ z. Wrote n story past z m t x.0) header x.2) w in
      to (λ z. HasAt g t z) once.1 x.1

  -- under a higher epoch: what a majority held
  pub higher_epoch : (i e m t : ℕ) (body : List ℕ) (q : List Entry) (g : Segment) → Earlier q past → find_segment m (node_after i q).segments ≡ Some g
      → e < g.epoch → Good g.epoch → Maj n past e m t body → HasAt g t body
  higher_epoch i e m t body q g p is lt good j = go (Shaped-later n story m g p (shaped n story q (Follows-earlier n story p run) i m g is)).shape
    where
      above : (1 ≤ m) × (m ≤ t)
      above = wrote_above e m t body (maj_wrote e m t body j)

      start : g.start ≡ m
      start = find-start m (node_after i q).segments g is

      go : Shape n story past m g.epoch g.bodies → HasAt g t body
      go (by_opening o) = let h : t < m = good.opened m o e m t body lt j in absurd (omega (arith, above.1))
      go (by_recovery b first r bodies) = elim (good.recovered b r e m t body lt j) [
        | inl h ↦ absurd (omega (arith, above.1))
        | inr h ↦ (h.1.0, omega (arith, start, h.0, h.1.1), ap (λ z. slice_get z h.1.0) bodies ∙ h.1.2)
      ]
