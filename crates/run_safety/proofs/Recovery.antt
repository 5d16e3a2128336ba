-- Before its answer to a prepare a node keeps what was chosen, unless the owner of that epoch had
-- finalised the segment and gone on.
use Rattle.std.proofs.Common.{◌≡◌, ℕ, zero, suc, ◌+◌, ◌<◌, ◌≤◌, ◌⊎◌, true, List, ◌∷◌, length, Option, Some, refl, inl, inr, arith, subst, sym, ap, ◌∙◌}
use Rattle.std.specs.Prelude.{slice_get}
use Rattle.std.proofs.lemmas.Bool.{cases_order, cases_eq, cond-true}
use Rattle.journal_core.specs.Limits.{head_of}
use Rattle.journal_core.specs.Segments.{find_segment, newest, has_edit, end_of, HasAt}
use Rattle.journal_core.specs.Step.{last_or_start}
use Rattle.journal_core.specs.Views.{HeadView}
use Rattle.journal_core.specs.declared.request.Request.{Request}
use Rattle.journal_core.specs.declared.request.Request.TheVariants.{Purge}
use Rattle.journal_core.specs.declared.segment.Segment.{Segment}
use Rattle.run_safety.specs.Majority.{Member}
use Rattle.journal_history.specs.Entries.{Entry, node_after, Earlier}
use Rattle.run_safety.specs.Run.{Story, Follows}
use Rattle.run_safety.proofs.SeenLaws.{Round, Propose, Ask, Get, Recover, Finalizing, Open, Write, Clean, Writer, seen_at, asked, seen_first}
use Rattle.run_safety.proofs.Places.{Earlier-trans, Earlier-tail, Follows-earlier}
use Rattle.journal_core.proofs.SegmentLists.{newest-above}
use Rattle.journal_core.proofs.Steps.{front_le}
use Rattle.run_safety.proofs.SoundNodes.{stored_after, promise_earlier}
use Rattle.journal_core.proofs.Changes.{Change, same, created, grown, made_final, replaced, removed, NoEdit}
use Rattle.run_safety.proofs.Along.{Requested, Changes, along, node_here}
use Rattle.run_safety.proofs.Slots.{some_same, true≢false}
use Rattle.run_safety.proofs.Frames.{Framed, IsWriting, IsGet}
use Rattle.run_safety.proofs.Rounds.{frame}
use Rattle.run_safety.proofs.Spans.{FirstWrite, first_write, clean_below_start}
use Rattle.run_safety.proofs.Sent.{Sent, Sent-later, Sent-round, OfRound, round_within, one_owner, Answers, answers_of, no_fetch, to}
use Rattle.run_safety.proofs.Values.{Wrote, wrote_by, purge_round, accept_round, edit_of, get_append_left, later_round, get_within, get_there}
use Rattle.run_safety.proofs.Shapes.{InRound, write_opens, HeldAt, Maj}
use Rattle.run_safety.proofs.Epochs.{Rec, Opn, After, AllGood, recovery_has, maj_wrote, wrote_above, not_first}
use Rattle.run_safety.proofs.Finals.{OkAt, ok_at, journal_keeps, keeps_same}
use Rattle.run_safety.proofs.ToldLaws.{ToldWrote, told_wrote, wrote_after}
use Rattle.run_safety.proofs.Between.{head_promise, sealed_between, held_before}
use Rattle.run_safety.proofs.Prepares.{Asking, AnswerAt, no_own, no_later}

-- a round that may change segments
abbrev pub IsWork : Round → Type 0
IsWork Propose = ⊥
IsWork (Ask m) = ⊥
IsWork (Get node m end bodies) = ⊥
IsWork _ = Unit {0}

-- a segment with an edit ends at its last body
end_at : (g : Segment) (u : ℕ) (body : List ℕ) → HasAt g u body → (u ≤ end_of g) × (last_or_start g ≡ end_of g)
end_at g u body h =
    let lt : h.0 < length g.bodies = get_within g.bodies h.0 body h.2 in
    (omega (arith, h.1), cond-true (has_edit g) (end_of g) g.start (edit_of g u body h))

module _ (n : ℕ) (story : Story) (past : List Entry) (run : Follows n story past) where
  -- what the first write of a segment leaves: its first txid is chosen
  pub first_chosen : (a s : ℕ) (w : Writer) (min : ℕ) → Sent n story past a s w → w.round ≡ Clean min → (body : List ℕ) × Maj n past (story.takeover a).epoch w.start w.start body
  first_chosen a s w min p is = (y.0, record { nodes = ans.nodes; majority = ans.majority; each = each })
    where
      fw : FirstWrite n (story.takeover a) s w.start
      fw = first_write n (story.takeover a) s w min p.at is

      ans : Answers n story p.old a fw.round
      ans = answers_of n story past a s fw.round w run p fw.before (no_fetch n (story.takeover a) fw.round fw.writer fw.at (to (λ r. IsGet r → ⊥) (sym fw.is) (λ z. z)))

      writer : ans.w ≡ fw.writer
      writer = some_same (sym ans.at ∙ fw.at)

      fr : (fw.writer.committed + 1 ≡ fw.batch.first) × (fw.writer.start ≡ w.start) × (1 ≤ w.start) × (w.start ≤ fw.batch.first)
          × (fw.writer.next ≡ fw.batch.first + length fw.batch.bodies) × (1 ≤ length fw.batch.bodies)
      fr = to (λ r. Framed fw.writer r) fw.is (frame n (story.takeover a) fw.round fw.writer fw.at)

      y : (body : List ℕ) × (slice_get fw.batch.bodies 0 ≡ Some body)
      y = get_there fw.batch.bodies 0 (omega (arith, fr.5))

      sent_f : Sent n story past a fw.round fw.writer
      sent_f = Sent-round n story past a s fw.round w fw.writer p (omega (arith, fw.before)) fw.at

      wrote_first : Wrote n story past (story.takeover a).epoch w.start w.start y.0
      wrote_first = to (λ z. Wrote n story past (story.takeover a).epoch w.start z y.0) (let h : fw.batch.first + 0 ≡ w.start = omega (arith, fw.first) in h)
          (wrote_by n story past a fw.round fw.writer w.start fw.batch sent_f (inr fw.is) 0 y.0 y.1)

      each : (i : ℕ) → Member i ans.nodes → HeldAt past i (story.takeover a).epoch w.start w.start y.0
      each i mem = (let r = ans.each i mem in
          let ok : OkAt p.old i (asked (story.takeover a).epoch fw.round ans.w.committed (Write w.start fw.batch)) =
          ok_at n story p.old a fw.round ans.w i r.0 (Write w.start fw.batch) (ap (λ z. z.round) writer ∙ fw.is) r.1 in
          let j = journal_keeps n story past run (story.takeover a).epoch a fw.round ans.w p.old i w.start w.start fw.batch p.within refl (omega (arith, fr.5, fw.first)) ok in
          keeps_same n story past run (story.takeover a).epoch w.start w.start i j.0 j.1 j.2 j.3 j.4 j.5 w.start y.0 (omega arith) (omega arith) wrote_first)

  -- the owner of e finalised m, and went on
  pub record SealDone (e m : ℕ) : Type 0 where
    pub a : ℕ
    pub s : ℕ
    pub w : Writer
    pub sent : Sent n story past a s w
    pub epoch : (story.takeover a).epoch ≡ e
    pub round : ℕ
    pub earlier : round < s
    pub writer : Writer
    pub at : seen_at n (story.takeover a) round ≡ Some writer
    pub end : ℕ
    pub is : writer.round ≡ Finalizing m end

  module _ (f m : ℕ) (x : Asking n story past run f m) (good : AllGood n story past run f) (e u : ℕ) (body : List ℕ) (below : e < f) (j : Maj n past e m u body) where
    pub wrote : Wrote n story past e m u body
    wrote = maj_wrote n story past run e m u body j

    pub above : (1 ≤ m) × (m ≤ u)
    above = wrote_above n story past run e m u body wrote

    -- the request of a change before the answer has a lower epoch
    pub cause_below : (i : ℕ) (y : AnswerAt n story past run f m x i) (e0 : Entry) (old : List Entry) → Earlier (e0 ∷ old) y.old
        → (c : Changes i e0 old m) → (z : OfRound n story y.old c.by.request) → (h : HeadView) → head_of c.by.request ≡ Some h →
        IsWork z.w.round → (story.takeover z.a).epoch ≡ h.epoch → h.epoch < f
    cause_below i y e0 old p c z h is work same_epoch = elim (cases_eq h.epoch f) [
      | inr other ↦ omega (arith, up, later, y.promise)
      | inl at_f ↦ absurd (no_own n story past run f m x i y z.a z.s z.w z.sent (same_epoch ∙ at_f) (late (same_epoch ∙ at_f) z.s refl))
    ]
      where
        up : h.epoch ≤ (node_after i (e0 ∷ old)).promised
        up = to (λ s. h.epoch ≤ s.promised) (sym (node_here i e0 old c.node)) (head_promise (node_after i old) e0.move c.by.request h c.by.asked c.by.passed is)

        later : (node_after i (e0 ∷ old)).promised ≤ (node_after i y.old).promised
        later = promise_earlier i p

        inside : Earlier y.old past
        inside = Earlier-tail y.within

        late : (story.takeover z.a).epoch ≡ f → (k : ℕ) → z.s ≡ k → 1 < z.s
        late q zero r = absurd (to IsWork (seen_first n (story.takeover z.a) z.w (ap (λ k2. seen_at n (story.takeover z.a) k2) (sym r) ∙ z.sent.at)).0 work)
        late q (suc zero) r = (let one : z.a ≡ x.a = one_owner n story past z.a x.a z.s x.s z.w x.w run (Sent-later n story z.a z.s z.w inside z.sent)
            x.sent (omega (arith, r)) (omega (arith, x.later)) (q ∙ sym x.epoch) in
            let asks : z.w ≡ x.asks = some_same (sym z.sent.at ∙ (ap (λ k2. seen_at n (story.takeover z.a) k2) r ∙ (ap (λ b. seen_at n (story.takeover b) 1) one ∙ x.at))) in
            absurd (to IsWork (ap (λ v. v.round) asks ∙ x.is) work))
        late q (suc (suc k)) r = omega (arith, r)

    pub round_here : (i : ℕ) (y : AnswerAt n story past run f m x i) (e0 : Entry) (old : List Entry) → Earlier (e0 ∷ old) y.old → (c : Changes i e0 old m) → OfRound n story y.old c.by.request
    round_here i y e0 old p c = round_within n story y.old old e0 c.by.request (Follows-earlier n story (Earlier-tail y.within) run) p
        (subst (λ z. Requested (node_after z old) e0.move c.by.request) (sym c.node) c.by.asked)

    -- a purge that removes a segment which has it
    removed_case : (i : ℕ) (y : AnswerAt n story past run f m x i) (old : List Entry) → Earlier old y.old → (r : Request) (h : HeadView) (l : ℕ)
        → r ≡ Purge h l → (z : OfRound n story y.old r) → (g : Segment) → find_segment m (node_after i old).segments ≡ Some g → e ≤ g.epoch
        → HasAt g u body →
        (node_after i old).promised ≤ h.epoch → h.epoch < f → (has_edit g ≡ true → newest (node_after i old).segments ≡ Some m → ⊥) → last_or_start g ≤ h.committed → SealDone e m
    removed_case i y old p r h l q z g is le has up lt newer low = elim (cases_order e h.epoch) [
      | inl same_epoch ↦ own same_epoch (cases_order z.w.start m)
      | inr other ↦ elim other [
        | inr more ↦ absurd (omega (arith, le, header, up))
        | inl less ↦ absurd (let o : u < z.w.start = (good h.epoch lt).opened z.w.start opens e m u body less j in omega (arith, start_le, above.1))
      ]
    ]
      where
        inside : Earlier y.old past
        inside = Earlier-tail y.within

        pr : (z.w.round ≡ Clean l) × (h.epoch ≡ (story.takeover z.a).epoch) × (h.committed ≡ z.w.committed)
        pr = purge_round (story.takeover z.a).epoch z.s z.w.committed z.w.round h l (sym q ∙ z.is)

        sent_z : Sent n story past z.a z.s z.w
        sent_z = Sent-later n story z.a z.s z.w inside z.sent

        header : g.epoch ≤ (node_after i old).promised
        header = ((stored_after i old).segments m g is).header

        ends : (u ≤ end_of g) × (last_or_start g ≡ end_of g)
        ends = end_at g u body has

        first : (b : List ℕ) × Maj n past (story.takeover z.a).epoch z.w.start z.w.start b
        first = first_chosen z.a z.s z.w l sent_z pr.0

        start_le : z.w.start ≤ m
        start_le = no_later n story past run f m x (story.takeover z.a).epoch z.w.start z.w.start first.0 (omega (arith, pr.1, lt)) first.1

        opens : Opn n story past run h.epoch z.w.start
        opens = to (λ k. InRound n story past k (Open z.w.start)) (sym pr.1) (write_opens n story past z.a z.s z.w z.w.start sent_z (to (λ k. IsWriting k) (sym pr.0) tt) refl)

        zs : 0 < z.s
        zs = not_first n story past run (story.takeover z.a).epoch (Clean l) (record { a = z.a; s = z.s; w = z.w; sent = sent_z; epoch = refl; is = pr.0 }) (λ k. cc)

        top : (k : ℕ) × (newest (node_after i old).segments ≡ Some k) × (m ≤ k)
        top = newest-above m (node_after i old).segments g is (edit_of g u body has)

        chain : (v : ℕ) → v < e → e ≡ h.epoch → z.w.start ≡ m → m < top.0 → After n story past run v top.0 → ⊥
        chain v lt2 same_epoch start gt (inl one) = omega (arith, above.0)
        chain v lt2 same_epoch start gt (inr c) = (let o : c.2 < m =
            (good e below).opened_end m (to (λ k. Opn n story past run e k) start (to (λ k. Opn n story past run k z.w.start) (sym same_epoch) opens))
            c.0 c.1 c.2 (omega (arith, c.3)) c.4 in omega (arith, c.5))

        sealed_later : e ≡ h.epoch → z.w.start ≡ m → m < top.0 → (v : List ℕ) → Wrote n story past e top.0 top.0 v → SealDone e m
        sealed_later same_epoch start gt v v2 = (let one : z.a ≡ v2.a =
            one_owner n story past z.a v2.a z.s v2.s z.w v2.w run sent_z v2.sent zs
            (later_round n story past v2.a v2.s v2.w top.0 top.0 v2.sent v2.covers) (sym pr.1 ∙ (sym same_epoch ∙ sym v2.epoch)) in
            let b = sealed_between n (story.takeover v2.a) z.s v2.s z.w v2.w l m top.0 (to (λ k. seen_at n (story.takeover k) z.s ≡ Some z.w) one sent_z.at) pr.0 start v2.sent.at v2.covers gt in
            record { a = v2.a; s = v2.s; w = v2.w; sent = v2.sent; epoch = v2.epoch; round = b.0.round; earlier = b.1; writer = b.0.writer; at = b.0.at; end = b.0.end; is = b.0.is })

        later_start : e ≡ h.epoch → z.w.start ≡ m → m < top.0 → ToldWrote n story past run (suc e) top.0 → SealDone e m
        later_start same_epoch start gt v = (let b : v.epoch < suc e = v.below in
            elim (cases_eq v.epoch e) [
              | inr other ↦ absurd (chain v.epoch (omega arith) same_epoch start gt (wrote_after n story past run v.epoch top.0 v.body (good v.epoch (omega arith)) v.wrote))
              | inl at_e ↦ sealed_later same_epoch start gt v.body (to (λ k. Wrote n story past k top.0 top.0 v.body) at_e v.wrote)
            ])

        own : e ≡ h.epoch → (z.w.start ≡ m) ⊎ ((z.w.start < m) ⊎ (m < z.w.start)) → SealDone e m
        own same_epoch (inr (inr gt)) = absurd (omega (arith, start_le))
        own same_epoch (inr (inl lower)) = absurd
            (let one : z.a ≡ wrote.a = one_owner n story past z.a wrote.a z.s wrote.s z.w wrote.w run sent_z wrote.sent zs
            (later_round n story past wrote.a wrote.s wrote.w m u wrote.sent wrote.covers) (sym pr.1 ∙ (sym same_epoch ∙ sym wrote.epoch)) in
            let c : z.w.committed < m = clean_below_start n (story.takeover wrote.a) z.s wrote.s z.w wrote.w l m u
            (to (λ k. seen_at n (story.takeover k) z.s ≡ Some z.w) one sent_z.at) wrote.sent.at pr.0 wrote.covers lower in
            omega (arith, ends.0, ends.1, low, pr.2, above.1))
        own same_epoch (inl start) = elim (cases_eq top.0 m) [
          | inl is_top ↦ absurd (newer (edit_of g u body has) (top.1 ∙ ap (λ k. Some k) is_top))
          | inr other ↦ later_start same_epoch start (omega (arith, top.2)) (told_wrote n story past run (suc e) i top.0 old (Earlier-trans p inside) top.1 (omega (arith, up)))
        ]

    -- the segment still has it, or its owner finalised it and went on
    abbrev pub Kept : Option Segment → Type 0
    Kept o = ((g : Segment) × (o ≡ Some g) × (e ≤ g.epoch) × HasAt g u body) ⊎ SealDone e m

    -- over one change
    kept_change : (i : ℕ) (y : AnswerAt n story past run f m x i) (old : List Entry) → Earlier old y.old → (o new : Option Segment) (r : Request)
        → Change (node_after i old) r m o new → (z : OfRound n story y.old r) →
        ((h : HeadView) → head_of r ≡ Some h → IsWork z.w.round → (story.takeover z.a).epoch ≡ h.epoch → h.epoch < f) → ((h : HeadView) → head_of r ≡ Some h → (node_after i old).promised ≤ h.epoch) →
        find_segment m (node_after i old).segments ≡ o → (g : Segment) → o ≡ Some g → e ≤ g.epoch → HasAt g u body → Kept new
    kept_change i y old p o new r same z lt up is g at le has = inl (g, at, le, has)
    kept_change i y old p o new r (created h q none) z lt up is g at le has = absurd (true≢false (sym (edit_of g u body has) ∙ to NoEdit at none))
    kept_change i y old p (Some k) new r (grown h b q header f2 first) z lt up is g at le has =
        let one : g ≡ k = sym (some_same at) in
        let has_k : HasAt k u body = to (λ v. HasAt v u body) one has in
        inl (_, refl, to (λ v. e ≤ v.epoch) one le, (has_k.0, has_k.1, get_append_left k.bodies b.bodies has_k.0 body has_k.2))
    kept_change i y old p (Some k) new r (made_final h l q edit f2 header ends) z lt up is g at le has =
        let one : g ≡ k = sym (some_same at) in
        inl (_, refl, to (λ v. e ≤ v.epoch) one le, to (λ v. HasAt v u body) one has)
    kept_change i y old p o new r (replaced h b q first f2) z lt up is g at le has = elim (cases_eq e h.epoch) [
      | inl same_epoch ↦ (let w = recovery_has n story past run e m u b body (to (λ k. Rec n story past run k b) (sym (same_epoch ∙ ar.1)) rec) first wrote in inl (_, refl, omega arith, w))
      | inr other ↦ elim ((good h.epoch h_lt).recovered b (to (λ k. Rec n story past run k b) (sym ar.1) rec) e m u body (omega (arith, header, h_up, le)) j) [
        | inl n_lt ↦ absurd (omega (arith, first, above.1))
        | inr w ↦ inl (_, refl, omega (arith, header, h_up, le), w.1)
      ]
    ]
      where
        inside : Earlier y.old past
        inside = Earlier-tail y.within

        ar : (z.w.round ≡ Recover b) × (h.epoch ≡ (story.takeover z.a).epoch)
        ar = accept_round (story.takeover z.a).epoch z.s z.w.committed z.w.round h b (sym q ∙ z.is)

        rec : Rec n story past run (story.takeover z.a).epoch b
        rec = record { a = z.a; s = z.s; w = z.w; sent = Sent-later n story z.a z.s z.w inside z.sent; epoch = refl; is = ar.0 }

        h_lt : h.epoch < f
        h_lt = lt h (ap head_of q) (to IsWork (sym ar.0) tt) (sym ar.1)

        h_up : (node_after i old).promised ≤ h.epoch
        h_up = up h (ap head_of q)

        header : g.epoch ≤ (node_after i old).promised
        header = ((stored_after i old).segments m g (is ∙ at)).header
    kept_change i y old p (Some k) new r (removed h l q newer low shut) z lt up is g at le has =
        let one : g ≡ k = sym (some_same at) in
        let pr = purge_round (story.takeover z.a).epoch z.s z.w.committed z.w.round h l (sym q ∙ z.is) in
        inr (removed_case i y old p r h l q z k is (to (λ v. e ≤ v.epoch) one le) (to (λ v. HasAt v u body) one has) (up h (ap head_of q))
        (lt h (ap head_of q) (to IsWork (sym pr.0) tt) (sym pr.1)) newer low)

    -- from a place where it was held to the answer
    pub kept_along : (i : ℕ) (y : AnswerAt n story past run f m x i) (q : List Entry) → Earlier q y.old
        → Kept (find_segment m (node_after i q).segments) → Kept (find_segment m (node_after i y.old).segments)
    kept_along i y q p k = along i m Kept p k
        (λ e0 old a b c v. elim v [
          | inr done_already ↦ inr done_already
          | inl h ↦ (let z : OfRound n story y.old c.by.request = round_here i y e0 old b c in
              kept_change i y old (Earlier-tail b) _ _ c.by.request c.by.change z (λ hd is work same_epoch. cause_below i y e0 old b c z hd is work same_epoch)
              (λ hd is. front_le (node_after i old) c.by.request hd is c.by.passed) refl h.0 h.1 h.2 h.3)
        ])

    -- what a holder among those that answered has at its answer
    pub kept_at_answer : (i : ℕ) (y : AnswerAt n story past run f m x i) → HeldAt past i e m u body → Kept (find_segment m (node_after i y.old).segments)
    kept_at_answer i y h =
        let b = held_before i e m u body y.entry y.old past h y.within (omega (arith, y.after)) (y.quiet m) in
        let header : b.1.epoch ≡ e = b.4 in
        kept_along i y b.0 b.2 (inl (b.1, b.3, omega arith, b.5))
