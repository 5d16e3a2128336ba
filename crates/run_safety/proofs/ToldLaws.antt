-- Where all lower epochs are good: finalises agree, a segment that is final or of a high enough
-- epoch has what was chosen, and a start that a node tells comes after it.
use Rattle.std.proofs.Common.{◌≡◌, ℕ, ◌+◌, ◌<◌, ◌≤◌, ◌⊎◌, true, false, List, [], ◌∷◌, length, Some, refl, inl, inr, arith, sym, ap, ◌∙◌}
use Rattle.std.specs.Prelude.{slice_get}
use Rattle.std.proofs.lemmas.Bool.{cases_lt, cases_order}
use Rattle.journal_core.specs.Segments.{find_segment, newest, any_body, end_of, HasAt}
use Rattle.journal_core.specs.Views.{BatchView, last_txid}
use Rattle.journal_core.specs.declared.segment.Segment.{Segment}
use Rattle.journal_history.specs.Entries.{Entry, node_after, Earlier}
use Rattle.run_safety.specs.Run.{Story, Follows}
use Rattle.run_safety.proofs.SeenLaws.{Recover, Finalizing, Open, Write, seen_at}
use Rattle.run_safety.proofs.Places.{Follows-earlier}
use Rattle.journal_core.proofs.SegmentLists.{find-start, newest-found}
use Rattle.run_safety.proofs.SoundNodes.{stored_after}
use Rattle.run_safety.proofs.Slots.{some_same}
use Rattle.run_safety.proofs.Frames.{Framed}
use Rattle.run_safety.proofs.Rounds.{frame}
use Rattle.run_safety.proofs.Spans.{covers_order, sealed_last, sealed_once, seal_covers, SealCovers, write_start, write_is}
use Rattle.run_safety.proofs.Sent.{Sent, Sent-round, one_owner, to}
use Rattle.run_safety.proofs.Values.{Wrote, later_round, get_within}
use Rattle.run_safety.proofs.Shapes.{InRound, write_opens, shaped, Shaped-later, Maj}
use Rattle.run_safety.proofs.Epochs.{Fin, Rec, Opn, After, Good, AllGood, WroteBy, in_recovery, in_opened, wrote_by_round, same_epoch, higher_epoch}
use Rattle.run_safety.proofs.Epochs.{maj_wrote, held_wrote, wrote_above, owner_same, not_first}
use Rattle.run_safety.proofs.Finals.{Sealed, sealed}

module _ (n : ℕ) (story : Story) (past : List Entry) (run : Follows n story past) where
  -- a finalise comes after a recovery or an opening of its owner
  pub data FinBy (e m l : ℕ) : Type 0 where
    a_recovery : (b : BatchView) → Rec n story past run e b → b.first ≡ m → l ≡ last_txid b → FinBy e m l
    an_opening : Opn n story past run e m → FinBy e m l

  pub fin_by : (e m l : ℕ) → Fin n story past run e m l → FinBy e m l
  fin_by e m l x = go v.covers.is
    where
      v : SealCovers n (story.takeover x.a) x.s m l
      v = seal_covers n (story.takeover x.a) x.s x.w m l x.sent.at x.is

      sent_v : Sent n story past x.a v.round v.writer
      sent_v = Sent-round n story past x.a x.s v.round x.w v.writer x.sent (omega (arith, v.right_before)) v.at

      go : (v.writer.round ≡ Recover v.covers.batch) × (v.covers.batch.first ≡ m) ⊎ (v.writer.round ≡ Write m v.covers.batch) → FinBy e m l
      go (inl c) = a_recovery v.covers.batch (record { a = x.a; s = v.round; w = v.writer; sent = sent_v; epoch = x.epoch; is = c.0 }) c.1 v.last
      go (inr c) = an_opening (to (λ z. InRound n story past z (Open m)) x.epoch
          (write_opens n story past x.a v.round v.writer m sent_v (write_is v.writer m v.covers.batch c)
          (write_start v.writer m v.covers.batch (frame n (story.takeover x.a) v.round v.writer v.at) c)))

  pub fin_le : (e m l : ℕ) → Fin n story past run e m l → (1 ≤ m) × (m ≤ l)
  fin_le e m l x = let f = to (λ r. Framed x.w r) x.is (frame n (story.takeover x.a) x.s x.w x.sent.at) in (f.1, f.2)

  fin_up : (g e m l k : ℕ) → g < e → Good n story past run e → Fin n story past run g m l → Fin n story past run e m k → l ≡ k
  fin_up g e m l k lt good x y = go (fin_by e m k y)
    where
      le : (1 ≤ m) × (m ≤ l)
      le = fin_le g m l x

      go : FinBy e m k → l ≡ k
      go (an_opening o) = let h : l < m = good.opened_end m o g m l lt x in absurd (omega (arith, le.1))
      go (a_recovery b r first last) = elim (good.recovered_end b r g m l lt x) [
        | inl h ↦ absurd (omega (arith, le.1))
        | inr h ↦ omega (arith, h.1)
      ]

  -- all finalises of a segment have one end
  pub fin_once : (f g e m l k : ℕ) → AllGood n story past run f → g < f → e < f → Fin n story past run g m l → Fin n story past run e m k → l ≡ k
  fin_once f g e m l k good lg le x y = elim (cases_order g e) [
    | inr other ↦ elim other [
      | inl lt ↦ fin_up g e m l k lt (good e le) x y
      | inr gt ↦ sym (fin_up e g m k l gt (good g lg) y x)
    ]
    | inl is ↦ (let x2 : Fin n story past run e m l = to (λ z. Fin n story past run z m l) is x in
        let one : x2.a ≡ y.a = owner_same n story past run e (Finalizing m l) (Finalizing m k) x2 y
        (not_first n story past run e (Finalizing m l) x2 (λ q. cc)) (not_first n story past run e (Finalizing m k) y (λ q. cc)) in
        sealed_once n (story.takeover y.a) x2.s y.s x2.w y.w m l k (to (λ z. seen_at n (story.takeover z) x2.s ≡ Some x2.w) one x2.sent.at) y.sent.at x2.is y.is)
  ]

  -- what its owner wrote in a segment lies within its finalise
  pub fin_covers : (e m l t : ℕ) (body : List ℕ) → Fin n story past run e m l → Wrote n story past e m t body → t ≤ l
  fin_covers e m l t body x w =
      let one : w.a ≡ x.a = one_owner n story past w.a x.a w.s x.s w.w x.w run w.sent x.sent
      (later_round n story past w.a w.s w.w m t w.sent w.covers) (not_first n story past run e (Finalizing m l) x (λ q. cc)) (w.epoch ∙ sym x.epoch) in
      sealed_last n (story.takeover x.a) w.s x.s w.w x.w m l t (to (λ z. seen_at n (story.takeover z) w.s ≡ Some w.w) one w.sent.at) x.sent.at w.covers x.is

  -- ## What a segment has of what was chosen
  pub final_fin : (i m : ℕ) (q : List Entry) (g : Segment) → Earlier q past → find_segment m (node_after i q).segments ≡ Some g → g.is_final ≡ true → Fin n story past run g.epoch m (end_of g)
  final_fin i m q g p is f = (Shaped-later n story m g p (shaped n story q (Follows-earlier n story p run) i m g is)).final f

  -- final under a lower epoch
  lower_final : (f i e m t : ℕ) (body : List ℕ) (q : List Entry) (g : Segment) → AllGood n story past run f → e < f → Earlier q past
      → find_segment m (node_after i q).segments ≡ Some g → g.is_final ≡ true → g.epoch < e →
      Maj n past e m t body → HasAt g t body
  lower_final f i e m t body q g good lt p is final below j = by_writing (wrote_by_round n story past run e m t body w)
    where
      w : Wrote n story past e m t body
      w = maj_wrote n story past run e m t body j

      above : (1 ≤ m) × (m ≤ t)
      above = wrote_above n story past run e m t body w

      x : Fin n story past run g.epoch m (end_of g)
      x = final_fin i m q g p is final

      fl : (1 ≤ m) × (m ≤ end_of g)
      fl = fin_le g.epoch m (end_of g) x

      start : g.start ≡ m
      start = find-start m (node_after i q).segments g is

      whole : Sealed n story past run g.epoch m (end_of g)
      whole = sealed n story past run g.epoch m (end_of g) x

      le : whole.epoch ≤ g.epoch
      le = whole.le

      by_writing : WroteBy n story past run e m t body → HasAt g t body
      by_writing (in_opened o) = (let h : end_of g < m = (good e lt).opened_end m o g.epoch m (end_of g) below x in absurd (omega (arith, fl.1)))
      by_writing (in_recovery b first r has) = elim ((good e lt).recovered_end b r g.epoch m (end_of g) below x) [
        | inl h ↦ absurd (omega (arith, fl.1))
        | inr h ↦
            (let in_b : has.0 < length b.bodies = get_within b.bodies has.0 body has.2 in
            let up : t ≤ end_of g = omega (arith, h.1, has.1) in
            let y = whole.all t above.1 up in
            let same_body : y.0 ≡ body = elim ((good e lt).recovered b r whole.epoch m t y.0 (omega (arith, le)) y.1) [
              | inl z ↦ absurd (omega (arith, above.1))
              | inr z ↦ (let index : z.1.0 ≡ has.0 = omega (arith, z.1.1, has.1) in some_same (sym z.1.2 ∙ (ap (λ k. slice_get b.bodies k) index ∙ has.2)))
            ] in
            let long : t < m + length g.bodies = omega (arith, above.0, start) in
            to (λ z. HasAt g t z) same_body (elim (cases_lt whole.epoch g.epoch) [
              | inl less ↦ higher_epoch n story past run i whole.epoch m t y.0 q g p is less (good g.epoch (omega arith)) y.1
              | inr ge ↦ same_epoch n story past run i whole.epoch m t y.0 q g p is (omega (arith, le)) (maj_wrote n story past run whole.epoch m t y.0 y.1) long
            ]))
      ]

  -- final, or at least of that epoch and, at it, long enough
  abbrev pub HighEnough : ℕ → ℕ → ℕ → Segment → Type 0
  HighEnough e m t g = (g.is_final ≡ true) ⊎ ((e ≤ g.epoch) × (g.epoch ≡ e → t < m + length g.bodies))

  pub has_chosen : (f i e m t : ℕ) (body : List ℕ) (q : List Entry) (g : Segment) → AllGood n story past run f → e < f → g.epoch < f → Earlier q past
      → find_segment m (node_after i q).segments ≡ Some g → HighEnough e m t g →
      Maj n past e m t body → HasAt g t body
  has_chosen f i e m t body q g good lt lg p is high j = elim (cases_order e g.epoch) [
    | inl same_one ↦ elim high [
      | inr h ↦ same_epoch n story past run i e m t body q g p is (sym same_one) w (h.1 (sym same_one))
      | inl final ↦
          (let x : Fin n story past run e m (end_of g) = to (λ z. Fin n story past run z m (end_of g)) (sym same_one) (final_fin i m q g p is final) in
          let up : t ≤ end_of g = fin_covers e m (end_of g) t body x w in
          let start : g.start ≡ m = find-start m (node_after i q).segments g is in
          same_epoch n story past run i e m t body q g p is (sym same_one) w (omega (arith, above.0, above.1)))
    ]
    | inr other ↦ elim other [
      | inl less ↦ higher_epoch n story past run i e m t body q g p is less (good g.epoch lg) j
      | inr more ↦ elim high [
        | inl final ↦ lower_final f i e m t body q g good lt p is final more j
        | inr h ↦ absurd (omega (arith, h.0))
      ]
    ]
  ]
    where
      w : Wrote n story past e m t body
      w = maj_wrote n story past run e m t body j

      above : (1 ≤ m) × (m ≤ t)
      above = wrote_above n story past run e m t body w

  -- ## A start that a node tells
  pub record ToldWrote (f k : ℕ) : Type 0 where
    pub epoch : ℕ
    pub below : epoch < f
    pub body : List ℕ
    pub wrote : Wrote n story past epoch k k body

  first_body : (bodies : List (List ℕ)) → any_body bodies ≡ true → (y : List ℕ) × (slice_get bodies 0 ≡ Some y)
  first_body [] e = let no : false ≡ true = e in cc
  first_body (b ∷ bodies) e = (b, refl)

  pub told_wrote : (f i k : ℕ) (q : List Entry) → Earlier q past → newest (node_after i q).segments ≡ Some k → (node_after i q).promised < f → ToldWrote f k
  told_wrote f i k q p is lt =
      let g = newest-found k (node_after i q).segments (stored_after i q).rising is in
      let header : g.0.epoch ≤ (node_after i q).promised = ((stored_after i q).segments k g.0 g.1).header in
      let start : g.0.start ≡ k = find-start k (node_after i q).segments g.0 g.1 in
      let y = first_body g.0.bodies g.2 in
      record {
        epoch = g.0.epoch;
        below = omega arith;
        body = y.0;
        wrote = held_wrote n story past run i g.0.epoch k k y.0 (record { old = q; within = p; segment = g.0; found = g.1; header = refl; has = (0, omega arith, y.1) });
      }

  -- it comes after the end of a finalise, or is 1
  pub wrote_after : (e k : ℕ) (body : List ℕ) → Good n story past run e → Wrote n story past e k k body → After n story past run e k
  wrote_after e k body good w = go (wrote_by_round n story past run e k k body w)
    where
      go : WroteBy n story past run e k k body → After n story past run e k
      go (in_opened o) = good.opened_chain k o
      go (in_recovery b first r has) = to (λ z. After n story past run e z) first (good.recovered_chain b r)

  -- an end of a finalise of a lower epoch lies below what its owner writes in another segment, and
  -- is the end of what it recovers of the same
  pub chosen_below : (e g m t p l : ℕ) (body : List ℕ) → Good n story past run e → g < e → Wrote n story past e m t body → Fin n story past run g p l → (l < m) ⊎ (t ≤ l)
  chosen_below e g m t p l body good lt w x = go (wrote_by_round n story past run e m t body w)
    where
      go : WroteBy n story past run e m t body → (l < m) ⊎ (t ≤ l)
      go (in_opened o) = inl (good.opened_end m o g p l lt x)
      go (in_recovery b first r has) = elim (good.recovered_end b r g p l lt x) [
        | inl h ↦ inl (omega (arith, first))
        | inr h ↦ (let in_b : has.0 < length b.bodies = get_within b.bodies has.0 body has.2 in inr (omega (arith, h.1, has.1)))
      ]

  pub told_above : (f k e m t : ℕ) (body : List ℕ) → AllGood n story past run f → ToldWrote f k → e < f → Maj n past e m t body → m < k → t < k
  told_above f k e m t body good x lt j above = elim (cases_order x.epoch e) [
    | inl same_one ↦ (let y : Wrote n story past e k k x.body = to (λ z. Wrote n story past z k k x.body) same_one x.wrote in one_epoch y)
    | inr other ↦ elim other [
      | inl less ↦ lower less (wrote_after x.epoch k x.body (good x.epoch x.below) x.wrote)
      | inr more ↦ higher more (wrote_by_round n story past run x.epoch k k x.body x.wrote)
    ]
  ]
    where
      w : Wrote n story past e m t body
      w = maj_wrote n story past run e m t body j

      start : (1 ≤ m) × (m ≤ t)
      start = wrote_above n story past run e m t body w

      higher : e < x.epoch → WroteBy n story past run x.epoch k k x.body → t < k
      higher more (in_opened o) = (good x.epoch x.below).opened k o e m t body more j
      higher more (in_recovery b first r has) = elim ((good x.epoch x.below).recovered b r e m t body more j) [
        | inl h ↦ omega (arith, first)
        | inr h ↦ absurd (omega (arith, first, h.0))
      ]

      lower : x.epoch < e → After n story past run x.epoch k → t < k
      lower less (inl one) = absurd (omega (arith, start.0))
      lower less (inr y) = (let le : y.0 ≤ x.epoch = y.3 in elim (chosen_below e y.0 m t y.1 y.2 body (good e lt) (omega arith) w y.4) [
        | inl h ↦ absurd (omega (arith, y.5))
        | inr h ↦ omega (arith, y.5)
      ])

      one_epoch : Wrote n story past e k k x.body → t < k
      one_epoch y = (let one : y.a ≡ w.a = one_owner n story past y.a w.a y.s w.s y.w w.w run y.sent w.sent
          (later_round n story past y.a y.s y.w k k y.sent y.covers) (later_round n story past w.a w.s w.w m t w.sent w.covers)
          (y.epoch ∙ sym w.epoch) in
          let at : seen_at n (story.takeover w.a) y.s ≡ Some y.w = to (λ z. seen_at n (story.takeover z) y.s ≡ Some y.w) one y.sent.at in
          elim (cases_order w.s y.s) [
            | inl rounds ↦ (let writer : w.w ≡ y.w = some_same (sym w.sent.at ∙ (ap (λ z. seen_at n (story.takeover w.a) z) rounds ∙ at)) in
                absurd (one_round y writer))
            | inr other ↦ elim other [
              | inl before_it ↦ elim (covers_order n (story.takeover w.a) w.s y.s w.w y.w m k t k before_it w.sent.at at w.covers y.covers) [ inl same_start ↦ absurd (omega arith) | inr h ↦ h ]
              | inr after_it ↦ elim (covers_order n (story.takeover w.a) y.s w.s y.w w.w k m k t after_it at w.sent.at y.covers w.covers)
                  [ inl same_start ↦ absurd (omega arith) | inr h ↦ absurd (omega arith) ]
            ]
          ])
        where
          one_round : (y : Wrote n story past e k k x.body) → w.w ≡ y.w → ⊥
          one_round z writer = starts w.covers.is (to (λ u. (u.round ≡ Recover z.covers.batch) × (z.covers.batch.first ≡ k) ⊎ (u.round ≡ Write k z.covers.batch)) (sym writer) z.covers.is)
            where
              starts : (w.w.round ≡ Recover w.covers.batch) × (w.covers.batch.first ≡ m) ⊎ (w.w.round ≡ Write m w.covers.batch)
                  → (w.w.round ≡ Recover z.covers.batch) × (z.covers.batch.first ≡ k) ⊎ (w.w.round ≡ Write k z.covers.batch) → ⊥
              starts (inl u) (inl v) = (let both : Recover w.covers.batch ≡ Recover z.covers.batch = sym u.0
                  ∙ v.0 in let b : w.covers.batch ≡ z.covers.batch = cc in let first : w.covers.batch.first ≡ z.covers.batch.first =
                  ap (λ q. q.first) b in omega (arith, u.1, v.1))
              starts (inl u) (inr v) = (let no : Recover w.covers.batch ≡ Write k z.covers.batch = sym u.0 ∙ v in cc)
              starts (inr u) (inl v) = (let no : Write m w.covers.batch ≡ Recover z.covers.batch = sym u ∙ v.0 in cc)
              starts (inr u) (inr v) = (let both : Write m w.covers.batch ≡ Write k z.covers.batch = sym u ∙ v in let same_start : m ≡ k = cc in omega arith)
