-- The parts of what every run keeps, in the terms of specs/Parts.
use Rattle.std.proofs.Common.{◌≡◌, ℕ, zero, suc, ◌<◌, ◌≤◌, ◌⊎◌, List, ◌∷◌, length, Option, Some, None, refl, inl, inr, arith, sym, ap, ◌∙◌}
use Rattle.std.specs.Prelude.{◌+◌, slice_get}
use Rattle.std.proofs.lemmas.Bool.{cases_order}
use Rattle.journal_core.specs.Laws.{IsStored}
use Rattle.journal_core.specs.Views.{HeadView, BatchView}
use Rattle.journal_core.specs.Limits.{head_of}
use Rattle.journal_core.specs.Segments.{find_segment, HasAt}
use Rattle.journal_core.specs.declared.segment.Segment.{Segment}
use Rattle.journal_core.specs.declared.segment_info.SegmentInfo.{SegmentInfo}
use Rattle.journal_core.specs.declared.request.Request.{Request}
use Rattle.journal_core.specs.declared.request.Request.TheVariants.{Start, Finalize, Accept}
use Rattle.journal_core.specs.declared.reply.Reply.{Reply}
use Rattle.journal_core.specs.declared.reply.Reply.TheVariants.{Ok, State as StateTold, NewEpoch as EpochTaken, Prepared, Edits, Segments, Refused}
use Rattle.journal_core.specs.declared.heard.Heard.TheVariants.{Answer as AnswerHeard}
use Rattle.writer_core.specs.declared.slot.Slot.TheVariants.{Told}
use Rattle.writer_core.specs.Best.{Best, best_of, segment_told}
use Rattle.journal_history.specs.Entries.{Way, Heard, Entry, Answer, node_after, Earlier}
use Rattle.run_safety.specs.Run.{Story, Follows, IsNext, takeover_at}
use Rattle.run_safety.specs.Safe.{IsHeld, IsChosen, IsOf, IsStart}
use Rattle.run_safety.specs.Parts.{KeepsPromise, IsRefused, IsAfterFinalised, ToldPrepare, IsNotAbove, IsWhole}
use Rattle.run_safety.proofs.Places.{Earlier-trans, Earlier-tail, Follows-earlier, next_of}
use Rattle.run_safety.proofs.SoundNodes.{stored_after, led_after}
use Rattle.run_safety.proofs.Along.{node_here}
use Rattle.run_safety.proofs.Slots.{none≢some, some_same, not_above, IsTop, best_is_top}
use Rattle.run_safety.proofs.SeenLaws.{Propose, Recover, Open, Writer, seen, seen_at, seen_first, asked}
use Rattle.run_safety.proofs.Sent.{made_of, made_at, made_asks, Sent, OfRound, round_within, one_owner, to}
use Rattle.run_safety.proofs.Values.{Wrote, wrote_once, start_round, accept_round, finalize_round}
use Rattle.run_safety.proofs.Oks.{Passed, passed, NotRefused}
use Rattle.run_safety.proofs.Shapes.{Shape, by_recovery, by_opening, shaped, Shaped-later, HeldAt, Maj}
use Rattle.run_safety.proofs.Frames.{Framed, end_below, low_of}
use Rattle.run_safety.proofs.Rounds.{frame, below_later}
use Rattle.run_safety.proofs.Before.{stage, StageLater, stage_later}
use Rattle.run_safety.proofs.Epochs.{Fin, Rec, Opn, After, held_wrote, owner_same, not_first}
use Rattle.run_safety.proofs.Finals.{Sealed, sealed}
use Rattle.run_safety.proofs.Between.{head_promise}
use Rattle.run_safety.proofs.Prepares.{Asking, AnswerAt, answer_at, answers}
use Rattle.run_safety.proofs.Best.{AnswerOf, best_answer}
use Rattle.run_safety.proofs.Induction.{FromBest, from_best, good}
use Rattle.run_safety.proofs.Safety.{chosen_maj, maj_chosen, start_after}
use Rattle.run_safety.proofs.Served.{head_round}

pub keeps_promise : (i : ℕ) (past : List Entry) → KeepsPromise (node_after i past)
keeps_promise i past =
    let d : IsStored (node_after i past) = stored_after i past in
    record { writer = d.writer; headers = λ m g is. (d.segments m g is).header; opened = led_after i past }

not_refused : (y : Reply) → (IsRefused y → ⊥) → NotRefused y
not_refused Ok r = tt
not_refused (StateTold p) r = tt
not_refused (EpochTaken p) r = tt
not_refused (Prepared a b c) r = tt
not_refused (Edits b) r = tt
not_refused (Segments l) r = tt
not_refused (Refused x) r = absurd (r tt)

module _ (n : ℕ) (story : Story) (past : List Entry) (run : Follows n story past) where
  pub answer_promised : (old : List Entry) (e : Entry) (c : ℕ) (w : Way) (r : Request) (y : Reply) (h : HeadView) → Earlier (e ∷ old) past
      → e.move ≡ Answer c w r y → (IsRefused y → ⊥) → head_of r ≡ Some h → h.epoch ≤ (node_after e.node (e ∷ old)).promised
  answer_promised old e c w r y h p is fine at =
      let said = to (λ m. IsNext n story old e.node (node_after e.node old) m) is (next_of n story p run).is_next in
      let ok : Passed (node_after e.node old) r = passed (node_after e.node old) r y said.1 (not_refused y fine) in
      to (λ s. h.epoch ≤ s.promised) (sym (node_here e.node e old refl)) (head_promise (node_after e.node old) e.move r h (inl (c, w, y, is)) ok.at_once at)

  -- ## Owners
  pub record Mine (old : List Entry) (r : Request) : Type 0 where
    pub w : Writer
    pub sent : Sent n story past (story.whose (length old)) (story.round (length old)) w
    pub is : r ≡ asked (takeover_at story old).epoch (story.round (length old)) w.committed w.round

  pub mine : (old : List Entry) (e : Entry) (r : Request) → Earlier (e ∷ old) past → IsOf e r → Mine old r
  mine old e r p q =
      let m = made_of n story old e r (next_of n story p run) q in
      record {
        w = seen m.1.underway;
        sent = record { old = old; within = Earlier-tail p; at = made_at n story old m.0 e.node r m.1; heard_before = λ k i reply lt h. m.1.heard_before k i reply lt h };
        is = made_asks n story old m.0 e.node r m.1;
      }

  pub headed : (old : List Entry) (r : Request) (h : HeadView) (x : Mine old r) → head_of r ≡ Some h → (h.epoch ≡ (takeover_at story old).epoch) × (0 < story.round (length old))
  headed old r h x at = ((head_round (takeover_at story old).epoch (story.round (length old)) x.w.committed x.w.round r h x.is at).0, positive (story.round (length old)) refl)
    where
      positive : (s : ℕ) → story.round (length old) ≡ s → 0 < s
      positive zero is = (let first : x.w.round ≡ Propose = (seen_first n (takeover_at story old) x.w (to (λ k. seen_at n (takeover_at story old) k ≡ Some x.w) is x.sent.at)).0 in
          none≢some h (ap (λ q. head_of (asked (takeover_at story old).epoch (story.round (length old)) x.w.committed q)) (sym first) ∙ (sym (ap head_of x.is) ∙ at)))
      positive (suc s) is = omega arith

  pub one_owner_an_epoch : (xs ys : List Entry) (x y : Entry) (p q : Request) (h k : HeadView) → Earlier (x ∷ xs) past → Earlier (y ∷ ys) past
      → IsOf x p → IsOf y q → head_of p ≡ Some h → head_of q ≡ Some k → h.epoch ≡ k.epoch → story.whose (length xs) ≡ story.whose (length ys)
  one_owner_an_epoch xs ys x y p q h k at also is_p is_q head other same =
      let a : Mine xs p = mine xs x p at is_p in
      let b : Mine ys q = mine ys y q also is_q in
      let ha = headed xs p h a head in
      let hb = headed ys q k b other in
      one_owner n story past (story.whose (length xs)) (story.whose (length ys)) (story.round (length xs)) (story.round (length ys)) a.w b.w run a.sent b.sent ha.1 hb.1 (sym ha.0 ∙ (same ∙ hb.0))

  -- ## Values and the chain
  held_at : (i : ℕ) (g : Segment) (t : ℕ) (x : List ℕ) → IsHeld past i g → HasAt g t x → HeldAt past i g.epoch g.start t x
  held_at i g t x h has = record { old = h.0; within = h.1; segment = g; found = h.2; header = refl; has = has }

  pub written_once : (i j : ℕ) (g h : Segment) (t : ℕ) (x y : List ℕ) → IsHeld past i g → IsHeld past j h → g.epoch ≡ h.epoch → HasAt g t x → HasAt h t y → (g.start ≡ h.start) × (x ≡ y)
  written_once i j g h t x y p q same has also = wrote_once n story past h.epoch g.start h.start t x y run
      (to (λ e. Wrote n story past e g.start t x) same (held_wrote n story past run i g.epoch g.start t x (held_at i g t x p has)))
      (held_wrote n story past run j h.epoch h.start t y (held_at j h t y q also))

  behind : (e k : ℕ) → After n story past run e k → IsAfterFinalised n past e k
  behind e k (inl one) = inl one
  behind e k (inr c) = inr (c.0, c.1, c.2, c.3, c.5, c.6)

  pub opening : (old : List Entry) (e : Entry) (f k : ℕ) → Earlier (e ∷ old) past → IsStart e f k → Opn n story past run f k
  opening old e f k p is =
      let z : OfRound n story past (Start is.0 k) = round_within n story past old e (Start is.0 k) run p is.2 in
      let r = start_round (story.takeover z.a).epoch z.s z.w.committed z.w.round is.0 k z.is in
      record { a = z.a; s = z.s; w = z.w; sent = z.sent; epoch = sym r.1 ∙ is.1; is = r.0 }

  pub starts_chained : (old : List Entry) (e : Entry) (f k : ℕ) → Earlier (e ∷ old) past → IsStart e f k → IsAfterFinalised n past f k
  starts_chained old e f k p is = behind f k ((good n story past run f).opened_chain k (opening old e f k p is))

  pub segments_chained : (i : ℕ) (g : Segment) (t : ℕ) (x : List ℕ) → IsHeld past i g → HasAt g t x → IsAfterFinalised n past g.epoch g.start
  segments_chained i g t x h has = behind g.epoch g.start (start_after n story past run g.epoch g.start t x (held_wrote n story past run i g.epoch g.start t x (held_at i g t x h has)))

  -- ## Survival and finalised segments
  pub chosen_survives : (i e t : ℕ) (g : Segment) (x : List ℕ) → IsChosen n past e t x → IsHeld past i g → e < g.epoch → (t < g.start) ⊎ HasAt g t x
  chosen_survives i e t g x c h lt = by (chosen_maj n story past run e t x c) (Shaped-later n story g.start g h.1 (shaped n story h.0 (follows h.0 h.1) i g.start g h.2)).shape
    where
      follows : (old : List Entry) → Earlier old past → Follows n story old
      follows old p = Follows-earlier n story p run

      by : (m : ℕ) × Maj n past e m t x → Shape n story past g.start g.epoch g.bodies → (t < g.start) ⊎ HasAt g t x
      by j (by_opening o) = inl ((good n story past run g.epoch).opened g.start o e j.0 t x lt j.1)
      by j (by_recovery b first r bodies) = elim ((good n story past run g.epoch).recovered b r e j.0 t x lt j.1) [
        | inl below ↦ inl (omega (arith, below, first))
        | inr has ↦ inr (has.1.0, omega (arith, has.1.1, first), ap (λ z. slice_get z has.1.0) bodies ∙ has.1.2)
      ]

  pub starts_above : (old : List Entry) (e : Entry) (f g t k : ℕ) (x : List ℕ) → IsChosen n past f t x → Earlier (e ∷ old) past → IsStart e g k → f < g → t < k
  starts_above old e f g t k x c p is lt = (let j = chosen_maj n story past run f t x c in (good n story past run g).opened k (opening old e g k p is) f j.0 t x lt j.1)

  pub finalised_chosen : (old : List Entry) (e : Entry) (h : HeadView) (m l : ℕ) → Earlier (e ∷ old) past → IsOf e (Finalize h m l)
      → (g : ℕ) × (g ≤ h.epoch) × ((t : ℕ) → m ≤ t → t ≤ l → (body : List ℕ) × IsChosen n past g t body)
  finalised_chosen old e h m l p is =
      let z : OfRound n story past (Finalize h m l) = round_within n story past old e (Finalize h m l) run p is in
      let r = finalize_round (story.takeover z.a).epoch z.s z.w.committed z.w.round h m l z.is in
      let fin : Fin n story past run h.epoch m l = record { a = z.a; s = z.s; w = z.w; sent = z.sent; epoch = sym r.1; is = r.0 } in
      let s : Sealed n story past run h.epoch m l = sealed n story past run h.epoch m l fin in
      (s.epoch, s.le, λ t le up. (let y = s.all t le up in (y.0, maj_chosen n story past run s.epoch m t y.0 y.1)))

  -- ## What a recovery takes over
  module _ (f m : ℕ) (x : Asking n story past run f m) where
    pub told_at : (i : ℕ) (y : AnswerAt n story past run f m x i) → ToldPrepare past y.answered.old i f m y.segment
    told_at i y = (
      y.answered.entry,
      Earlier-trans y.answered.within x.sent.within,
      y.answered.node,
      (
        y.answered.caller,
        record { epoch = (story.takeover x.a).epoch; serial = 1; committed = x.asks.committed },
        y.writer,
        y.known,
        x.epoch,
        to (λ r. y.answered.entry.move ≡ Answer y.answered.caller Heard (asked (story.takeover x.a).epoch 1 x.asks.committed r) (Prepared y.writer y.known y.segment)) x.is y.answered.move,
      ),
    )

    not_higher : (i : ℕ) (y : AnswerAt n story past run f m x i) (best : Best) → best_of m x.slots ≡ Some best → (o : Option SegmentInfo) → y.segment ≡ o → IsNotAbove o best.info
    not_higher i y best is None at = tt
    not_higher i y best is (Some info) at = not_above info best.info (to (λ o. IsTop info o) is
        (best_is_top m 1 x.slots i (Told (AnswerHeard (Prepared y.writer y.known y.segment))) info y.at (ap (λ z. segment_told z (Prepared y.writer y.known y.segment)) y.fits ∙ at)))

  pub accepting : (old : List Entry) (e : Entry) (h : HeadView) (b : BatchView) → Earlier (e ∷ old) past → IsOf e (Accept h b) → Rec n story past run h.epoch b
  accepting old e h b p is =
      let z : OfRound n story past (Accept h b) = round_within n story past old e (Accept h b) run p is in
      let r : (z.w.round ≡ Recover b) × (h.epoch ≡ (story.takeover z.a).epoch) = accept_round (story.takeover z.a).epoch z.s z.w.committed z.w.round h b z.is in
      record { a = z.a; s = z.s; w = z.w; sent = z.sent; epoch = sym r.1; is = r.0 }

  pub recovery_whole : (old : List Entry) (e : Entry) (h : HeadView) (b : BatchView) → Earlier (e ∷ old) past → IsOf e (Accept h b) → IsWhole n past h.epoch b
  recovery_whole old e h b p is = by (from_best n story past run h.epoch b rec)
    where
      rec : Rec n story past run h.epoch b
      rec = accepting old e h b p is

      by : FromBest n story past run h.epoch b → IsWhole n past h.epoch b
      by fb = with_answer (best_answer n story past run h.epoch b.first fb.asking fb.best fb.is_best)
        where
          with_answer : AnswerOf n story past run h.epoch b.first fb.asking fb.best → IsWhole n past h.epoch b
          with_answer a = record {
            best = fb.best.node;
            at_place = a.answer.answered.old;
            held = a.segment;
            told = to (λ o. ToldPrepare past a.answer.answered.old fb.best.node h.epoch b.first o) (a.said ∙ ap (λ q. Some q) (sym a.info)) (told_at h.epoch b.first fb.asking fb.best.node a.answer);
            found = to (λ q. find_segment b.first (node_after fb.best.node q).segments ≡ Some a.segment) (sym a.answer.is_old) a.found;
            bodies = fb.whole a.answer a.segment a.found a.info;
            nodes = (answers n story past run h.epoch b.first fb.asking).nodes;
            majority = (answers n story past run h.epoch b.first fb.asking).majority;
            is_best = λ i mem. (let y : AnswerAt n story past run h.epoch b.first fb.asking i = answer_at n story past run h.epoch b.first fb.asking i mem in (
              y.answered.old,
              y.segment,
              told_at h.epoch b.first fb.asking i y,
              to (λ q. IsNotAbove y.segment q) (sym a.info) (not_higher h.epoch b.first fb.asking i y fb.best fb.is_best y.segment refl),
            ));
          }

  -- ## A segment is opened or accepted
  pub rounds_apart : (e : ℕ) (b : BatchView) → (o : Opn n story past run e b.first) → (r : Rec n story past run e b) → o.a ≡ r.a → ⊥
  rounds_apart e b o r one = elim (cases_order o.s r.s) [
    | inl same ↦ (let w : o.w ≡ r.w = some_same (sym o.sent.at ∙ (ap (λ s. seen_at n (story.takeover o.a) s) same ∙ at)) in
        let no : Open b.first ≡ Recover b = sym o.is ∙ (ap (λ z. z.round) w ∙ r.is) in cc)
    | inr other ↦ elim other [
      | inl lt ↦ first_opened (to (λ q. StageLater (stage o.w.round) (stage q)) r.is (stage_later n (story.takeover o.a) o.s r.s o.w r.w lt o.sent.at at))
      | inr gt ↦ (let below : end_below r.w r.w.round ≤ low_of o.w o.w.round = below_later n (story.takeover o.a) r.s o.s r.w o.w gt at o.sent.at in
          let all : b.first + length b.bodies ≤ b.first = to (λ q. end_below r.w (Recover b) ≤ low_of o.w q) o.is (to (λ q. end_below r.w q ≤ low_of o.w o.w.round) r.is below) in
          let some = to (λ q. Framed r.w q) r.is (frame n (story.takeover o.a) r.s r.w at) in
          absurd (omega (arith, all, some.2)))
    ]
  ]
    where
      at : seen_at n (story.takeover o.a) r.s ≡ Some r.w
      at = ap (λ z. seen_at n (story.takeover z) r.s) one ∙ r.sent.at

      first_opened : StageLater (stage o.w.round) 3 → ⊥
      first_opened x = elim (to (λ q. StageLater (stage q) 3) o.is x) [ inl lt ↦ omega (arith, lt) | inr y ↦ omega (arith, y.0) ]

  pub opened_or_accepted : (xs ys : List Entry) (x y : Entry) (e : ℕ) (h : HeadView) (b : BatchView) → Earlier (x ∷ xs) past → Earlier (y ∷ ys) past
      → IsStart x e b.first → IsOf y (Accept h b) → h.epoch ≡ e → ⊥
  opened_or_accepted xs ys x y e h b p q is of same =
      let o : Opn n story past run e b.first = opening xs x e b.first p is in
      let r : Rec n story past run e b = to (λ z. Rec n story past run z b) same (accepting ys y h b q of) in
      rounds_apart e b o r (owner_same n story past run e (Open b.first) (Recover b) o r (not_first n story past run e (Open b.first) o (λ z. cc z))
      (not_first n story past run e (Recover b) r (λ z. cc z)))
