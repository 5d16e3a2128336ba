-- The best answer to a prepare has what was chosen under lower epochs.
use Rattle.std.proofs.Common.{◌≡◌, ℕ, zero, suc, ◌+◌, ◌<◌, ◌≤◌, max, ◌⊎◌, true, List, ◌∷◌, length, Option, Some, None, refl, inl, inr, arith, sym, ap, ◌∙◌}
use Rattle.std.proofs.lemmas.Bool.{cases_order, cases_eq, cases_Bool, cond-true, cond_both}
use Rattle.journal_core.specs.Limits.{head_of}
use Rattle.journal_core.specs.Reads.{told_of}
use Rattle.journal_core.specs.Segments.{find_segment, has_edit, end_of, HasAt, info_of, IsNotFinal}
use Rattle.journal_core.specs.Step.{last_or_start}
use Rattle.journal_core.specs.Views.{HeadView}
use Rattle.journal_core.specs.declared.request.Request.{Request}
use Rattle.journal_core.specs.declared.request.Request.TheVariants.{Finalize, Purge}
use Rattle.journal_core.specs.declared.segment.Segment.{Segment}
use Rattle.journal_core.specs.declared.segment_info.SegmentInfo.{SegmentInfo}
use Rattle.journal_core.specs.declared.reply.Reply.TheVariants.{Prepared}
use Rattle.journal_core.specs.declared.heard.Heard.TheVariants.{Answer as AnswerHeard}
use Rattle.writer_core.specs.declared.slot.Slot.TheVariants.{Told}
use Rattle.writer_core.specs.Best.{Best, best_of, segment_told}
use Rattle.run_safety.specs.Majority.{Member}
use Rattle.journal_history.specs.Entries.{Entry, node_after, Earlier}
use Rattle.run_safety.specs.Run.{Story, Follows}
use Rattle.run_safety.proofs.SeenLaws.{Finalizing, Open, Clean, Writer, seen_at, seen_first}
use Rattle.run_safety.proofs.Places.{Earlier-trans, Earlier-tail, Follows-earlier}
use Rattle.run_safety.proofs.Majorities.{majorities_share}
use Rattle.journal_core.proofs.SegmentLists.{find-start}
use Rattle.journal_core.proofs.Steps.{front_le, none≢some}
use Rattle.run_safety.proofs.SoundNodes.{stored_after, promise_earlier}
use Rattle.journal_core.proofs.Opened.{promise_done}
use Rattle.journal_core.proofs.Changes.{Change, same, created, grown, made_final, replaced, removed, NoEdit}
use Rattle.run_safety.proofs.Along.{along}
use Rattle.run_safety.proofs.Slots.{some_same, true≢false, RankLe, IsTop, best_is_top}
use Rattle.run_safety.proofs.Frames.{Framed, IsWriting, IsGet}
use Rattle.run_safety.proofs.Answers.{BestTold, best_heard}
use Rattle.run_safety.proofs.Rounds.{frame}
use Rattle.run_safety.proofs.Spans.{clean_below_seal, clean_below_start}
use Rattle.run_safety.proofs.Sent.{Sent, Sent-later, OfRound, one_owner, Answers, answers_of, no_fetch, to}
use Rattle.run_safety.proofs.Values.{Wrote, purge_round, edit_of, later_round, get_within}
use Rattle.run_safety.proofs.Oks.{FinalizeHeld, finalize_held}
use Rattle.run_safety.proofs.Shapes.{InRound, write_opens, Shape, by_recovery, by_opening, shaped, Maj}
use Rattle.run_safety.proofs.Epochs.{Opn, AllGood, not_first}
use Rattle.run_safety.proofs.Finals.{OkAt, ok_at}
use Rattle.run_safety.proofs.ToldLaws.{HighEnough, has_chosen}
use Rattle.run_safety.proofs.Between.{place_order}
use Rattle.run_safety.proofs.Prepares.{Asking, AnswerAt, answer_at, answer_ok, answers, no_own, no_later}
use Rattle.run_safety.proofs.Recovery.{IsWork, first_chosen, SealDone, wrote, above, cause_below, round_here, kept_at_answer}

told_some : (o : Option Segment) (g : Segment) → o ≡ Some g → has_edit g ≡ true → told_of o ≡ Some (info_of g)
told_some None g is edit = none≢some g is
told_some (Some k) g is edit =
    let one : k ≡ g = some_same is in
    cond-true (has_edit k) (Some (info_of k)) None (to (λ z. has_edit z ≡ true) (sym one) edit) ∙ ap (λ z. Some (info_of z)) one

-- a told segment stands there
told_from : (o : Option Segment) (info : SegmentInfo) → told_of o ≡ Some info → (g : Segment) × (o ≡ Some g) × (info_of g ≡ info)
told_from None info is = none≢some info is
told_from (Some k) info is = cond_both (has_edit k) (Some (info_of k)) None
    (λ o. o ≡ Some info → (g : Segment) × (◌≡◌ {A = Option Segment} (Some k) (Some g)) × (info_of g ≡ info)) (λ t e. (k, refl, some_same e))
    (λ f e. none≢some info e) is

module _ (n : ℕ) (story : Story) (past : List Entry) (run : Follows n story past) (f m : ℕ) (x : Asking n story past run f m) where
  -- a round after the prepare is no earlier than the third
  work_late : (i : ℕ) (y : AnswerAt n story past run f m x i) (b k : ℕ) (u : Writer) → Sent n story y.old b k u → (story.takeover b).epoch ≡ f → IsWork u.round → ⊥
  work_late i y b k u p q work = no_own n story past run f m x i y b k u p q (late k refl)
    where
      inside : Earlier y.old past
      inside = Earlier-tail y.within

      late : (j : ℕ) → k ≡ j → 1 < k
      late zero r = absurd (to IsWork (seen_first n (story.takeover b) u (ap (λ k2. seen_at n (story.takeover b) k2) (sym r) ∙ p.at)).0 work)
      late (suc zero) r = (let one : b ≡ x.a = one_owner n story past b x.a k x.s u x.w run (Sent-later n story b k u inside p) x.sent (omega (arith, r)) (omega (arith, x.later)) (q ∙ sym x.epoch) in
          let asks : u ≡ x.asks = some_same (sym p.at ∙ (ap (λ k2. seen_at n (story.takeover b) k2) r ∙ (ap (λ c. seen_at n (story.takeover c) 1) one ∙ x.at))) in
          absurd (to IsWork (ap (λ v. v.round) asks ∙ x.is) work))
      late (suc (suc j)) r = omega (arith, r)

  -- the answer of the best one's node, and the segment that it told
  pub record AnswerOf (best : Best) : Type 0 where
    pub answer : AnswerAt n story past run f m x best.node
    pub segment : Segment
    pub found : find_segment m (node_after best.node answer.old).segments ≡ Some segment
    pub info : info_of segment ≡ best.info
    pub said : answer.segment ≡ Some best.info

  pub best_answer : (best : Best) → best_of m x.slots ≡ Some best → AnswerOf best
  best_answer best is = from (answer_ok n story past run f m x best.node b.writer b.committed (Some best.info) (b.at, b.kind))
    where
      b : BestTold n (story.takeover x.a) m x.slots best
      b = best_heard n (story.takeover x.a) m x.slots best x.counted is

      from : (y : AnswerAt n story past run f m x best.node) × (y.segment ≡ Some best.info) → AnswerOf best
      from y = (let g = told_from _ best.info (sym y.0.tells ∙ y.1) in record { answer = y.0; segment = g.0; found = g.1; info = g.2; said = y.1 })

  -- what a node that answers holds has a lower epoch
  pub lower_header : (i : ℕ) (y : AnswerAt n story past run f m x i) (g : Segment) → find_segment m (node_after i y.old).segments ≡ Some g → g.epoch < f
  lower_header i y g is = elim (cases_eq g.epoch f) [
    | inr other ↦ (let h : g.epoch ≤ (node_after i y.old).promised = ((stored_after i y.old).segments m g is).header in omega (arith, y.promise))
    | inl at_f ↦ absurd (go at_f (shaped n story y.old (Follows-earlier n story (Earlier-tail y.within) run) i m g is).shape)
  ]
    where
      go : g.epoch ≡ f → Shape n story y.old m g.epoch g.bodies → ⊥
      go at_f (by_recovery b first r bodies) = work_late i y r.a r.s r.w r.sent (r.epoch ∙ at_f) (to IsWork (sym r.is) tt)
      go at_f (by_opening r) = work_late i y r.a r.s r.w r.sent (r.epoch ∙ at_f) (to IsWork (sym r.is) tt)

  module _ (good : AllGood n story past run f) (e u : ℕ) (body : List ℕ) (below : e < f) (j : Maj n past e m u body) where
    above_m : (1 ≤ m) × (m ≤ u)
    above_m = above n story past run f m x good e u body below j

    wrote_it : Wrote n story past e m u body
    wrote_it = wrote n story past run f m x good e u body below j

    -- ## Where the owner of e finalised m and went on: a node that answered that finalise still has it whole
    module _ (d : SealDone n story past run e m) where
      frame_d : (d.writer.committed ≡ d.end) × (1 ≤ m) × (m ≤ d.end)
      frame_d = to (λ r. Framed d.writer r) d.is (frame n (story.takeover d.a) d.round d.writer d.at)

      abbrev Whole : Option Segment → Type 0
      Whole o = (g : Segment) × (o ≡ Some g) × (g.is_final ≡ true) × (end_of g ≡ d.end) × (has_edit g ≡ true)

      whole_purge : (i : ℕ) (y : AnswerAt n story past run f m x i) (r : Request) (h : HeadView) (l : ℕ) → r ≡ Purge h l
          → (z : OfRound n story y.old r) → (g : Segment) → end_of g ≡ d.end → has_edit g ≡ true →
          e ≤ h.epoch → h.epoch < f → last_or_start g ≤ h.committed → ⊥
      whole_purge i y r h l q z g ends edit le lt low = elim (cases_order e h.epoch) [
        | inl same_epoch ↦ own same_epoch (cases_order z.w.start m)
        | inr other ↦ elim other [
          | inr more ↦ omega arith
          | inl less ↦ (let o : u < z.w.start = (good h.epoch lt).opened z.w.start opens e m u body less j in omega (arith, start_le, above_m.1))
        ]
      ]
        where
          pr : (z.w.round ≡ Clean l) × (h.epoch ≡ (story.takeover z.a).epoch) × (h.committed ≡ z.w.committed)
          pr = purge_round (story.takeover z.a).epoch z.s z.w.committed z.w.round h l (sym q ∙ z.is)

          sent_z : Sent n story past z.a z.s z.w
          sent_z = Sent-later n story z.a z.s z.w (Earlier-tail y.within) z.sent

          first : (b : List ℕ) × Maj n past (story.takeover z.a).epoch z.w.start z.w.start b
          first = first_chosen n story past run z.a z.s z.w l sent_z pr.0

          start_le : z.w.start ≤ m
          start_le = no_later n story past run f m x (story.takeover z.a).epoch z.w.start z.w.start first.0 (omega (arith, pr.1, lt)) first.1

          opens : Opn n story past run h.epoch z.w.start
          opens = to (λ k. InRound n story past k (Open z.w.start)) (sym pr.1) (write_opens n story past z.a z.s z.w z.w.start sent_z (to (λ k. IsWriting k) (sym pr.0) tt) refl)

          zs : 0 < z.s
          zs = not_first n story past run (story.takeover z.a).epoch (Clean l) (record { a = z.a; s = z.s; w = z.w; sent = sent_z; epoch = refl; is = pr.0 }) (λ k. cc)

          low_end : d.end ≤ z.w.committed
          low_end = (let c : last_or_start g ≡ end_of g = cond-true (has_edit g) (end_of g) g.start edit in omega (arith, low, ends, pr.2))

          own : e ≡ h.epoch → (z.w.start ≡ m) ⊎ ((z.w.start < m) ⊎ (m < z.w.start)) → ⊥
          own same_epoch (inr (inr gt)) = omega (arith, start_le)
          own same_epoch (inr (inl lower)) =
              (let one : z.a ≡ wrote_it.a = one_owner n story past z.a wrote_it.a z.s wrote_it.s z.w wrote_it.w run sent_z wrote_it.sent zs
              (later_round n story past wrote_it.a wrote_it.s wrote_it.w m u wrote_it.sent wrote_it.covers)
              (sym pr.1 ∙ (sym same_epoch ∙ sym wrote_it.epoch)) in
              let c : z.w.committed < m = clean_below_start n (story.takeover wrote_it.a) z.s wrote_it.s z.w wrote_it.w l m u
              (to (λ k. seen_at n (story.takeover k) z.s ≡ Some z.w) one sent_z.at) wrote_it.sent.at pr.0 wrote_it.covers lower in
              omega (arith, low_end, frame_d.2))
          own same_epoch (inl start) =
              (let one : z.a ≡ d.a = one_owner n story past z.a d.a z.s d.s z.w d.w run sent_z d.sent zs (omega (arith, d.earlier)) (sym pr.1 ∙ (sym same_epoch ∙ sym d.epoch)) in
              let c : z.w.committed < d.end = clean_below_seal n (story.takeover d.a) z.s d.round z.w d.writer l d.end
              (to (λ k. seen_at n (story.takeover k) z.s ≡ Some z.w) one sent_z.at) d.at pr.0 (d.is ∙ ap (λ k. Finalizing k d.end) (sym start)) in
              omega (arith, low_end))

      whole_change : (i : ℕ) (y : AnswerAt n story past run f m x i) (old : List Entry) (o new : Option Segment) (r : Request) → Change (node_after i old) r m o new → (z : OfRound n story y.old r) →
          ((h : HeadView) → head_of r ≡ Some h → IsWork z.w.round → (story.takeover z.a).epoch ≡ h.epoch → h.epoch < f) → ((h : HeadView) → head_of r ≡ Some h → e ≤ h.epoch) → Whole o → Whole new
      whole_change i y old o new r same z lt up w = w
      whole_change i y old o new r (created h q none) z lt up w = absurd (true≢false (sym w.4 ∙ to NoEdit w.1 none))
      whole_change i y old (Some k) new r (grown h b q header f2 first) z lt up w = absurd (true≢false (sym (to (λ v. v.is_final ≡ true) (sym (some_same w.1)) w.2) ∙ f2))
      whole_change i y old (Some k) new r (made_final h l q edit f2 header ends) z lt up w = absurd (true≢false (sym (to (λ v. v.is_final ≡ true) (sym (some_same w.1)) w.2) ∙ f2))
      whole_change i y old o new r (replaced h b q first f2) z lt up w = absurd (true≢false (sym w.2 ∙ to IsNotFinal w.1 f2))
      whole_change i y old (Some k) new r (removed h l q newer low shut) z lt up w =
          let one : w.0 ≡ k = sym (some_same w.1) in
          let pr = purge_round (story.takeover z.a).epoch z.s z.w.committed z.w.round h l (sym q ∙ z.is) in
          absurd (whole_purge i y r h l q z k (to (λ v. end_of v ≡ d.end) one w.3) (to (λ v. has_edit v ≡ true) one w.4) (up h (ap head_of q))
          (lt h (ap head_of q) (to IsWork (sym pr.0) tt) (sym pr.1)) low)

      pub whole_at_answer : (i : ℕ) × (y : AnswerAt n story past run f m x i) × Whole (find_segment m (node_after i y.old).segments)
      whole_at_answer = (
        i,
        y,
        elim (place_order (Earlier-trans ok.within d.sent.within) y.within) [
          | inl a ↦ along i m Whole a start (λ e0 old b c2 c w. (let z : OfRound n story y.old c.by.request = round_here n story past run f m x good e u body below j i y e0 old c2 c in
              let rise : (node_after i (ok.entry ∷ ok.old)).promised ≤ (node_after i old).promised = promise_earlier i b in
              whole_change i y old _ _ c.by.request c.by.change z (λ hd is work q. cause_below n story past run f m x good e u body below j i y e0 old c2 c z hd is work q)
              (λ hd is. (let le : (node_after i old).promised ≤ hd.epoch = front_le (node_after i old) c.by.request hd is c.by.passed in omega (arith, promise))) w))
          | inr b ↦ absurd (let rise : (node_after i (y.entry ∷ y.old)).promised ≤ (node_after i (ok.entry ∷ ok.old)).promised = promise_earlier i b in omega (arith, y.after, promise))
        ],
      )
        where
          fs : Answers n story d.sent.old d.a d.round
          fs = answers_of n story past d.a d.s d.round d.w run d.sent d.earlier (no_fetch n (story.takeover d.a) d.round d.writer d.at (to (λ r. IsGet r → ⊥) (sym d.is) (λ z. z)))

          share : (i : ℕ) × Member i fs.nodes × Member i (answers n story past run f m x).nodes
          share = majorities_share n fs.nodes (answers n story past run f m x).nodes fs.majority (answers n story past run f m x).majority

          i : ℕ
          i = share.0

          y : AnswerAt n story past run f m x i
          y = answer_at n story past run f m x i share.2

          head : HeadView
          head = record { epoch = (story.takeover d.a).epoch; serial = d.round; committed = fs.w.committed }

          writer : fs.w ≡ d.writer
          writer = some_same (sym fs.at ∙ d.at)

          ok : OkAt d.sent.old i (Finalize head m d.end)
          ok = (let r = fs.each i share.1 in ok_at n story d.sent.old d.a d.round fs.w i r.0 (Finalizing m d.end) (ap (λ z. z.round) writer ∙ d.is) r.1)

          held : FinalizeHeld (node_after i ok.old) head m d.end
          held = finalize_held (node_after i ok.old) head m d.end ok.passed_by

          start : Whole (find_segment m (node_after i (ok.entry ∷ ok.old)).segments)
          start = (held.held, ap (λ z. find_segment m z.segments) ok.state ∙ held.found, held.final, held.ends, held.edit)

          promise : (node_after i (ok.entry ∷ ok.old)).promised ≡ e
          promise = (let p : (node_after i (ok.entry ∷ ok.old)).promised ≡ max (node_after i ok.old).promised head.epoch =
              ap (λ z. z.promised) (ok.state ∙ ok.passed_by.state) ∙ promise_done (node_after i ok.old) (Finalize head m d.end) (λ z. z) in
              let le : (node_after i ok.old).promised ≤ head.epoch = front_le (node_after i ok.old) (Finalize head m d.end) head refl ok.passed_by.at_once in omega (arith, d.epoch))

    -- ## A told segment that is high enough
    pub record HighAt : Type 0 where
      pub node : ℕ
      pub answer : AnswerAt n story past run f m x node
      pub segment : Segment
      pub found : find_segment m (node_after node answer.old).segments ≡ Some segment
      pub edit : has_edit segment ≡ true
      pub high : HighEnough n story past run e m u segment

    pub high_at : HighAt
    high_at = elim (kept_at_answer n story past run f m x good e u body below j i y (j.each i share.1)) [
      | inl k ↦ (let start : k.0.start ≡ m = find-start m (node_after i y.old).segments k.0 k.1 in
          let lt : k.3.0 < length k.0.bodies = get_within k.0.bodies k.3.0 body k.3.2 in
          record { node = i; answer = y; segment = k.0; found = k.1; edit = edit_of k.0 u body k.3; high = inr (k.2, λ q. omega (arith, k.3.1)) })
      | inr d ↦ (let w = whole_at_answer d in record { node = w.0; answer = w.1; segment = w.2.0; found = w.2.1; edit = w.2.4; high = inl w.2.2 })
    ]
      where
        share : (i : ℕ) × Member i j.nodes × Member i (answers n story past run f m x).nodes
        share = majorities_share n j.nodes (answers n story past run f m x).nodes j.majority (answers n story past run f m x).majority

        i : ℕ
        i = share.0

        y : AnswerAt n story past run f m x i
        y = answer_at n story past run f m x i share.2

    -- the best told segment ranks at least as high
    pub best_top : IsTop (info_of high_at.segment) (best_of m x.slots)
    best_top = best_is_top m 1 x.slots high_at.node (Told (AnswerHeard (Prepared high_at.answer.writer high_at.answer.known high_at.answer.segment))) (info_of high_at.segment) high_at.answer.at
        (ap (λ z. segment_told z (Prepared high_at.answer.writer high_at.answer.known high_at.answer.segment)) high_at.answer.fits
        ∙ (high_at.answer.tells ∙ told_some _ high_at.segment high_at.found high_at.edit))

    rank_high : (g best : Segment) → RankLe (info_of g) (info_of best) → g.start ≡ m → best.start ≡ m → HighEnough n story past run e m u g → HighEnough n story past run e m u best
    rank_high g best r gs bs (inl final) = inl (r.final final)
    rank_high g best r gs bs (inr h) = elim (cases_Bool best.is_final) [
      | inl t ↦ inl t
      | inr b ↦ elim (cases_Bool g.is_final) [
        | inl t ↦ inl (r.final t)
        | inr b2 ↦ (let same_final : best.is_final ≡ g.is_final = b ∙ sym b2 in
            let up : g.epoch ≤ best.epoch = r.header same_final in
            inr (
              omega (arith, h.0),
              λ q. (let eq : g.epoch ≡ e = omega (arith, h.0) in let eq2 : g.epoch ≡ best.epoch = omega arith in
                  let long : u < m + length g.bodies = h.1 eq in let ends : end_of g ≤ end_of best = r.ends same_final eq2 in omega (arith, above_m.0, above_m.1)),
            ))
      ]
    ]

    -- the best answer's segment, at its node, has what was chosen
    pub record BestHas (best : Best) : Type 0 where
      pub answer : AnswerAt n story past run f m x best.node
      pub segment : Segment
      pub found : find_segment m (node_after best.node answer.old).segments ≡ Some segment
      pub info : info_of segment ≡ best.info
      pub below_f : segment.epoch < f
      pub high : HighEnough n story past run e m u segment
      pub has : HasAt segment u body

    pub best_has : (best : Best) → best_of m x.slots ≡ Some best → BestHas best
    best_has best is = record {
      answer = y;
      segment = g.0;
      found = g.1;
      info = g.2;
      below_f = lower_header best.node y g.0 g.1;
      high = high;
      has = has_chosen n story past run f best.node e m u body y.old g.0 good below (lower_header best.node y g.0 g.1) (Earlier-tail y.within) g.1 high j;
    }
      where
        told : AnswerOf best
        told = best_answer best is

        y : AnswerAt n story past run f m x best.node
        y = told.answer

        g : (g : Segment) × (find_segment m (node_after best.node y.old).segments ≡ Some g) × (info_of g ≡ best.info)
        g = (told.segment, told.found, told.info)

        top : RankLe (info_of high_at.segment) best.info
        top = to (λ o. IsTop (info_of high_at.segment) o) is best_top

        high : HighEnough n story past run e m u g.0
        high = rank_high high_at.segment g.0 (to (λ z. RankLe (info_of high_at.segment) z) (sym g.2) top)
            (find-start m (node_after high_at.node high_at.answer.old).segments high_at.segment high_at.found)
            (find-start m (node_after best.node y.old).segments g.0 g.1) high_at.high
