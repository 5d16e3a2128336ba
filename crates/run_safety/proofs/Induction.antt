-- Every epoch is good: the induction over epochs.
use Rattle.std.proofs.Common.{◌≡◌, ℕ, zero, suc, ◌+◌, ◌-◌, ◌<◌, ◌≤◌, ◌⊎◌, true, false, List, ◌++◌, length, take, drop, Option, Some, None, refl, inl, inr, arith, sym, ap, ◌∙◌}
use Rattle.std.specs.Prelude.{slice_get}
use Rattle.std.proofs.lemmas.Bool.{cases_order, cases_eq, cases_Bool}
use Rattle.journal_core.specs.Segments.{find_segment, newest, end_of, HasAt, info_of}
use Rattle.journal_core.specs.Reads.{most_edits}
use Rattle.journal_core.specs.Views.{BatchView, last_txid}
use Rattle.journal_core.specs.declared.reply.Reply.{Reply}
use Rattle.journal_core.specs.declared.reply.Reply.TheVariants.{Ok, State as StateTold, NewEpoch as EpochTaken, Prepared, Edits, Segments, Refused}
use Rattle.journal_core.specs.declared.request.Request.TheVariants.{NewEpoch, Finalize}
use Rattle.journal_core.specs.declared.segment.Segment.{Segment}
use Rattle.writer_core.specs.declared.slot.Slot.{Slot}
use Rattle.writer_core.specs.Answers.{fits_propose, is_done_reply}
use Rattle.run_safety.specs.Parts.{IsFinalised}
use Rattle.run_safety.specs.Safe.{SaidOk}
use Rattle.writer_core.specs.Best.{Best, best_of}
use Rattle.run_safety.specs.Majority.{Member}
use Rattle.journal_history.specs.Entries.{Entry, Heard, Answer, node_after, Earlier, now, before}
use Rattle.run_safety.specs.Run.{Story, Follows}
use Rattle.run_safety.proofs.SeenLaws.{Propose, Recover, Finalizing, Open, Write, Writer, seen_at, seen_first, asked, is_ok_kind}
use Rattle.run_safety.proofs.Slots.{some_same, true≢false, AtLeast, told_newest, IsTop}
use Rattle.run_safety.proofs.Places.{Earlier-trans, Earlier-tail, Follows-earlier}
use Rattle.run_safety.proofs.Majorities.{majorities_share}
use Rattle.journal_core.proofs.SegmentLists.{find-start, newest-above}
use Rattle.run_safety.proofs.Rounds.{Comes, comes, frame}
use Rattle.run_safety.proofs.Frames.{OkHeard, Newest, Counted, Framed, IsGet, IsAsking}
use Rattle.run_safety.proofs.Before.{proposal_first, open_before, OpenedBy, at_one, found_none, after_seal_of, recover_before, RecoveredBy, ask_before, asked_at, OpenedAt, opened_at}
use Rattle.run_safety.proofs.Spans.{seal_covers, SealCovers, write_is, write_start}
use Rattle.run_safety.proofs.Sent.{Sent, Sent-round, Answered, answered_of, Answers, answers_of, no_fetch, Vote, vote_of, to}
use Rattle.run_safety.proofs.Values.{Wrote, edit_of, get_within}
use Rattle.run_safety.proofs.Oks.{newest_rises}
use Rattle.run_safety.proofs.Shapes.{Shape, by_recovery, by_opening, shaped, Shaped-later, Maj}
use Rattle.run_safety.proofs.Epochs.{HasIn, Fin, Rec, Opn, After, Good, AllGood, has_place}
use Rattle.run_safety.proofs.Finals.{Sealed, sealed}
use Rattle.run_safety.proofs.ToldLaws.{ToldWrote, told_wrote, wrote_after, told_above, HighEnough, final_fin, fin_once, fin_covers, fin_le}
use Rattle.run_safety.proofs.Between.{asking_entry, held_before}
use Rattle.run_safety.proofs.Prepares.{Asking, AnswerAt, no_later}
use Rattle.run_safety.proofs.Pieces.{IsPrefix, more_of, all_of, fetch_late, piece, pieces_begin}
use Rattle.run_safety.proofs.Best.{BestHas, best_has, best_top, high_at}

-- the one answer of the Ok kind to a request that changes segments
pub said_ok : (reply : Reply) → is_done_reply reply ≡ true → reply ≡ Ok
said_ok Ok e = refl
said_ok (StateTold p) e = true≢false (sym e)
said_ok (EpochTaken p) e = true≢false (sym e)
said_ok (Prepared a b c) e = true≢false (sym e)
said_ok (Edits b) e = true≢false (sym e)
said_ok (Segments l) e = true≢false (sym e)
said_ok (Refused x) e = true≢false (sym e)

module _ (n : ℕ) (story : Story) (past : List Entry) (run : Follows n story past) where
  -- ## What the answers to a proposal told
  voted_least : (f a s : ℕ) (w : Writer) (o : Option ℕ) → (p : Sent n story past a s w) → 0 < s → (story.takeover a).epoch ≡ f → Newest n ((story.takeover a).heard 0) o →
      (g c u : ℕ) (body : List ℕ) → g < f → Maj n past g c u body → AtLeast c o
  voted_least f a s w o p late epoch newest_is g c u body lt j = weaken rise.0 o (omega (arith, top.2, rise.2))
      (newest_is.least i rise.0 y.0 y.2.from_one y.2.up_to_n y.2.was_heard fits (ap told_newest reply_is))
    where
      votes : Answers n story p.old a 0
      votes = answers_of n story past a s 0 w run p late (λ v at. to (λ r. IsGet r → ⊥) (sym (seen_first n (story.takeover a) v at).0) (λ z. z))

      share : (i : ℕ) × Member i j.nodes × Member i votes.nodes
      share = majorities_share n j.nodes votes.nodes j.majority votes.majority

      i : ℕ
      i = share.0

      y : (reply : Reply) × Answered n story p.old a 0 votes.w i reply × OkHeard n votes.w ((story.takeover a).heard 0) i reply
      y = votes.each i share.2

      is_proposal : votes.w.round ≡ Propose
      is_proposal = (seen_first n (story.takeover a) votes.w votes.at).0

      fits : fits_propose y.0 ≡ true
      fits = to (λ r. is_ok_kind r y.0 ≡ true) is_proposal y.2.kind

      v : Vote n story p.old a i
      v = vote_of n story p.old a i votes.w y.0 is_proposal y.1 y.2.was_heard

      q : (q : List Entry) × (h : Segment) × Earlier q y.1.old × (find_segment c (node_after i q).segments ≡ Some h) × (h.epoch ≡ g) × HasAt h u body
      q = held_before i g c u body y.1.entry y.1.old past (j.each i share.1) (Earlier-trans y.1.within p.within) (omega (arith, lt, v.after, epoch))
          (asking_entry i c y.1.entry y.1.old y.1.caller Heard (NewEpoch (story.takeover a).epoch) y.0
          (to (λ r. y.1.entry.move ≡ Answer y.1.caller Heard (asked (story.takeover a).epoch 0 votes.w.committed r) y.0) is_proposal y.1.move) tt)

      top : (k : ℕ) × (newest (node_after i q.0).segments ≡ Some k) × (c ≤ k)
      top = newest-above c (node_after i q.0).segments q.1 q.3 (edit_of q.1 u body q.5)

      rise : (k : ℕ) × (newest (node_after i y.1.old).segments ≡ Some k) × (top.0 ≤ k)
      rise = newest_rises n story past run i top.0 q.2 (Earlier-trans (before now) (Earlier-trans y.1.within p.within)) top.1

      reply_is : y.0 ≡ EpochTaken (Some rise.0)
      reply_is = some_same (sym y.2.was_heard ∙ (v.heard ∙ ap (λ z. Some (EpochTaken z)) (sym v.taken_is.newest_is ∙ rise.1)))

      weaken : (k : ℕ) (o : Option ℕ) → c ≤ k → AtLeast k o → AtLeast c o
      weaken k None le l = l
      weaken k (Some z) le l = omega arith

  -- a start that was told to a takeover of f was written under a lower epoch
  told_of_start : (f a s m : ℕ) (w w0 : Writer) → (p : Sent n story past a s w) → 0 < s → (story.takeover a).epoch ≡ f
      → seen_at n (story.takeover a) 0 ≡ Some w0 → Newest n ((story.takeover a).heard 0) (Some m) → ToldWrote n story past run f m
  told_of_start f a s m w w0 p late epoch at newest_is =
      told_wrote n story past run f by.0 m v.old (Earlier-trans (Earlier-tail v.within) p.within) (v.taken_is.newest_is ∙ told_is) (omega (arith, v.taken_is.above, epoch))
    where
      by : (i : ℕ) × (reply : Reply) × (1 ≤ i) × (i ≤ n) × ((story.takeover a).heard 0 i ≡ Some reply) × (fits_propose reply ≡ true) × (told_newest reply ≡ Some m)
      by = newest_is.by m refl

      is_first : w0.round ≡ Propose
      is_first = (seen_first n (story.takeover a) w0 at).0

      y : Answered n story p.old a 0 w0 by.0 by.1
      y = answered_of n story p.old a 0 w0 by.0 by.1 (Follows-earlier n story p.within run) at (to (λ r. is_ok_kind r by.1 ≡ true) (sym is_first) by.5) (p.heard_before 0 by.0 by.1 late by.4)

      v : Vote n story p.old a by.0
      v = vote_of n story p.old a by.0 w0 by.1 is_first y by.4

      reply_is : by.1 ≡ EpochTaken v.told
      reply_is = some_same (sym by.4 ∙ v.heard)

      told_is : v.told ≡ Some m
      told_is = ap told_newest (sym reply_is) ∙ by.6

  asking_told : (f m : ℕ) → Asking n story past run f m → ToldWrote n story past run f m
  asking_told f m x =
      let c : Comes n (story.takeover x.a) 0 x.asks = comes n (story.takeover x.a) 0 x.asks x.at in
      let q = ask_before n (story.takeover x.a) 0 x.asks m c x.is in
      told_of_start f x.a x.s m x.w c.writer x.sent (omega (arith, x.later)) x.epoch c.at q.1

  -- a takeover that went on from its answers to a prepare
  abbrev pub asking_of : (f a s m : ℕ) (w v : Writer) (slots : List Slot) → Sent n story past a (suc s) w → (story.takeover a).epoch ≡ f
      → seen_at n (story.takeover a) s ≡ Some v → IsAsking m v.round → Counted n (story.takeover a) m slots → Asking n story past run f m
  asking_of f a s m w v slots p epoch at asking counted =
      let x = asked_at n (story.takeover a) s v m at asking in
      record { a = a; s = suc s; w = w; sent = p; later = omega (arith, x.3); epoch = epoch; asks = x.0; at = x.1; is = x.2; slots = slots; counted = counted }

  -- The recovery fact: what is recovered is the whole segment that the best answer's node held when
  -- it answered the prepare.
  pub record FromBest (f : ℕ) (b : BatchView) : Type 0 where
    pub asking : Asking n story past run f b.first
    pub best : Best
    pub is_best : best_of b.first asking.slots ≡ Some best
    pub whole : (y : AnswerAt n story past run f b.first asking best.node) → (g : Segment)
        → find_segment b.first (node_after best.node y.old).segments ≡ Some g → info_of g ≡ best.info → b.bodies ≡ g.bodies

  from_asking : (f : ℕ) (b : BatchView) (a s : ℕ) (w v : Writer) → (p : Sent n story past a (suc s) w) → (epoch : (story.takeover a).epoch ≡ f)
      → (at : seen_at n (story.takeover a) s ≡ Some v) → (r : RecoveredBy n (story.takeover a) s v b) → (q : IsAsking b.first v.round) → FromBest f b
  from_asking f b a s w v p epoch at r q = let x : Asking n story past run f b.first = asking_of f a s b.first w v r.slots p epoch at q r.getting.counted in record {
    asking = x;
    best = record { node = r.node; info = r.getting.info };
    is_best = r.getting.best;
    whole = λ y g found info. (let piece_is : r.batch.bodies ≡ take most_edits (drop (length r.pieces) g.bodies) =
        piece n story past run f b.first x r.node y s r.end v r.pieces r.batch at r.round r.heard
        (fetch_late n story past run f b.first x s v r.node r.end r.pieces at r.round) (omega arith) g found in
        let begins : IsPrefix r.pieces g.bodies = pieces_begin n story past run f b.first x s v r.node r.end r.pieces (omega arith) at r.round y g found in
        let all : IsPrefix b.bodies g.bodies = to (λ z. IsPrefix z g.bodies) (sym r.bodies) (to (λ z. IsPrefix (r.pieces ++ take (r.end + 1 - (b.first + length r.pieces)) z) g.bodies) (sym piece_is)
        (more_of r.pieces g.bodies (r.end + 1 - (b.first + length r.pieces)) most_edits begins)) in
        let start : g.start ≡ b.first = find-start b.first (node_after r.node y.old).segments g found in
        let ends : end_of g ≡ r.end = ap (λ z. z.end) info ∙ r.getting.end_is in
        all_of b.bodies g.bodies all (omega (arith, r.reached)));
  }

  from_parts : (f : ℕ) (b : BatchView) (a s : ℕ) (w v : Writer) → Sent n story past a (suc s) w → (story.takeover a).epoch ≡ f
      → seen_at n (story.takeover a) s ≡ Some v → RecoveredBy n (story.takeover a) s v b → FromBest f b
  from_parts f b a s w v p epoch at r = from_asking f b a s w v p epoch at r (to (λ z. IsAsking b.first z) (sym r.round) refl)

  pub from_best : (f : ℕ) (b : BatchView) → Rec n story past run f b → FromBest f b
  from_best f b r = by r.s r.w r.sent r.is
    where
      by : (s : ℕ) (w : Writer) → Sent n story past r.a s w → w.round ≡ Recover b → FromBest f b
      by zero w p is = let no : Recover b ≡ Propose = sym is ∙ (seen_first n (story.takeover r.a) w p.at).0 in cc
      by (suc s) w p is = (let c : Comes n (story.takeover r.a) s w = comes n (story.takeover r.a) s w p.at in
          from_parts f b r.a s w c.writer p r.epoch c.at (recover_before n (story.takeover r.a) s w b c is))

  module _ (f : ℕ) (good : AllGood n story past run f) where
    -- the best answer to a takeover that asked for m
    best_of_asking : (m : ℕ) (x : Asking n story past run f m) (best : Best) → best_of m x.slots ≡ Some best →
        (e u : ℕ) (body : List ℕ) (below : e < f) (j : Maj n past e m u body) → BestHas n story past run f m x good e u body below j best
    best_of_asking m x best is e u body below j = best_has n story past run f m x good e u body below j best is

    recovered_has : (b : BatchView) → Rec n story past run f b → (e m t : ℕ) (body : List ℕ) → e < f → Maj n past e m t body → (t < b.first) ⊎ ((b.first ≡ m) × HasIn b t body)
    recovered_has b r e m t body lt j = elim (cases_eq b.first m) [
      | inr other ↦ inl (told_above n story past run f b.first e m t body good (asking_told f b.first fb.asking) lt j (omega (arith, le)))
      | inl at_m ↦ inr (
        at_m,
        (let j2 : Maj n past e b.first t body = to (λ z. Maj n past e z t body) (sym at_m) j in
            let h = best_of_asking b.first fb.asking fb.best fb.is_best e t body lt j2 in
            let start : h.segment.start ≡ b.first = find-start b.first (node_after fb.best.node h.answer.old).segments h.segment h.found in
            let bodies : b.bodies ≡ h.segment.bodies = fb.whole h.answer h.segment h.found h.info in
            (h.has.0, omega (arith, h.has.1), ap (λ z. slice_get z h.has.0) bodies ∙ h.has.2)),
      )
    ]
      where
        fb : FromBest f b
        fb = from_best f b r

        le : m ≤ b.first
        le = no_later n story past run f b.first fb.asking e m t body lt j

    -- the best answer isn't longer than what was finalised
    best_end : (m : ℕ) (x : Asking n story past run f m) (b : Best) (g l : ℕ) (body : List ℕ) (below : g < f) (j : Maj n past g m l body)
        → Fin n story past run g m l → (h : BestHas n story past run f m x good g l body below j b) → end_of h.segment ≡ l
    best_end m x b g l body below j fin h = elim (cases_Bool h.segment.is_final) [
      | inl t ↦ fin_once n story past run f h.segment.epoch g m (end_of h.segment) l good h.below_f below (final_fin n story past run b.node m h.answer.old h.segment inside h.found t) fin
      | inr open_yet ↦ elim (cases_order g h.segment.epoch) [
        | inl same_one ↦ (let y = has_place n story past run b.node m (end_of h.segment) h.answer.old h.segment inside h.found
            (omega (arith, start, le, long, h.has.1)) (omega (arith, start, long, le)) in
            let up : end_of h.segment ≤ l = fin_covers n story past run g m l (end_of h.segment) y.0 fin (to (λ z. Wrote n story past z m (end_of h.segment) y.0) (sym same_one) y.2) in
            omega (arith, h.has.1, long))
        | inr other ↦ elim other [
          | inl less ↦ by_shape less (Shaped-later n story m h.segment inside (shaped n story h.answer.old (Follows-earlier n story inside run) b.node m h.segment h.found)).shape
          | inr more ↦ not_lower more open_yet h.high
        ]
      ]
    ]
      where
        inside : Earlier h.answer.old past
        inside = Earlier-tail h.answer.within

        start : h.segment.start ≡ m
        start = find-start m (node_after b.node h.answer.old).segments h.segment h.found

        long : h.has.0 < length h.segment.bodies
        long = get_within h.segment.bodies h.has.0 body h.has.2

        le : (1 ≤ m) × (m ≤ l)
        le = fin_le n story past run g m l fin

        not_lower : h.segment.epoch < g → h.segment.is_final ≡ false → HighEnough n story past run g m l h.segment → end_of h.segment ≡ l
        not_lower more open_yet (inl t) = (let no : true ≡ false = sym t ∙ open_yet in cc)
        not_lower more open_yet (inr k) = absurd (omega (arith, k.0))

        by_shape : g < h.segment.epoch → Shape n story past m h.segment.epoch h.segment.bodies → end_of h.segment ≡ l
        by_shape less (by_opening o) = (let z : l < m = (good h.segment.epoch h.below_f).opened_end m o g m l less fin in absurd (omega (arith, le.1)))
        by_shape less (by_recovery b2 first r bodies) = elim ((good h.segment.epoch h.below_f).recovered_end b2 r g m l less fin) [
          | inl z ↦ absurd (omega (arith, le.1))
          | inr z ↦ (let len : length h.segment.bodies ≡ length b2.bodies = ap length bodies in omega (arith, z.1, len, start))
        ]

    recovered_ends : (b : BatchView) → Rec n story past run f b → (g m l : ℕ) → g < f → Fin n story past run g m l → (l < b.first) ⊎ ((b.first ≡ m) × (last_txid b ≡ l))
    recovered_ends b r g m l lt fin = elim (recovered_has b r s.epoch m l y.0 (omega (arith, s.le)) y.1) [
      | inl h ↦ inl h
      | inr h ↦ inr (
        h.0,
        (let j2 : Maj n past s.epoch b.first l y.0 = to (λ z. Maj n past s.epoch z l y.0) (sym h.0) y.1 in
            let below : s.epoch < f = omega (arith, s.le) in
            let bh = best_of_asking b.first fb.asking fb.best fb.is_best s.epoch l y.0 below j2 in
            let ends : end_of bh.segment ≡ l = best_end b.first fb.asking fb.best s.epoch l y.0 below j2 (to (λ z. Fin n story past run s.epoch z l) (sym h.0) s.fin) bh in
            let start : bh.segment.start ≡ b.first = find-start b.first (node_after fb.best.node bh.answer.old).segments bh.segment bh.found in
            let len : length b.bodies ≡ length bh.segment.bodies = ap length (fb.whole bh.answer bh.segment bh.found bh.info) in omega (arith, ends, start, len)),
      )
    ]
      where
        fb : FromBest f b
        fb = from_best f b r

        s : Sealed n story past run g m l
        s = sealed n story past run g m l fin

        y : (body : List ℕ) × Maj n past s.epoch m l body
        y = s.all l (fin_le n story past run g m l fin).1 (omega arith)

    -- ## An opening, by the serial
    opened_fuel : (fuel s a k : ℕ) (w : Writer) → s < fuel → Sent n story past a s w → (story.takeover a).epoch ≡ f → w.round ≡ Open k
        → (e m t : ℕ) (body : List ℕ) → e < f → Maj n past e m t body → t < k
    opened_fuel zero s a k w lt p epoch is e m t body below j = absurd (omega arith)
    opened_fuel (suc fuel) zero a k w lt p epoch is e m t body below j = let no : Propose ≡ Open k = sym (seen_first n (story.takeover a) w p.at).0 ∙ is in cc
    opened_fuel (suc fuel) (suc s) a k w lt p epoch is e m t body below j =
        go (λ r w2 k2 lt2 p2 q. opened_fuel fuel r a k2 w2 lt2 p2 epoch q e m t body below j) (open_before n (story.takeover a) s w k c is)
      where
        c : Comes n (story.takeover a) s w
        c = comes n (story.takeover a) s w p.at

        first_told : c.writer.round ≡ Propose → Newest n ((story.takeover a).heard s) None → s ≡ 0 → ⊥
        first_told q none zero_s = voted_least f a (suc s) w None p (omega arith) epoch (to (λ z. Newest n ((story.takeover a).heard z) None) zero_s none) e m t body below j

        empty_ask : (x : Asking n story past run f k) → best_of k x.slots ≡ None → t < k
        empty_ask x none = elim (cases_eq m k) [
          | inr other ↦ told_above n story past run f k e m t body good (asking_told f k x) below j (let le : m ≤ k = no_later n story past run f k x e m t body below j in omega arith)
          | inl at_k ↦ absurd (let j2 : Maj n past e k t body = to (λ z. Maj n past e z t body) at_k j in
              to (λ o. IsTop (info_of (high_at n story past run f k x good e t body below j2).segment) o) none
              (best_top n story past run f k x good e t body below j2))
        ]

        sealed_before : ((r : ℕ) (w2 : Writer) (k2 : ℕ) → r < fuel → Sent n story past a r w2 → w2.round ≡ Open k2 → t < k2) → (k2 l : ℕ) → c.writer.round ≡ Finalizing k2 l → k ≡ l + 1 → t < k
        sealed_before again k2 l q next = cover v.covers.is
          where
            v : SealCovers n (story.takeover a) s k2 l
            v = seal_covers n (story.takeover a) s c.writer k2 l c.at q

            fr : (c.writer.committed ≡ l) × (1 ≤ k2) × (k2 ≤ l)
            fr = to (λ r. Framed c.writer r) q (frame n (story.takeover a) s c.writer c.at)

            sent_v : Sent n story past a v.round v.writer
            sent_v = Sent-round n story past a (suc s) v.round w v.writer p (omega (arith, v.right_before)) v.at

            cover : (v.writer.round ≡ Recover v.covers.batch) × (v.covers.batch.first ≡ k2) ⊎ (v.writer.round ≡ Write k2 v.covers.batch) → t < k
            cover (inl z) = elim (recovered_has v.covers.batch (record { a = a; s = v.round; w = v.writer; sent = sent_v; epoch = epoch; is = z.0 }) e m t body below j) [
              | inl h ↦ omega (arith, h, z.1, fr.2)
              | inr h ↦ (let inn : h.1.0 < length v.covers.batch.bodies = get_within v.covers.batch.bodies h.1.0 body h.1.2 in omega (arith, h.1.1, v.last, fr.1, z.1))
            ]
            cover (inr z) = (let o : OpenedAt n (story.takeover a) v.round v.writer.start = opened_at n (story.takeover a) v.round v.writer v.at (write_is v.writer k2 v.covers.batch z) in
                let start : v.writer.start ≡ k2 = write_start v.writer k2 v.covers.batch (frame n (story.takeover a) v.round v.writer v.at) z in
                let order : o.round < v.round = o.before in
                let h : t < v.writer.start = again o.round o.writer v.writer.start (omega (arith, v.right_before))
                (Sent-round n story past a v.round o.round v.writer o.writer sent_v (omega arith) o.at) o.opens in
                omega (arith, fr.2))

        go : ((r : ℕ) (w2 : Writer) (k2 : ℕ) → r < fuel → Sent n story past a r w2 → w2.round ≡ Open k2 → t < k2) → OpenedBy n (story.takeover a) s c.writer k → t < k
        go again (at_one q none one) = absurd (first_told q none (proposal_first n (story.takeover a) s c.writer c.at q))
        go again (found_none slots q counted none) = empty_ask (asking_of f a s k w c.writer slots p epoch c.at q counted) none
        go again (after_seal_of k2 l q next) = sealed_before again k2 l q next

    opened_above : (k : ℕ) → Opn n story past run f k → (e m t : ℕ) (body : List ℕ) → e < f → Maj n past e m t body → t < k
    opened_above k o e m t body below j = opened_fuel (suc o.s) o.s o.a k o.w (omega arith) o.sent o.epoch o.is e m t body below j

    opened_ends : (k : ℕ) → Opn n story past run f k → (g m l : ℕ) → g < f → Fin n story past run g m l → l < k
    opened_ends k o g m l lt fin =
        let s : Sealed n story past run g m l = sealed n story past run g m l fin in
        let y = s.all l (fin_le n story past run g m l fin).1 (omega arith) in
        opened_above k o s.epoch m l y.0 (omega (arith, s.le)) y.1

    -- ## The chain of starts
    after_told : (k : ℕ) → ToldWrote n story past run f k → After n story past run f k
    after_told k x = elim (wrote_after n story past run x.epoch k x.body (good x.epoch x.below) x.wrote) [
      | inl one ↦ inl one
      | inr c ↦ inr (c.0, c.1, c.2, omega (arith, c.3, x.below), c.4, c.5, c.6)
    ]

    -- a finalise round with one after it was done
    pub seal_done : (s a m l : ℕ) (w v : Writer) → (p : Sent n story past a (suc s) w) → (story.takeover a).epoch ≡ f
        → seen_at n (story.takeover a) s ≡ Some v → v.round ≡ Finalizing m l → IsFinalised n past f m l
    seal_done s a m l w v p epoch at is = (record { epoch = (story.takeover a).epoch; serial = s; committed = ans.w.committed }, epoch, (ans.nodes, ans.majority, each))
      where
        ans : Answers n story p.old a s
        ans = answers_of n story past a (suc s) s w run p (omega arith) (no_fetch n (story.takeover a) s v at (to (λ r. IsGet r → ⊥) (sym is) (λ z. z)))

        round : ans.w.round ≡ Finalizing m l
        round = ap (λ z. z.round) (some_same (sym ans.at ∙ at)) ∙ is

        each : (i : ℕ) → Member i ans.nodes → SaidOk past i (Finalize (record { epoch = (story.takeover a).epoch; serial = s; committed = ans.w.committed }) m l)
        each i mem = by (ans.each i mem)
          where
            by : (reply : Reply) × Answered n story p.old a s ans.w i reply × OkHeard n ans.w ((story.takeover a).heard s) i reply
                → SaidOk past i (Finalize (record { epoch = (story.takeover a).epoch; serial = s; committed = ans.w.committed }) m l)
            by r = (
              r.1.old,
              r.1.entry,
              Earlier-trans r.1.within p.within,
              r.1.node,
              (
                r.1.caller,
                r.1.move ∙ (ap (λ z. Answer r.1.caller Heard (asked (story.takeover a).epoch s ans.w.committed z) r.0) round
                    ∙ ap (λ z. Answer r.1.caller Heard (Finalize (record {
                      epoch = (story.takeover a).epoch;
                      serial = s;
                      committed = ans.w.committed;
                    }) m l) z) (said_ok r.0 (to (λ z. is_ok_kind z r.0 ≡ true) round r.1.kind))),
              ),
            )

    opened_after : (s a k : ℕ) (w : Writer) → Sent n story past a s w → (story.takeover a).epoch ≡ f → w.round ≡ Open k → After n story past run f k
    opened_after zero a k w p epoch is = let no : Propose ≡ Open k = sym (seen_first n (story.takeover a) w p.at).0 ∙ is in cc
    opened_after (suc s) a k w p epoch is = go (open_before n (story.takeover a) s w k c is)
      where
        c : Comes n (story.takeover a) s w
        c = comes n (story.takeover a) s w p.at

        go : OpenedBy n (story.takeover a) s c.writer k → After n story past run f k
        go (at_one q none one) = inl one
        go (found_none slots q counted none) = after_told k (asking_told f k (asking_of f a s k w c.writer slots p epoch c.at q counted))
        go (after_seal_of k2 l q next) = inr (
          f,
          k2,
          l,
          omega arith,
          record { a = a; s = s; w = c.writer; sent = Sent-round n story past a (suc s) s w c.writer p (omega arith) c.at; epoch = epoch; is = q },
          sym next,
          seal_done s a k2 l w c.writer p epoch c.at q,
        )

    good_here : Good n story past run f
    good_here = record {
      recovered = recovered_has;
      opened = opened_above;
      recovered_end = recovered_ends;
      opened_end = opened_ends;
      recovered_chain = λ b r. after_told b.first (asking_told f b.first (from_best f b r).asking);
      opened_chain = λ k o. opened_after o.s o.a k o.w o.sent o.epoch o.is;
    }

  -- every epoch keeps what was chosen below it
  good_fuel : (fuel f : ℕ) → f < fuel → Good n story past run f
  good_fuel zero f lt = absurd (omega arith)
  good_fuel (suc fuel) f lt = good_here f (λ e below. good_fuel fuel e (omega arith))

  pub good : (f : ℕ) → Good n story past run f
  good f = good_fuel (suc f) f (omega arith)
