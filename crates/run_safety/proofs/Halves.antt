-- A proposal that was taken is the promise, and one takeover's where a majority took it; what is
-- held under an epoch that recovered the segment is what was accepted; a purge spares the segment
-- that it is sent from.
use Rattle.std.proofs.Common.{◌≡◌, ℕ, ◌<◌, ◌≤◌, ◌⊎◌, true, false, List, ◌∷◌, length, Option, Some, None, refl, inl, inr, arith, sym, ap, ◌∙◌}
use Rattle.std.proofs.lemmas.Bool.{cases_lt, cases_order, cases_Bool, cond_both}
use Rattle.journal_core.specs.Limits.{head_of}
use Rattle.journal_core.specs.Segments.{find_segment, has_edit, end_of}
use Rattle.journal_core.specs.Step.{last_or_start}
use Rattle.journal_core.specs.Views.{HeadView, BatchView}
use Rattle.journal_core.specs.declared.reply.Reply.TheVariants.{NewEpoch as EpochTaken}
use Rattle.journal_core.specs.declared.request.Request.{Request}
use Rattle.journal_core.specs.declared.request.Request.TheVariants.{NewEpoch, Accept, Purge}
use Rattle.journal_core.specs.declared.segment.Segment.{Segment}
use Rattle.journal_core.proofs.SegmentLists.{find-start}
use Rattle.journal_core.proofs.Stored.{some_body}
use Rattle.journal_core.proofs.Steps.{front_le}
use Rattle.run_safety.specs.Majority.{Member, IsMajority}
use Rattle.journal_history.specs.Entries.{Way, Answer, Entry, Earlier, after_move, node_after}
use Rattle.run_safety.specs.Run.{Story, Follows, IsMade, IsNext, takeover_at}
use Rattle.run_safety.specs.Safe.{IsHeld, IsOf}
use Rattle.run_safety.specs.Parts.{TookEpoch, IsFrom}
use Rattle.run_safety.proofs.Places.{Earlier-trans, Earlier-tail, Follows-earlier, next_of}
use Rattle.run_safety.proofs.Majorities.{majorities_share}
use Rattle.run_safety.proofs.SoundNodes.{stored_after, promise_earlier}
use Rattle.run_safety.proofs.Along.{node_here, entry_change}
use Rattle.run_safety.proofs.Slots.{none≢some, some_same}
use Rattle.run_safety.proofs.SeenLaws.{Round, Propose, Recover, Open, Clean, Writer, seen, seen_at}
use Rattle.run_safety.proofs.Frames.{Framed, IsWriting, low_of, end_below}
use Rattle.run_safety.proofs.Rounds.{frame}
use Rattle.run_safety.proofs.Spans.{clean_below_round}
use Rattle.run_safety.proofs.Sent.{made_of, made_at, made_asks, Sent, Taken, taken, Vote, Votes, votes_of, Order, the_same, first_before, second_before, order_of, to}
use Rattle.run_safety.proofs.Values.{purge_round}
use Rattle.run_safety.proofs.Shapes.{InRound, write_opens, Shape, by_recovery, by_opening, shaped, Shaped-later}
use Rattle.run_safety.proofs.Epochs.{Rec, Opn, After, owner_same, not_first, recover_once}
use Rattle.run_safety.proofs.Induction.{good}
use Rattle.run_safety.proofs.Kept.{Mine, mine, headed, accepting, rounds_apart}
use Rattle.run_safety.proofs.Proposals.{only_removed}
use Rattle.run_safety.proofs.Finalised.{final_edit, later_purge}

-- ## Where a segment ends
start_le_last : (g : Segment) → g.start ≤ last_or_start g
start_le_last g = cond_both (has_edit g) (end_of g) g.start (λ z. g.start ≤ z) (λ e. (let long : 0 < length g.bodies = some_body g.bodies e in omega arith)) (λ e. omega arith)

module _ (n : ℕ) (story : Story) (past : List Entry) (run : Follows n story past) where
  -- ## Proposals
  -- the node took this epoch by this entry
  abbrev Took : ℕ → List Entry → Entry → ℕ → Type 0
  Took i old e f = ((node_after i old).promised < f) × ((node_after i (e ∷ old)).promised ≡ f)

  took : (old : List Entry) (e : Entry) (c : ℕ) (w : Way) (f : ℕ) (told : Option ℕ) → Earlier (e ∷ old) past → e.move ≡ Answer c w (NewEpoch f) (EpochTaken told) → Took e.node old e f
  took old e c w f told p is =
      let said = to (λ m. IsNext n story old e.node (node_after e.node old) m) is (next_of n story p run).is_next in
      let y : Taken (node_after e.node old) f told = taken (node_after e.node old) f told said.1 in
      (y.above, ap (λ s. s.promised) (node_here e.node e old refl ∙ ap (λ m. after_move (node_after e.node old) m) is) ∙ y.promise)

  pub epoch_promised : (old : List Entry) (e : Entry) (c : ℕ) (w : Way) (f : ℕ) (told : Option ℕ) → Earlier (e ∷ old) past → e.move ≡ Answer c w (NewEpoch f) (EpochTaken told)
      → ((node_after e.node old).promised < f) × ((node_after e.node (e ∷ old)).promised ≡ f) × (f ≤ (node_after e.node past).promised)
  epoch_promised old e c w f told p is =
      let t : Took e.node old e f = took old e c w f told p is in
      let rises : (node_after e.node (e ∷ old)).promised ≤ (node_after e.node past).promised = promise_earlier e.node p in
      (t.0, t.1, omega (arith, t.1, rises))

  -- a node takes an epoch once
  one_taking : (i f : ℕ) (x y : Entry) (xs ys : List Entry) → Took i xs x f → Took i ys y f → Order x y xs ys → story.whose (length xs) ≡ story.whose (length ys)
  one_taking i f x y xs ys a b (the_same e) = ap (λ z. story.whose (length z)) e
  one_taking i f x y xs ys a b (first_before p) = let h : (node_after i (x ∷ xs)).promised ≤ (node_after i ys).promised = promise_earlier i p in absurd (omega (arith, a.1, b.0))
  one_taking i f x y xs ys a b (second_before p) = let h : (node_after i (y ∷ ys)).promised ≤ (node_after i xs).promised = promise_earlier i p in absurd (omega (arith, b.1, a.0))

  -- one node's taking, of a takeover
  record TookAt (i f a : ℕ) : Type 0 where
    old : List Entry
    entry : Entry
    within : Earlier (entry ∷ old) past
    whose : story.whose (length old) ≡ a
    took_it : Took i old entry f

  took_at : (a f : ℕ) (nodes : List ℕ) → TookEpoch story past a f nodes → (i : ℕ) → Member i nodes → TookAt i f a
  took_at a f nodes each i m =
      let x = each i m in
      record {
        old = x.0;
        entry = x.1;
        within = x.2;
        whose = x.4;
        took_it = to (λ k. Took k x.0 x.1 f) x.3 (took x.0 x.1 x.5.0 x.5.1 f x.5.2 x.2 x.5.3);
      }

  one_taker : (i f a b : ℕ) → TookAt i f a → TookAt i f b → a ≡ b
  one_taker i f a b x y = sym x.whose ∙ (one_taking i f x.entry y.entry x.old y.old x.took_it y.took_it (order_of x.within y.within) ∙ y.whose)

  pub one_proposal : (a b f : ℕ) (nodes others : List ℕ) → IsMajority n nodes → IsMajority n others → TookEpoch story past a f nodes → TookEpoch story past b f others → a ≡ b
  one_proposal a b f nodes others p q x y =
      let i = majorities_share n nodes others p q in
      one_taker i.0 f a b (took_at a f nodes x i.0 i.1) (took_at b f others y i.0 i.2)

  -- the votes before a request with a head of the epoch are such takings
  vote_took : (past_then : List Entry) (a i f : ℕ) → Earlier past_then past → (story.takeover a).epoch ≡ f → Vote n story past_then a i → TookAt i f a
  vote_took past_then a i f p epoch v = record {
    old = v.old;
    entry = v.entry;
    within = Earlier-trans v.within p;
    whose = v.whose;
    took_it = to (λ e. Took i v.old v.entry e) epoch (v.taken_is.above, v.after);
  }

  pub proposer_owns : (old : List Entry) (e : Entry) (a : ℕ) (nodes : List ℕ) (r : Request) (h : HeadView) → IsMajority n nodes → TookEpoch story past a h.epoch nodes
      → Earlier (e ∷ old) past → IsOf e r → head_of r ≡ Some h → story.whose (length old) ≡ a
  proposer_owns old e a nodes r h majority x p q head =
      let own : Mine n story past run old r = mine n story past run old e r p q in
      let first = headed n story past run old r h own head in
      let votes : Votes n story own.sent.old (story.whose (length old)) = votes_of n story past (story.whose (length old)) (story.round (length old)) own.w run own.sent first.1 in
      let i = majorities_share n votes.nodes nodes votes.majority majority in
      one_taker i.0 h.epoch (story.whose (length old)) a (vote_took own.sent.old (story.whose (length old)) i.0 h.epoch own.sent.within (sym first.0) (votes.each i.0 i.1))
      (took_at a h.epoch nodes x i.0 i.2)

  -- ## What was accepted
  -- an epoch recovers a segment with one batch
  recovered_once : (f : ℕ) (b c : BatchView) → Rec n story past run f b → Rec n story past run f c → c ≡ b
  recovered_once f b c r q =
      let one : r.a ≡ q.a = owner_same n story past run f (Recover b) (Recover c) r q (not_first n story past run f (Recover b) r (λ z. cc z))
      (not_first n story past run f (Recover c) q (λ z. cc z)) in
      let at : seen_at n (story.takeover r.a) q.s ≡ Some q.w = ap (λ z. seen_at n (story.takeover z) q.s) one ∙ q.sent.at in
      let rounds : r.s ≡ q.s = recover_once n (story.takeover r.a) r.s q.s r.w q.w b c r.sent.at at r.is q.is in
      let writer : r.w ≡ q.w = some_same (sym r.sent.at ∙ (ap (λ z. seen_at n (story.takeover r.a) z) rounds ∙ at)) in
      let both : Recover c ≡ Recover b = sym q.is ∙ (ap (λ z. z.round) (sym writer) ∙ r.is) in
      let same_one : c ≡ b = cc in
      same_one

  pub accepted_value : (old : List Entry) (e : Entry) (h : HeadView) (b : BatchView) (i : ℕ) (g : Segment) → Earlier (e ∷ old) past → IsOf e (Accept h b)
      → IsHeld past i g → g.start ≡ b.first → g.epoch ≡ h.epoch → g.bodies ≡ b.bodies
  accepted_value old e h b i g p is held start epoch = by (Shaped-later n story g.start g held.1 (shaped n story held.0 (Follows-earlier n story held.1 run) i g.start g held.2)).shape
    where
      rec : Rec n story past run h.epoch b
      rec = accepting n story past run old e h b p is

      apart : Opn n story past run h.epoch b.first → ⊥
      apart o = rounds_apart n story past run h.epoch b o rec (owner_same n story past run h.epoch (Open b.first) (Recover b) o rec
          (not_first n story past run h.epoch (Open b.first) o (λ z. cc z)) (not_first n story past run h.epoch (Recover b) rec (λ z. cc z)))

      by : Shape n story past g.start g.epoch g.bodies → g.bodies ≡ b.bodies
      by (by_opening o) = absurd (apart (to (λ m. InRound n story past h.epoch (Open m)) start (to (λ f. InRound n story past f (Open g.start)) epoch o)))
      by (by_recovery c first r bodies) = bodies ∙ ap (λ z. z.bodies) (recovered_once h.epoch b c rec (to (λ f. InRound n story past f (Recover c)) epoch r))

  -- ## Which copies a purge may remove
  module _ (a s : ℕ) (w : Writer) (min : ℕ) (sent : Sent n story past a s w) (is : w.round ≡ Clean min) where
    opens : Opn n story past run (story.takeover a).epoch w.start
    opens = write_opens n story past a s w w.start sent (to (λ q. IsWriting q) (sym is) tt) refl

    cleans : InRound n story past (story.takeover a).epoch (Clean min)
    cleans = record { a = a; s = s; w = w; sent = sent; epoch = refl; is = is }

    from_one : 1 ≤ w.start
    from_one = (to (λ r. Framed w r) is (frame n (story.takeover a) s w sent.at)).1

    -- a segment of a lower epoch doesn't begin above it
    lower_below : (f m : ℕ) → f < (story.takeover a).epoch → After n story past run f m → w.start < m → ⊥
    lower_below f m less (inl one) above = omega (arith, one, from_one)
    lower_below f m less (inr c) above =
        let below : c.2 < w.start = (good n story past run (story.takeover a).epoch).opened_end w.start opens c.0 c.1 c.2 (omega (arith, c.3)) c.4 in omega (arith, c.5)

    -- a later one of its own owner begins above the committed txid
    same_owner : (r : Round) (x : InRound n story past (story.takeover a).epoch r) → (r ≡ Propose → ⊥) → seen_at n (story.takeover a) x.s ≡ Some x.w
    unfolding cleans
    same_owner r x other =
        ap (λ z. seen_at n (story.takeover z) x.s) (sym (owner_same n story past run (story.takeover a).epoch r (Clean min) x cleans
        (not_first n story past run (story.takeover a).epoch r x other) (not_first n story past run (story.takeover a).epoch (Clean min) cleans (λ q. cc q)))) ∙ x.sent.at

    recovered_above : (b : BatchView) → Rec n story past run (story.takeover a).epoch b → w.start < b.first → w.committed < b.first
    recovered_above b r above =
        let ends : w.start < end_below r.w r.w.round = to (λ q. w.start < end_below r.w q) (sym r.is) (omega arith) in
        to (λ q. w.committed < low_of r.w q) r.is (clean_below_round n (story.takeover a) s r.s w r.w min sent.at (same_owner (Recover b) r (λ q. cc q)) is
        (λ q. to (λ z. IsWriting z) r.is q) (λ q. let no : Recover b ≡ Open w.start = sym r.is ∙ q in cc) ends)

    opened_above : (m : ℕ) → Opn n story past run (story.takeover a).epoch m → w.start < m → w.committed < m
    opened_above m o above =
        let ends : w.start < end_below o.w o.w.round = to (λ q. w.start < end_below o.w q) (sym o.is) above in
        to (λ q. w.committed < low_of o.w q) o.is (clean_below_round n (story.takeover a) s o.s w o.w min sent.at (same_owner (Open m) o (λ q. cc q)) is
        (λ q. to (λ z. IsWriting z) o.is q) (λ q. (let one : Open m ≡ Open w.start = sym o.is ∙ q in let start : m ≡ w.start = cc in omega (arith, start))) ends)

    later_stays : (i m : ℕ) (old : List Entry) (g : Segment) → Earlier old past → find_segment m (node_after i old).segments ≡ Some g
        → g.epoch ≤ (story.takeover a).epoch → m ≤ w.committed → w.start < m → ⊥
    later_stays i m old g p found header low above = by (cases_lt g.epoch (story.takeover a).epoch) (Shaped-later n story m g p (shaped n story old (Follows-earlier n story p run) i m g found)).shape
      where
        by : (g.epoch < (story.takeover a).epoch) ⊎ ((story.takeover a).epoch ≤ g.epoch) → Shape n story past m g.epoch g.bodies → ⊥
        by (inl less) (by_recovery b first r bodies) =
            lower_below g.epoch m less (to (λ z. After n story past run g.epoch z) first ((good n story past run g.epoch).recovered_chain b r)) above
        by (inl less) (by_opening o) = lower_below g.epoch m less ((good n story past run g.epoch).opened_chain m o) above
        by (inr more) (by_recovery b first r bodies) =
            (let same : g.epoch ≡ (story.takeover a).epoch = omega (arith, header) in
            let least : w.committed < b.first = recovered_above b (to (λ f. InRound n story past f (Recover b)) same r) (omega (arith, first, above)) in omega (arith, first, low))
        by (inr more) (by_opening o) =
            (let same : g.epoch ≡ (story.takeover a).epoch = omega (arith, header) in
            let least : w.committed < m = opened_above m (to (λ f. InRound n story past f (Open m)) same o) above in omega (arith, low))

    spared : (i m : ℕ) (old : List Entry) (g : Segment) → Earlier old past → find_segment m (node_after i old).segments ≡ Some g
        → g.epoch ≤ (story.takeover a).epoch → last_or_start g ≤ w.committed → (m < w.start) ⊎ ((m ≡ w.start) × (g.is_final ≡ false))
    spared i m old g p found header low = elim (cases_order m w.start) [
      | inl here ↦ inr (here, in_progress here (cases_Bool g.is_final))
      | inr other ↦ elim other [ inl lt ↦ inl lt | inr gt ↦ absurd (later_stays i m old g p found header upto gt) ]
    ]
      where
        start : g.start ≡ m
        start = find-start m (node_after i old).segments g found

        upto : m ≤ w.committed
        upto = let le : g.start ≤ last_or_start g = start_le_last g in omega (arith, start, le, low)

        in_progress : m ≡ w.start → (g.is_final ≡ true) ⊎ (g.is_final ≡ false) → g.is_final ≡ false
        in_progress here (inr f) = f
        in_progress here (inl t) =
            (let ending : last_or_start g ≡ end_of g = (final_edit i m old g found t).1 in
            let below : m < w.start = later_purge n story past run i m old g p found t a s w min sent is header (omega (arith, low, ending)) in absurd (omega (arith, here)))

  abbrev Spared : List Entry → Entry → ℕ → Segment → Type 0
  Spared old e m g = (h : HeadView) × (min : ℕ) × (from : ℕ) × IsOf e (Purge h min) × IsFrom n story old from × ((m < from) ⊎ ((m ≡ from) × (last_or_start g ≤ h.committed) × (g.is_final ≡ false)))

  purge_from : (old : List Entry) (e : Entry) (i m : ℕ) (g : Segment) → Earlier (e ∷ old) past → find_segment m (node_after i old).segments ≡ Some g
      → (h : HeadView) (min : ℕ) → IsOf e (Purge h min) → last_or_start g ≤ h.committed → (node_after i old).promised ≤ h.epoch → Spared old e m g
  purge_from old e i m g p there h min q low above = by (made_of n story old e (Purge h min) (next_of n story p run) q)
    where
      header : g.epoch ≤ (node_after i old).promised
      header = ((stored_after i old).segments m g there).header

      by : (caller : ℕ) × IsMade n story old caller e.node (Purge h min) → Spared old e m g
      by made =
          let w : Writer = seen made.1.underway in
          let asks = purge_round (takeover_at story old).epoch (story.round (length old)) w.committed w.round h min (made_asks n story old made.0 e.node (Purge h min) made.1) in
          let sent : Sent n story past (story.whose (length old)) (story.round (length old)) w =
          record {
            old = old;
            within = Earlier-tail p;
            at = made_at n story old made.0 e.node (Purge h min) made.1;
            heard_before = λ k j reply lt x. made.1.heard_before k j reply lt x;
          } in
          let kept : (m < w.start) ⊎ ((m ≡ w.start) × (g.is_final ≡ false)) =
          spared (story.whose (length old)) (story.round (length old)) w min sent asks.0 i m old g (Earlier-tail p) there (omega (arith, header, above, asks.1)) (omega (arith, low, asks.2)) in
          (h, min, made.1.underway.writer.start, q, (made.1.underway, made.1.is_there, refl), elim kept [ inl lt ↦ inl lt | inr x ↦ inr (x.0, low, x.1) ])

  pub purge_spares : (old : List Entry) (e : Entry) (i m : ℕ) (g : Segment) → Earlier (e ∷ old) past → find_segment m (node_after i old).segments ≡ Some g
      → find_segment m (node_after i (e ∷ old)).segments ≡ None → Spared old e m g
  purge_spares old e i m g p there gone = elim (entry_change i e old m) [
    | inl unchanged ↦ none≢some g (sym gone ∙ (unchanged ∙ there))
    | inr c ↦ (let y = only_removed n story past run (node_after i old) c.by.request m g _ _ c.by.change there gone in
        purge_from old e i m g p there y.0 y.1 (to (λ q. IsOf e q) y.2 c.by.asked) y.3 (front_le (node_after i old) c.by.request y.0 (ap head_of y.2) c.by.passed))
  ]
