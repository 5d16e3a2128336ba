-- Each part of the line has an author: an epoch whose owner journaled all from its first start to
-- there, as it stands on the line.
use Rattle.std.proofs.Common.{◌≡◌, ℕ, zero, suc, ◌+◌, ◌-◌, ◌<◌, ◌≤◌, ◌⊎◌, List, [], ◌∷◌, length, Option, Some, None, refl, inl, inr, arith, subst, sym, ap, ◌∙◌}
use Rattle.std.specs.Prelude.{slice_get}
use Rattle.std.proofs.lemmas.Bool.{cases_lt, cases_order}
use Rattle.journal_core.specs.Views.{HeadView, BatchView}
use Rattle.journal_core.specs.Segments.{find_segment, HasAt}
use Rattle.journal_core.specs.declared.node_state.NodeState.{NodeState}
use Rattle.journal_core.specs.declared.request.Request.{Request}
use Rattle.journal_core.specs.declared.request.Request.TheVariants.{Start, Journal}
use Rattle.journal_core.specs.declared.reply.Reply.{Reply}
use Rattle.journal_core.specs.declared.segment.Segment.{Segment}
use Rattle.run_safety.specs.Majority.{Member}
use Rattle.journal_history.specs.Entries.{Heard, Answer, Entry, node_after, Earlier, now, before}
use Rattle.run_safety.specs.Run.{Story, Follows}
use Rattle.run_safety.specs.Safe.{IsOnLine, IsOf, IsStart}
use Rattle.run_safety.specs.Parts.{IsJournaled, IsAuthor}
use Rattle.run_safety.proofs.Places.{Earlier-trans, Earlier-tail, Follows-earlier}
use Rattle.run_safety.proofs.Majorities.{majorities_share}
use Rattle.journal_core.proofs.SegmentLists.{find-start}
use Rattle.journal_core.proofs.Changes.{Change, same, created, grown, made_final, replaced, removed}
use Rattle.run_safety.proofs.Along.{Requested, entry_change}
use Rattle.run_safety.proofs.Slots.{none≢some, some_same}
use Rattle.run_safety.proofs.SeenLaws.{Round, Propose, Ask, Get, Recover, Finalizing, Open, Write, Clean, Other, Writer, seen_at, seen_first, asked}
use Rattle.run_safety.proofs.Frames.{OkHeard, Framed, low_of, end_below, IsWriting, IsGet, IsAsking}
use Rattle.run_safety.proofs.Rounds.{Comes, comes, frame, below_later}
use Rattle.run_safety.proofs.Before.{stage, StageLater, stage_later, OpenedBy, at_one, found_none, after_seal_of, open_before, OpenedAt, opened_at}
use Rattle.run_safety.proofs.Spans.{SealCovers, seal_covers, write_is, write_start}
use Rattle.run_safety.proofs.Sent.{Sent, Sent-round, OfRound, round_within, Answered, Answers, answers_of, no_fetch, to}
use Rattle.run_safety.proofs.Values.{Wrote, wrote_once, journal_round, accept_round, start_round, get_append, get_there, get_within}
use Rattle.run_safety.proofs.Shapes.{InRound, InRound-later, write_opens, HeldAt, Maj}
use Rattle.run_safety.proofs.Epochs.{Rec, Opn, owner_same, not_first, held_wrote, wrote_above, maj_wrote}
use Rattle.run_safety.proofs.Best.{AnswerOf, best_answer, lower_header}
use Rattle.run_safety.proofs.Induction.{FromBest, from_best}
use Rattle.run_safety.proofs.Safety.{chosen_maj, within_segment, on_line}
use Rattle.run_safety.proofs.Committed.{write_chosen}

-- ## How the bodies of a segment came
-- a `journal` request into this segment came with this body at this txid
abbrev pub JournaledIn : List Entry → ℕ → ℕ → ℕ → List ℕ → Type 0
JournaledIn past e m t body =
    (old : List Entry) × (x : Entry) × Earlier (x ∷ old) past
    × ((head : HeadView) × (batch : BatchView) × (head.epoch ≡ e) × IsOf x (Journal head m batch) × ((k : ℕ) × (t ≡ batch.first + k) × (slice_get batch.bodies k ≡ Some body)))

pub data Came (n : ℕ) (story : Story) (past : List Entry) (m e : ℕ) (bodies : List (List ℕ)) : Type 0 where
  by_journal : InRound n story past e (Open m) → ((k : ℕ) (body : List ℕ) → slice_get bodies k ≡ Some body → JournaledIn past e m (m + k) body) → Came n story past m e bodies
  by_accept : (b : BatchView) → b.first ≡ m → InRound n story past e (Recover b) → bodies ≡ b.bodies → Came n story past m e bodies

abbrev CameOr : (n : ℕ) (story : Story) (past : List Entry) → ℕ → Option Segment → Type 0
CameOr n story past m None = Unit {0}
CameOr n story past m (Some g) = Came n story past m g.epoch g.bodies

journaled_later : {past more : List Entry} (e m t : ℕ) (body : List ℕ) → Earlier past more → JournaledIn past e m t body → JournaledIn more e m t body
journaled_later e m t body p j = (j.0, j.1, Earlier-trans j.2 p, j.3)

pub Came-later : (n : ℕ) (story : Story) {past more : List Entry} (m e : ℕ) (bodies : List (List ℕ)) → Earlier past more → Came n story past m e bodies → Came n story more m e bodies
Came-later n story m e bodies p (by_journal o all) = by_journal (InRound-later n story e (Open m) p o) (λ k body h. journaled_later e m (m + k) body p (all k body h))
Came-later n story m e bodies p (by_accept b first r is) = by_accept b first (InRound-later n story e (Recover b) p r) is

CameOr-later : (n : ℕ) (story : Story) {past more : List Entry} (m : ℕ) (o : Option Segment) → Earlier past more → CameOr n story past m o → CameOr n story more m o
CameOr-later n story m None p c = tt
CameOr-later n story m (Some g) p c = Came-later n story m g.epoch g.bodies p c

module _ (n : ℕ) (story : Story) (past : List Entry) (run : Follows n story past) where
  -- what was recovered under an epoch isn't opened under it
  not_both : (e m : ℕ) (b : BatchView) → Opn n story past run e m → Rec n story past run e b → b.first ≡ m → ⊥
  not_both e m b o r first = elim (cases_order o.s r.s) [
    | inl same_round ↦ (let one : o.w ≡ r.w = some_same (sym o.sent.at ∙ (ap (λ s. seen_at n (story.takeover o.a) s) same_round ∙ at)) in
        let clash : Open m ≡ Recover b = sym o.is ∙ (ap (λ w. w.round) one ∙ r.is) in absurd (distinct clash))
    | inr other ↦ elim other [
      | inl lt ↦ stages (ap stage o.is) (ap stage r.is) (stage_later n (story.takeover o.a) o.s r.s o.w r.w lt o.sent.at at)
      | inr gt ↦ (let h : end_below r.w r.w.round ≤ low_of o.w o.w.round = below_later n (story.takeover o.a) r.s o.s r.w o.w gt at o.sent.at in
          let h2 : b.first + length b.bodies ≤ low_of o.w o.w.round = to (λ q. end_below r.w q ≤ low_of o.w o.w.round) r.is h in
          let h3 : b.first + length b.bodies ≤ m = to (λ q. b.first + length b.bodies ≤ low_of o.w q) o.is h2 in
          let fr = to (λ q. Framed r.w q) r.is (frame n (story.takeover r.a) r.s r.w r.sent.at) in omega (arith, fr.2, first))
    ]
  ]
    where
      one : r.a ≡ o.a
      one = owner_same n story past run e (Recover b) (Open m) r o (not_first n story past run e (Recover b) r (λ q. cc)) (not_first n story past run e (Open m) o (λ q. cc))

      at : seen_at n (story.takeover o.a) r.s ≡ Some r.w
      at = to (λ a. seen_at n (story.takeover a) r.s ≡ Some r.w) one r.sent.at

      distinct : Open m ≡ Recover b → ⊥
      distinct q = cc

      stages : stage o.w.round ≡ 4 → stage r.w.round ≡ 3 → StageLater (stage o.w.round) (stage r.w.round) → ⊥
      stages p q (inl lt) = omega arith
      stages p q (inr c) = omega (arith, c.0)

came_change : (n : ℕ) (story : Story) (past old : List Entry) (x : Entry) → Follows n story past → Earlier (x ∷ old) past
    → (s : NodeState) (r : Request) (m : ℕ) (o new : Option Segment) → Change s r m o new → IsOf x r → OfRound n story past r
    → CameOr n story past m o → CameOr n story past m new
came_change n story past old x run p s r m o new same is z v = v
came_change n story past old x run p s r m o new (created h q none) is z v =
    let y = start_round (story.takeover z.a).epoch z.s z.w.committed z.w.round h m (sym q ∙ z.is) in
    by_journal (record { a = z.a; s = z.s; w = z.w; sent = z.sent; epoch = sym y.1; is = y.0 }) (λ k body e. none≢some body e)
came_change n story past old x run p s r m (Some g) new (grown h b q header f first) is z (by_journal opn all) =
    by_journal opn (λ k body e. elim (get_append g.bodies b.bodies k body e) [
      | inl l ↦ all k body l
      | inr y ↦ (old, x, p, (h, b, sym header, to (λ w. IsOf x w) q is, (y.0, omega (arith, first, y.1), y.2)))
    ])
came_change n story past old x run p s r m (Some g) new (grown h b q header f first) is z (by_accept c at rec bodies) =
    let y = journal_round (story.takeover z.a).epoch z.s z.w.committed z.w.round h m b (sym q ∙ z.is) in
    let opens : InRound n story past (story.takeover z.a).epoch (Open m) =
    write_opens n story past z.a z.s z.w m z.sent (write_is z.w m b y.0)
    (write_start z.w m b (frame n (story.takeover z.a) z.s z.w z.sent.at) y.0) in
    absurd (not_both n story past run g.epoch m c (to (λ e. InRound n story past e (Open m)) (sym y.1 ∙ sym header) opens) rec at)
came_change n story past old x run p s r m (Some g) new (made_final h l q edit f header ends) is z v = v
came_change n story past old x run p s r m o new (replaced h b q first f) is z v =
    let y = accept_round (story.takeover z.a).epoch z.s z.w.committed z.w.round h b (sym q ∙ z.is) in
    by_accept b first (record { a = z.a; s = z.s; w = z.w; sent = z.sent; epoch = sym y.1; is = y.0 }) refl
came_change n story past old x run p s r m (Some g) new (removed h l q newer low shut) is z v = tt

came_or : (n : ℕ) (story : Story) (past : List Entry) → Follows n story past → (i m : ℕ) → CameOr n story past m (find_segment m (node_after i past).segments)
unfolding node_after find_segment
came_or n story [] f i m = tt
came_or n story (e ∷ old) f i m =
    let earlier : CameOr n story (e ∷ old) m (find_segment m (node_after i old).segments) =
    CameOr-later n story m (find_segment m (node_after i old).segments) (before now) (came_or n story old f.1 i m) in
    elim (entry_change i e old m) [
      | inl same_one ↦ subst (λ o. CameOr n story (e ∷ old) m o) (sym same_one) earlier
      | inr c ↦
          (let asked_here : Requested (node_after e.node old) e.move c.by.request = subst (λ z. Requested (node_after z old) e.move c.by.request) (sym c.node) c.by.asked in
          came_change n story (e ∷ old) old e f now (node_after i old) c.by.request m _ _ c.by.change asked_here (round_within n story (e ∷ old) old e c.by.request f now asked_here) earlier)
    ]

module _ (n : ℕ) (story : Story) (past : List Entry) (run : Follows n story past) where
  pub came : (i m : ℕ) (q : List Entry) (g : Segment) → Earlier q past → find_segment m (node_after i q).segments ≡ Some g → Came n story past m g.epoch g.bodies
  came i m q g p is = Came-later n story m g.epoch g.bodies p (to (λ o. CameOr n story q m o) is (came_or n story q (Follows-earlier n story p run) i m))

  journaled_of : (e m t : ℕ) (body : List ℕ) → JournaledIn past e m t body → IsJournaled past e t body
  journaled_of e m t body j = (j.0, j.1, j.2, (j.3.0, m, j.3.1, j.3.2, j.3.3, j.3.4))

  -- what the owner holds in a segment that it opened was journaled
  held_journaled : (i e m t : ℕ) (body : List ℕ) → Opn n story past run e m → HeldAt past i e m t body → JournaledIn past e m t body
  held_journaled i e m t body o h = by (came i m h.old h.segment h.within h.found)
    where
      start : h.segment.start ≡ m
      start = find-start m (node_after i h.old).segments h.segment h.found

      by : Came n story past m h.segment.epoch h.segment.bodies → JournaledIn past e m t body
      by (by_journal opn all) = to (λ z. JournaledIn past z m t body) h.header
          (to (λ z. JournaledIn past h.segment.epoch m z body) (let place : m + h.has.0 ≡ t = omega (arith, start, h.has.1) in place) (all h.has.0 body h.has.2))
      by (by_accept b first r bodies) = absurd (not_both n story past run e m b o (to (λ z. Rec n story past run z b) h.header r) first)

  -- ## The first segment of an owner
  pub record FirstOf (e m : ℕ) : Type 0 where
    pub first : ℕ
    pub started : (old : List Entry) × (x : Entry) × Earlier (x ∷ old) past × IsStart x e first
    pub least : (k : ℕ) → Opn n story past run e k → first ≤ k
    pub below : first ≤ m
    pub all : (t : ℕ) → first ≤ t → t < m → (body : List ℕ) × IsJournaled past e t body × ((k : ℕ) × Maj n past e k t body)

  -- the opening of a segment that is written was done
  pub start_entry : (a s m : ℕ) (w v : Writer) (r : ℕ) → (p : Sent n story past a s w) → r < s → seen_at n (story.takeover a) r ≡ Some v
      → v.round ≡ Open m → (old : List Entry) × (x : Entry) × Earlier (x ∷ old) past × IsStart x (story.takeover a).epoch m
  start_entry a s m w v r p lt at is = by (ans.each some.0 some.1)
    where
      ans : Answers n story p.old a r
      ans = answers_of n story past a s r w run p lt (no_fetch n (story.takeover a) r v at (to (λ q. IsGet q → ⊥) (sym is) (λ z. z)))

      some : (i : ℕ) × Member i ans.nodes × Member i ans.nodes
      some = majorities_share n ans.nodes ans.nodes ans.majority ans.majority

      round : ans.w.round ≡ Open m
      round = ap (λ z. z.round) (some_same (sym ans.at ∙ at)) ∙ is

      by : (reply : Reply) × Answered n story p.old a r ans.w some.0 reply × OkHeard n ans.w ((story.takeover a).heard r) some.0 reply
          → (old : List Entry) × (x : Entry) × Earlier (x ∷ old) past × IsStart x (story.takeover a).epoch m
      by y = (
        y.1.old,
        y.1.entry,
        Earlier-trans y.1.within p.within,
        (
          record { epoch = (story.takeover a).epoch; serial = r; committed = ans.w.committed },
          refl,
          inl (y.1.caller, Heard, y.0, y.1.move ∙ ap (λ z. Answer y.1.caller Heard (asked (story.takeover a).epoch r ans.w.committed z) y.0) round),
        ),
      )

  -- an opening right after these has none before it
  open_least : (e a s m : ℕ) (w : Writer) → (p : Sent n story past a s w) → (story.takeover a).epoch ≡ e → (is : w.round ≡ Open m)
      → ((k : ℕ) (v : Writer) → k < s → seen_at n (story.takeover a) k ≡ Some v → (j : ℕ) → v.round ≡ Open j → ⊥) → (k : ℕ) → Opn n story past run e k
      → m ≤ k
  open_least e a s m w p epoch is none k o = elim (cases_order o.s s) [
    | inl same_round ↦ (let one_w : o.w ≡ w = some_same (sym at ∙ (ap (λ j. seen_at n (story.takeover a) j) same_round ∙ p.at)) in
        let same_open : Open k ≡ Open m = sym o.is ∙ (ap (λ z. z.round) one_w ∙ is) in let eq : k ≡ m = cc in omega arith)
    | inr other ↦ elim other [
      | inl lt ↦ absurd (none o.s o.w lt at k o.is)
      | inr gt ↦ (let h : end_below w w.round ≤ low_of o.w o.w.round = below_later n (story.takeover a) s o.s w o.w gt p.at at in
          to (λ q. m ≤ low_of o.w q) o.is (to (λ q. end_below w q ≤ low_of o.w o.w.round) is h))
    ]
  ]
    where
      own : Opn n story past run e m
      own = record { a = a; s = s; w = w; sent = p; epoch = epoch; is = is }

      one : o.a ≡ a
      one = owner_same n story past run e (Open k) (Open m) o own (not_first n story past run e (Open k) o (λ q. cc)) (not_first n story past run e (Open m) own (λ q. cc))

      at : seen_at n (story.takeover a) o.s ≡ Some o.w
      at = to (λ b. seen_at n (story.takeover b) o.s ≡ Some o.w) one o.sent.at

  -- no opening stands before a round of an earlier stage
  none_open : (a s : ℕ) (v : Writer) → seen_at n (story.takeover a) s ≡ Some v → stage v.round < 4 → (k : ℕ) (u : Writer) → k < suc s
      → seen_at n (story.takeover a) k ≡ Some u → (j : ℕ) → u.round ≡ Open j → ⊥
  none_open a s v at low k u lt at_k j is = elim (cases_lt k s) [
    | inl earlier ↦ late (ap stage is) (stage_later n (story.takeover a) k s u v earlier at_k at)
    | inr le ↦ (let one : u ≡ v = some_same (sym at_k ∙ (ap (λ z. seen_at n (story.takeover a) z) (let eq : k ≡ s = omega arith in eq) ∙ at)) in
        let four : stage v.round ≡ 4 = ap (λ z. stage z.round) (sym one) ∙ ap stage is in omega arith)
  ]
    where
      late : stage u.round ≡ 4 → StageLater (stage u.round) (stage v.round) → ⊥
      late four (inl lt2) = omega arith
      late four (inr c) = omega (arith, c.0)

  asking_low : (m : ℕ) (r : Round) → IsAsking m r → stage r < 4
  asking_low m (Ask k) a = omega arith
  asking_low m (Get i k l bodies) a = omega arith
  asking_low m Propose a = absurd a
  asking_low m (Recover b) a = absurd a
  asking_low m (Finalizing k l) a = absurd a
  asking_low m (Open k) a = absurd a
  asking_low m (Write k b) a = absurd a
  asking_low m (Clean l) a = absurd a
  asking_low m Other a = absurd a

  first_of : (fuel e a s m : ℕ) (w : Writer) → s < fuel → Sent n story past a s w → (story.takeover a).epoch ≡ e → IsWriting w.round → w.start ≡ m → FirstOf e m
  first_of zero e a s m w lt p epoch writing start = absurd (omega arith)
  first_of (suc fuel) e a s m w lt p epoch writing start = at_opening o.round o.writer o.before o.at (o.opens ∙ ap (λ z. Open z) start)
      (λ k v r2 lt2 p2 writing2 start2. first_of fuel e a r2 k v lt2 p2 epoch writing2 start2)
    where
      o : OpenedAt n (story.takeover a) s w.start
      o = opened_at n (story.takeover a) s w p.at writing

      at_opening : (r : ℕ) (v : Writer) → r < s → seen_at n (story.takeover a) r ≡ Some v → v.round ≡ Open m
          → ((k : ℕ) (u : Writer) (r2 : ℕ) → r2 < fuel → Sent n story past a r2 u → IsWriting u.round → u.start ≡ k → FirstOf e k) → FirstOf e m
      at_opening zero v r_lt at is again = let clash : Open m ≡ Propose = sym is ∙ (seen_first n (story.takeover a) v at).0 in cc
      at_opening (suc r) v r_lt at is again = by (open_before n (story.takeover a) r v m c is)
        where
          c : Comes n (story.takeover a) r v
          c = comes n (story.takeover a) r v at

          sent_v : Sent n story past a (suc r) v
          sent_v = Sent-round n story past a s (suc r) w v p (omega arith) at

          here : ((k : ℕ) (u : Writer) → k < suc r → seen_at n (story.takeover a) k ≡ Some u → (j : ℕ) → u.round ≡ Open j → ⊥) → FirstOf e m
          here none = record {
            first = m;
            started = to (λ z. (old : List Entry) × (x : Entry) × Earlier (x ∷ old) past × IsStart x z m) epoch (start_entry a s m w v (suc r) p r_lt at is);
            least = open_least e a (suc r) m v sent_v epoch is none;
            below = omega arith;
            all = λ t le up. absurd (omega arith);
          }

          behind : (k l : ℕ) → c.writer.round ≡ Finalizing k l → m ≡ l + 1 → FirstOf e m
          behind k l seals next = cover sc.covers.is
            where
              sc : SealCovers n (story.takeover a) r k l
              sc = seal_covers n (story.takeover a) r c.writer k l c.at seals

              sent_c : Sent n story past a r c.writer
              sent_c = Sent-round n story past a (suc r) r v c.writer sent_v (omega arith) c.at

              sent_s : Sent n story past a sc.round sc.writer
              sent_s = Sent-round n story past a (suc r) sc.round v sc.writer sent_v (omega (arith, sc.right_before)) sc.at

              fr : (c.writer.committed ≡ l) × (1 ≤ k) × (k ≤ l)
              fr = to (λ q. Framed c.writer q) seals (frame n (story.takeover a) r c.writer c.at)

              cover : (sc.writer.round ≡ Recover sc.covers.batch) × (sc.covers.batch.first ≡ k) ⊎ (sc.writer.round ≡ Write k sc.covers.batch) → FirstOf e m
              cover (inl z) = here (λ j u j_lt at_j q q_is. after_recovery j u j_lt at_j q q_is (cases_lt j (suc sc.round)))
                where
                  after_recovery : (j : ℕ) (u : Writer) → j < suc r → seen_at n (story.takeover a) j ≡ Some u → (q : ℕ) → u.round ≡ Open q → (j < suc sc.round) ⊎ (suc sc.round ≤ j) → ⊥
                  after_recovery j u j_lt at_j q q_is (inl before_it) = none_open a sc.round sc.writer sc.at (to (λ y. stage y < 4) (sym z.0) (omega arith)) j u before_it at_j q q_is
                  after_recovery j u j_lt at_j q q_is (inr le) = (let at_r : j ≡ r = omega (arith, sc.right_before) in
                      let one : u ≡ c.writer = some_same (sym at_j ∙ (ap (λ y. seen_at n (story.takeover a) y) at_r ∙ c.at)) in
                      let clash : Open q ≡ Finalizing k l = sym q_is ∙ (ap (λ y. y.round) one ∙ seals) in cc)
              cover (inr z) = more (again k sc.writer sc.round (omega (arith, sc.right_before)) sent_s (write_is sc.writer k sc.covers.batch z)
                  (write_start sc.writer k sc.covers.batch (frame n (story.takeover a) sc.round sc.writer sc.at) z))
                where
                  opn : Opn n story past run e k
                  opn = to (λ y. InRound n story past y (Open k)) epoch
                      (write_opens n story past a sc.round sc.writer k sent_s (write_is sc.writer k sc.covers.batch z)
                      (write_start sc.writer k sc.covers.batch (frame n (story.takeover a) sc.round sc.writer sc.at) z))

                  last : (x : List ℕ) × Maj n past e k l x
                  last = (let y = write_chosen n story past run a (suc r) sc.round v sc.writer k sc.covers.batch sent_v (omega (arith, sc.right_before)) sc.at z in
                      (y.0, to (λ q. Maj n past q k l y.0) epoch (to (λ q. Maj n past (story.takeover a).epoch k q y.0) (sym sc.last) y.1)))

                  in_segment : (t : ℕ) → k ≤ t → t ≤ l → (body : List ℕ) × IsJournaled past e t body × ((j : ℕ) × Maj n past e j t body)
                  in_segment t le up = (let y = within_segment n story past run e k l t last.0 last.1 le up in
                      let some = majorities_share n y.1.nodes y.1.nodes y.1.majority y.1.majority in
                      (y.0, journaled_of e k t y.0 (held_journaled some.0 e k t y.0 opn (y.1.each some.0 some.1)), (k, y.1)))

                  more : FirstOf e k → FirstOf e m
                  more f = record {
                    first = f.first;
                    started = f.started;
                    least = f.least;
                    below = omega (arith, f.below, fr.2);
                    all = λ t le up. elim (cases_lt t k) [ inl lower ↦ f.all t le lower | inr higher ↦ in_segment t higher (omega arith) ];
                  }

          by : OpenedBy n (story.takeover a) r c.writer m → FirstOf e m
          by (at_one q none one) = here (none_open a r c.writer c.at (to (λ y. stage y < 4) (sym q) (omega arith)))
          by (found_none slots q counted none) = here (none_open a r c.writer c.at (asking_low m c.writer.round q))
          by (after_seal_of k l q next) = behind k l q next

  -- ## The author of what a held segment has
  abbrev Agrees : ℕ → ℕ → Segment → Type 0
  Agrees m t g = (u : ℕ) (y : List ℕ) → m ≤ u → u ≤ t → HasAt g u y → IsOnLine n past u y

  starts_least : (e k : ℕ) (f : FirstOf e k) (old : List Entry) (x : Entry) (start : ℕ) → Earlier (x ∷ old) past → IsStart x e start → f.first ≤ start
  starts_least e k f old x start p is =
      let z : OfRound n story past (Start is.0 start) = round_within n story past old x (Start is.0 start) run p is.2 in
      let r = start_round (story.takeover z.a).epoch z.s z.w.committed z.w.round is.0 start z.is in
      f.least start (record { a = z.a; s = z.s; w = z.w; sent = z.sent; epoch = sym r.1 ∙ is.1; is = r.0 })

  -- where the segment was written by the owner of its epoch, that epoch is the author
  author_here : (i m t : ℕ) (q : List Entry) (g : Segment) → Earlier q past → find_segment m (node_after i q).segments ≡ Some g → m ≤ t → t < m + length g.bodies → Agrees m t g →
      ((k : ℕ) (body : List ℕ) → slice_get g.bodies k ≡ Some body → JournaledIn past g.epoch m (m + k) body) → (first : ℕ) × IsAuthor n past g.epoch first t
  author_here i m t q g p is le lt agrees all = by (first_of (suc z.s) g.epoch z.a z.s m z.w (omega arith) z.sent (sym r.1 ∙ j.3.2)
      (write_is z.w m j.3.1 r.0) (write_start z.w m j.3.1 (frame n (story.takeover z.a) z.s z.w z.sent.at) r.0))
    where
      start : g.start ≡ m
      start = find-start m (node_after i q).segments g is

      body_of : (u : ℕ) → m ≤ u → u ≤ t → (y : List ℕ) × (slice_get g.bodies (u - m) ≡ Some y)
      body_of u low up = get_there g.bodies (u - m) (omega arith)

      y : (y : List ℕ) × (slice_get g.bodies (t - m) ≡ Some y)
      y = body_of t le (omega arith)

      j : JournaledIn past g.epoch m (m + (t - m)) y.0
      j = all (t - m) y.0 y.1

      z : OfRound n story past (Journal j.3.0 m j.3.1)
      z = round_within n story past j.0 j.1 (Journal j.3.0 m j.3.1) run j.2 j.3.3

      r : (z.w.round ≡ Write m j.3.1) × (j.3.0.epoch ≡ (story.takeover z.a).epoch)
      r = journal_round (story.takeover z.a).epoch z.s z.w.committed z.w.round j.3.0 m j.3.1 z.is

      by : FirstOf g.epoch m → (first : ℕ) × IsAuthor n past g.epoch first t
      by f = (
        f.first,
        record {
          started = f.started;
          is_first = λ old x k p2 is2. starts_least g.epoch m f old x k p2 is2;
          begins_below = omega (arith, f.below);
          journaled = λ u low up. elim (cases_lt u m) [
            | inl before_it ↦ (let a = f.all u low before_it in (a.0, a.1, on_line n story past run g.epoch a.2.0 u a.0 a.2.1))
            | inr within ↦ (let b = body_of u within up in
                let place : m + (u - m) ≡ u = omega arith in
                (b.0, journaled_of g.epoch m u b.0 (to (λ k. JournaledIn past g.epoch m k b.0) place (all (u - m) b.0 b.1)), agrees u b.0 within up (u - m, omega (arith, start), b.1)))
          ];
        },
      )

  author_fuel : (fuel i m t : ℕ) (q : List Entry) (g : Segment) → g.epoch < fuel → Earlier q past → find_segment m (node_after i q).segments ≡ Some g
      → m ≤ t → t < m + length g.bodies → Agrees m t g → (epoch : ℕ) × (first : ℕ) × IsAuthor n past epoch first t
  author_fuel zero i m t q g low p is le lt agrees = absurd (omega arith)
  author_fuel (suc fuel) i m t q g low p is le lt agrees = by (came i m q g p is) (λ j q2 h e_lt p2 is2 lt2 agrees2. author_fuel fuel j m t q2 h e_lt p2 is2 le lt2 agrees2)
    where
      by : Came n story past m g.epoch g.bodies → ((j : ℕ) (q2 : List Entry) (h : Segment) → h.epoch < fuel → Earlier q2 past
          → find_segment m (node_after j q2).segments ≡ Some h → t < m + length h.bodies → Agrees m t h
          → (epoch : ℕ) × (first : ℕ) × IsAuthor n past epoch first t) →
          (epoch : ℕ) × (first : ℕ) × IsAuthor n past epoch first t
      by (by_journal o all) again = (let a = author_here i m t q g p is le lt agrees all in (g.epoch, a.0, a.1))
      by (by_accept b first rec bodies) again = taken (from_best n story past run g.epoch b rec)
        where
          taken : FromBest n story past run g.epoch b → (epoch : ℕ) × (first : ℕ) × IsAuthor n past epoch first t
          taken fb = with_answer (best_answer n story past run g.epoch b.first fb.asking fb.best fb.is_best)
            where
              with_answer : AnswerOf n story past run g.epoch b.first fb.asking fb.best → (epoch : ℕ) × (first : ℕ) × IsAuthor n past epoch first t
              with_answer a = again fb.best.node a.answer.old a.segment (omega (arith, lower, low)) (Earlier-tail a.answer.within) found (to (λ z. t < m + length z) same_bodies lt)
                  (λ u y low2 up has. agrees u y low2 up (has.0, omega (arith, has.1, start_a, start_g), to (λ z. slice_get z has.0 ≡ Some y) (sym same_bodies) has.2))
                where
                  found : find_segment m (node_after fb.best.node a.answer.old).segments ≡ Some a.segment
                  found = to (λ z. find_segment z (node_after fb.best.node a.answer.old).segments ≡ Some a.segment) first a.found

                  same_bodies : g.bodies ≡ a.segment.bodies
                  same_bodies = bodies ∙ fb.whole a.answer a.segment a.found a.info

                  start_a : a.segment.start ≡ m
                  start_a = find-start m (node_after fb.best.node a.answer.old).segments a.segment found

                  start_g : g.start ≡ m
                  start_g = find-start m (node_after i q).segments g is

                  lower : a.segment.epoch < g.epoch
                  lower = lower_header n story past run g.epoch b.first fb.asking fb.best.node a.answer a.segment a.found

  pub line_author : (t : ℕ) (x : List ℕ) → IsOnLine n past t x → (epoch : ℕ) × (first : ℕ) × IsAuthor n past epoch first t
  line_author t x o = by (chosen_maj n story past run o.epoch t x o.chosen)
    where
      by : (m : ℕ) × Maj n past o.epoch m t x → (epoch : ℕ) × (first : ℕ) × IsAuthor n past epoch first t
      by j = held (majorities_share n j.1.nodes j.1.nodes j.1.majority j.1.majority)
        where
          above : (1 ≤ j.0) × (j.0 ≤ t)
          above = wrote_above n story past run o.epoch j.0 t x (maj_wrote n story past run o.epoch j.0 t x j.1)

          held : (i : ℕ) × Member i j.1.nodes × Member i j.1.nodes → (epoch : ℕ) × (first : ℕ) × IsAuthor n past epoch first t
          held i = from (j.1.each i.0 i.1)
            where
              from : HeldAt past i.0 o.epoch j.0 t x → (epoch : ℕ) × (first : ℕ) × IsAuthor n past epoch first t
              from h = author_fuel (suc h.segment.epoch) i.0 j.0 t h.old h.segment (omega arith) h.within h.found above.1 (omega (arith, start, long, h.has.1))
                  (λ u y low up has. (let c = within_segment n story past run o.epoch j.0 t u x j.1 low up in
                  let own : Wrote n story past o.epoch j.0 u y = held_wrote n story past run i.0 o.epoch j.0 u y
                  (record { old = h.old; within = h.within; segment = h.segment; found = h.found; header = h.header; has = has }) in
                  let same_body : c.0 ≡ y = (wrote_once n story past o.epoch j.0 j.0 u c.0 y run (maj_wrote n story past run o.epoch j.0 u c.0 c.1) own).1 in
                  to (λ z. IsOnLine n past u z) same_body (on_line n story past run o.epoch j.0 u c.0 c.1)))
                where
                  start : h.segment.start ≡ j.0
                  start = find-start j.0 (node_after i.0 h.old).segments h.segment h.found

                  long : h.has.0 < length h.segment.bodies
                  long = get_within h.segment.bodies h.has.0 x h.has.2
