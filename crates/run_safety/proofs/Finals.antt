-- A majority held all of a finalised segment, under that epoch or a lower one that finalised it
-- too.
use Rattle.std.proofs.Common.{◌≡◌, ℕ, zero, suc, ◌+◌, ◌-◌, ◌<◌, ◌≤◌, max, ◌⊎◌, true, false, List, [], ◌∷◌, length, Some, refl, inl, inr, arith, subst, sym, ap, ◌∙◌}
use Rattle.std.proofs.lemmas.Bool.{cases_eq}
use Rattle.journal_core.specs.Segments.{find_segment, end_of}
use Rattle.journal_core.specs.Step.{node_step}
use Rattle.journal_core.specs.Views.{HeadView, BatchView, last_txid}
use Rattle.journal_core.specs.declared.reply.Reply.{Reply}
use Rattle.journal_core.specs.declared.reply.Reply.TheVariants.{Ok, State as StateTold, NewEpoch as EpochTaken, Prepared, Edits, Segments, Refused}
use Rattle.journal_core.specs.declared.request.Request.{Request}
use Rattle.journal_core.specs.declared.request.Request.TheVariants.{Accept}
use Rattle.journal_core.specs.declared.segment.Segment.{Segment}
use Rattle.run_safety.specs.Majority.{Member}
use Rattle.journal_history.specs.Entries.{Entry, node_after, after_move, Earlier}
use Rattle.run_safety.specs.Run.{Story, Follows}
use Rattle.run_safety.proofs.SeenLaws.{Round, Propose, Ask, Get, Other, Recover, Finalizing, Open, Write, Clean, Writer, asked, is_ok_kind}
use Rattle.run_safety.proofs.Places.{Earlier-trans, Follows-earlier}
use Rattle.run_safety.proofs.Majorities.{majorities_share}
use Rattle.journal_core.proofs.SegmentLists.{find-start}
use Rattle.journal_core.proofs.Steps.{front_le}
use Rattle.run_safety.proofs.SoundNodes.{stored_after, led_after}
use Rattle.journal_core.proofs.Opened.{promise_done}
use Rattle.run_safety.proofs.Along.{node_here}
use Rattle.run_safety.proofs.Slots.{some_same}
use Rattle.run_safety.proofs.Frames.{Frame, Framed}
use Rattle.run_safety.proofs.Rounds.{frame}
use Rattle.run_safety.proofs.Spans.{seal_covers, SealCovers, covers_fetch}
use Rattle.run_safety.proofs.Sent.{Sent, Sent-round, Answered, Answers, answers_of, no_fetch, to}
use Rattle.run_safety.proofs.Values.{Wrote, wrote_by, get_there}
use Rattle.run_safety.proofs.Oks.{Passed, passed, NotRefused, JournalHeld, journal_held, AcceptHeld, accept_held}
use Rattle.run_safety.proofs.Shapes.{shaped, Shaped-later, HeldAt, Maj}
use Rattle.run_safety.proofs.Epochs.{Fin, same_epoch, has_place}

-- ## The state after an answer of the Ok kind
pub kind_passed : (r : Round) (reply : Reply) → is_ok_kind r reply ≡ true → NotRefused reply
kind_passed r Ok k = tt
kind_passed r (StateTold p) k = tt
kind_passed r (EpochTaken p) k = tt
kind_passed r (Prepared a b c) k = tt
kind_passed r (Edits b) k = tt
kind_passed r (Segments l) k = tt
kind_passed Propose (Refused x) k = let no : false ≡ true = k in cc
kind_passed (Ask m) (Refused x) k = let no : false ≡ true = k in cc
kind_passed (Recover b) (Refused x) k = let no : false ≡ true = k in cc
kind_passed (Finalizing m l) (Refused x) k = let no : false ≡ true = k in cc
kind_passed (Open m) (Refused x) k = let no : false ≡ true = k in cc
kind_passed (Write m b) (Refused x) k = let no : false ≡ true = k in cc
kind_passed (Clean l) (Refused x) k = let no : false ≡ true = k in cc
kind_passed (Get i m l bodies) (Refused x) k = let no : false ≡ true = k in cc
kind_passed Other (Refused x) k = let no : false ≡ true = k in cc

-- an answer of the Ok kind to this request
pub record OkAt (past : List Entry) (i : ℕ) (r : Request) : Type 0 where
  pub old : List Entry
  pub entry : Entry
  pub within : Earlier (entry ∷ old) past
  pub passed_by : Passed (node_after i old) r
  pub state : node_after i (entry ∷ old) ≡ (node_step (node_after i old) r).state

abbrev pub ok_at : (n : ℕ) (story : Story) (past : List Entry) (a k : ℕ) (w : Writer) (i : ℕ) (reply : Reply) (r : Round) → w.round ≡ r
    → Answered n story past a k w i reply → OkAt past i (asked (story.takeover a).epoch k w.committed r)
ok_at n story past a k w i reply r is x =
    let req : asked (story.takeover a).epoch k w.committed w.round ≡ asked (story.takeover a).epoch k w.committed r = ap (λ z. asked (story.takeover a).epoch k w.committed z) is in
    record {
      old = x.old;
      entry = x.entry;
      within = x.within;
      passed_by = passed (node_after i x.old) (asked (story.takeover a).epoch k w.committed r) reply
          (to (λ z. (node_step (node_after i x.old) z).reply ≡ reply) req x.replied) (kind_passed w.round reply x.kind);
      state = node_here i x.entry x.old x.node ∙ (ap (λ z. after_move (node_after i x.old) z) x.move ∙ ap (λ z. (node_step (node_after i x.old) z).state) req);
    }

-- either all of the list or one with the other
all_or : (A : ℕ → Type 0) (B : Type 0) (nodes : List ℕ) → ((i : ℕ) → Member i nodes → A i ⊎ B) → ((i : ℕ) → Member i nodes → A i) ⊎ B
all_or A B [] each = inl (λ i m. absurd m)
all_or A B (x ∷ nodes) each = elim (each x (inl refl)) [
  | inr b ↦ inr b
  | inl a ↦ elim (all_or A B nodes (λ i m. each i (inr m))) [
    | inr b ↦ inr b
    | inl rest ↦ inl (λ i m. elim m [ inl is ↦ subst A is a | inr k ↦ rest i k ])
  ]
]

module _ (n : ℕ) (story : Story) (past : List Entry) (run : Follows n story past) where
  pub record Sealed (e m l : ℕ) : Type 0 where
    pub epoch : ℕ
    pub le : epoch ≤ e
    pub fin : Fin n story past run epoch m l
    pub all : (t : ℕ) → m ≤ t → t ≤ l → (body : List ℕ) × Maj n past epoch m t body

  -- what a node that answered keeps of what was written under e
  abbrev pub Keeps : ℕ → ℕ → ℕ → ℕ → Type 0
  Keeps e m l i = (t : ℕ) (body : List ℕ) → m ≤ t → t ≤ l → Wrote n story past e m t body → HeldAt past i e m t body

  abbrev pub Lower : ℕ → ℕ → ℕ → Type 0
  Lower e m l = (g : ℕ) × (g < e) × Fin n story past run g m l

  pub keeps_same : (e m l i : ℕ) (q : List Entry) (g : Segment) → Earlier q past → find_segment m (node_after i q).segments ≡ Some g → g.epoch ≡ e → l < m + length g.bodies → Keeps e m l i
  keeps_same e m l i q g p is header long = λ t body le up w.
      record { old = q; within = p; segment = g; found = is; header = header; has = same_epoch n story past run i e m t body q g p is header w (omega arith) }

  pub journal_keeps : (x : ℕ) (a k : ℕ) (w : Writer) (old : List Entry) (i m l : ℕ) (b : BatchView) → Earlier old past → (story.takeover a).epoch ≡ x → l < b.first + length b.bodies →
      OkAt old i (asked (story.takeover a).epoch k w.committed (Write m b))
      → (q : List Entry) × (g : Segment) × Earlier q past × (find_segment m (node_after i q).segments ≡ Some g) × (g.epoch ≡ x)
      × (l < m + length g.bodies)
  journal_keeps x a k w old i m l b p epoch lt ok =
      let h : JournalHeld (node_after i ok.old) (record { epoch = (story.takeover a).epoch; serial = k; committed = w.committed }) m b =
      journal_held (node_after i ok.old) _ m b (led_after i ok.old) ok.passed_by in
      let found : find_segment m (node_after i (ok.entry ∷ ok.old)).segments ≡ Some h.held = ap (λ z. find_segment m z.segments) ok.state ∙ h.found in
      let start : h.held.start ≡ m = find-start m (node_after i (ok.entry ∷ ok.old)).segments h.held found in
      (ok.entry ∷ ok.old, h.held, Earlier-trans ok.within p, found, h.header ∙ epoch, omega (arith, h.ends))

  accept_keeps : (e a k : ℕ) (w : Writer) (old : List Entry) (i m l : ℕ) (b : BatchView) → Earlier old past → (story.takeover a).epoch ≡ e
      → b.first ≡ m → l ≡ last_txid b → 1 ≤ length b.bodies → 1 ≤ b.first →
      OkAt old i (asked (story.takeover a).epoch k w.committed (Recover b)) → Keeps e m l i ⊎ Lower e m l
  accept_keeps e a k w old i m l b p epoch first last long least ok = go h.as_sent
    where
      head : HeadView
      head = record { epoch = (story.takeover a).epoch; serial = k; committed = w.committed }

      q : List Entry
      q = ok.entry ∷ ok.old

      inside : Earlier q past
      inside = Earlier-trans ok.within p

      h : AcceptHeld (node_after i ok.old) head b
      h = accept_held (node_after i ok.old) head b ok.passed_by

      found : find_segment m (node_after i q).segments ≡ Some h.held
      found = ap (λ z. find_segment z (node_after i q).segments) (sym first) ∙ (ap (λ z. find_segment b.first z.segments) ok.state ∙ h.found)

      start : h.held.start ≡ m
      start = find-start m (node_after i q).segments h.held found

      promise : (node_after i q).promised ≡ max (node_after i ok.old).promised head.epoch
      promise = ap (λ z. z.promised) (ok.state ∙ ok.passed_by.state) ∙ promise_done (node_after i ok.old) (Accept head b) (λ z. z)

      below : (node_after i ok.old).promised ≤ head.epoch
      below = front_le (node_after i ok.old) (Accept head b) head refl ok.passed_by.at_once

      header_le : h.held.epoch ≤ e
      header_le = let x : h.held.epoch ≤ (node_after i q).promised = ((stored_after i q).segments m h.held found).header in omega (arith, promise, below, epoch)

      go : ((h.held.epoch ≡ head.epoch) × (h.held.bodies ≡ b.bodies)) ⊎ ((h.held.is_final ≡ true) × (end_of h.held ≡ last_txid b)) → Keeps e m l i ⊎ Lower e m l
      go (inl x) = inl (keeps_same e m l i q h.held inside found (x.0 ∙ epoch) (let len : length h.held.bodies ≡ length b.bodies = ap length x.1 in omega (arith, first, last, long)))
      go (inr x) = elim (cases_eq h.held.epoch e) [
        | inl same_one ↦ inl (keeps_same e m l i q h.held inside found same_one (let ends : end_of h.held ≡ last_txid b = x.1 in omega (arith, start, first, last, long, least)))
        | inr other ↦ inr (
          h.held.epoch,
          omega (arith, header_le),
          to (λ z. Fin n story past run h.held.epoch m z) (x.1 ∙ sym last) ((Shaped-later n story m h.held inside (shaped n story q (Follows-earlier n story inside run) i m h.held found)).final x.0),
        )
      ]

  pub fmin : (fuel e m l : ℕ) → e < fuel → Fin n story past run e m l → Sealed e m l
  fmin zero e m l lt x = absurd (omega arith)
  fmin (suc fuel) e m l lt x = by v.covers.is (λ g g_lt y. fmin fuel g m l (omega arith) y)
    where
      v : SealCovers n (story.takeover x.a) x.s m l
      v = seal_covers n (story.takeover x.a) x.s x.w m l x.sent.at x.is

      earlier : v.round < x.s
      earlier = omega (arith, v.right_before)

      ans : Answers n story x.sent.old x.a v.round
      ans = answers_of n story past x.a x.s v.round x.w run x.sent earlier (no_fetch n (story.takeover x.a) v.round v.writer v.at (covers_fetch v.writer m l v.covers))

      writer : ans.w ≡ v.writer
      writer = some_same (sym ans.at ∙ v.at)

      fr : Frame v.writer
      fr = frame n (story.takeover x.a) v.round v.writer v.at

      sent_v : Sent n story past x.a v.round v.writer
      sent_v = Sent-round n story past x.a x.s v.round x.w v.writer x.sent (omega (arith, earlier)) v.at

      some : (i : ℕ) × Member i ans.nodes × Member i ans.nodes
      some = majorities_share n ans.nodes ans.nodes ans.majority ans.majority

      answer : (r : Round) → v.writer.round ≡ r → (i : ℕ) → Member i ans.nodes → OkAt x.sent.old i (asked (story.takeover x.a).epoch v.round ans.w.committed r)
      answer r is i m = (let y = ans.each i m in ok_at n story x.sent.old x.a v.round ans.w i y.0 r (ap (λ z. z.round) writer ∙ is) y.1)

      chosen : ((i : ℕ) → Member i ans.nodes → Keeps e m l i) → ((t : ℕ) → m ≤ t → t ≤ l → (body : List ℕ) × Wrote n story past e m t body) → Sealed e m l
      chosen keeps wrote = record {
        epoch = e;
        le = omega arith;
        fin = x;
        all = λ t le up. (let y = wrote t le up in (y.0, record { nodes = ans.nodes; majority = ans.majority; each = λ i z. keeps i z t y.0 le up y.1 }));
      }

      written : (is : v.writer.round ≡ Write m v.covers.batch) → (t : ℕ) → m ≤ t → t ≤ l → (body : List ℕ) × Wrote n story past e m t body
      written is t le up = (let j = journal_keeps e x.a v.round ans.w x.sent.old some.0 m l v.covers.batch x.sent.within x.epoch v.covers.below (answer (Write m v.covers.batch) is some.0 some.1) in
          let y = has_place n story past run some.0 m t j.0 j.1 j.2 j.3 le (let z : l < m + length j.1.bodies = j.5 in omega arith) in
          (y.0, to (λ z. Wrote n story past z m t y.0) j.4 y.2))

      recovered : (is : v.writer.round ≡ Recover v.covers.batch) → v.covers.batch.first ≡ m → 1 ≤ length v.covers.batch.bodies → (t : ℕ) → m ≤ t
          → t ≤ l → (body : List ℕ) × Wrote n story past e m t body
      recovered is first long t le up = (let y = get_there v.covers.batch.bodies (t - m) (omega (arith, first, v.last, long)) in (
        y.0,
        to (λ z. Wrote n story past z m t y.0) x.epoch (to (λ z. Wrote n story past (story.takeover x.a).epoch m z y.0) (let z : v.covers.batch.first + (t - m) ≡ t = omega (arith, first) in z)
            (wrote_by n story past x.a v.round v.writer m v.covers.batch sent_v (inl (is, first)) (t - m) y.0 y.1)),
      ))

      by : (v.writer.round ≡ Recover v.covers.batch) × (v.covers.batch.first ≡ m) ⊎ (v.writer.round ≡ Write m v.covers.batch)
          → ((g : ℕ) → g < e → Fin n story past run g m l → Sealed g m l) → Sealed e m l
      by (inr is) ih = chosen (λ i z. (let j = journal_keeps e x.a v.round ans.w x.sent.old i m l v.covers.batch x.sent.within x.epoch v.covers.below
          (answer (Write m v.covers.batch) is i z) in keeps_same e m l i j.0 j.1 j.2 j.3 j.4 j.5)) (written is)
      by (inl is) ih = (let long : 1 ≤ length v.covers.batch.bodies = (to (λ r. Framed v.writer r) is.0 fr).2 in let least : 1 ≤ v.covers.batch.first = (to (λ r. Framed v.writer r) is.0 fr).1 in
          elim (all_or (λ i. Keeps e m l i) (Lower e m l) ans.nodes
          (λ i z. accept_keeps e x.a v.round ans.w x.sent.old i m l v.covers.batch x.sent.within x.epoch is.1 v.last long least (answer (Recover v.covers.batch) is.0 i z))) [
            | inl keeps ↦ chosen keeps (recovered is.0 is.1 long)
            | inr lower ↦ (let y = ih lower.0 lower.1 lower.2 in
                record { epoch = y.epoch; le = (let z : y.epoch ≤ lower.0 = y.le in let u : lower.0 < e = lower.1 in omega arith); fin = y.fin; all = y.all })
          ])

  pub sealed : (e m l : ℕ) → Fin n story past run e m l → Sealed e m l
  sealed e m l x = fmin (suc e) e m l (omega arith) x
