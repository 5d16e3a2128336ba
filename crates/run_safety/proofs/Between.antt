-- What may come at a node before its answer to a prepare: only requests of lower epochs; and what
-- stands between a purge and a later segment.
use Rattle.std.proofs.Common.{◌≡◌, ℕ, zero, suc, ◌+◌, ◌-◌, ◌<◌, ◌≤◌, max, ◌⊎◌, List, ◌∷◌, Option, Some, None, refl, inl, inr, arith, sym, ap, ◌∙◌}
use Rattle.std.proofs.lemmas.Bool.{cases_lt, cases_eq}
use Rattle.journal_core.specs.Effects.{after_effects}
use Rattle.journal_core.specs.Limits.{head_of}
use Rattle.journal_core.specs.Segments.{find_segment, HasAt}
use Rattle.journal_core.specs.Step.{node_step, refused_at_once, row_effects, fronted, front_promised}
use Rattle.journal_core.specs.Views.{HeadView, last_txid}
use Rattle.journal_core.specs.declared.node_state.NodeState.{NodeState}
use Rattle.journal_core.specs.declared.reply.Reply.{Reply}
use Rattle.journal_core.specs.declared.request.Request.{Request}
use Rattle.journal_core.specs.declared.request.Request.TheVariants.{State, NewEpoch, Start, Journal, Finalize, Prepare, Fetch, Accept, Purge, Read, Manifest}
use Rattle.journal_core.specs.declared.segment.Segment.{Segment}
use Rattle.writer_core.specs.Whole.{Takeover}
use Rattle.journal_history.specs.Entries.{Entry, Move, Answer, Stop, Way, after_move, node_after, Earlier, now, before}
use Rattle.run_safety.proofs.SeenLaws.{Round, Propose, Ask, Get, Open, Other, Recover, Finalizing, Write, Clean, Writer, seen_at}
use Rattle.journal_core.proofs.Steps.{Acted, at_once, by_row, done, acted, none≢some}
use Rattle.journal_core.proofs.SegmentLaws.{stopped_is_promised}
use Rattle.journal_core.proofs.Changes.{Change, same, created, grown, made_final, replaced, removed}
use Rattle.journal_core.proofs.Opened.{promise_done, IsProposal}
use Rattle.run_safety.proofs.Along.{Requested, entry_change, frozen}
use Rattle.run_safety.proofs.Slots.{some_same}
use Rattle.run_safety.proofs.Rounds.{frame, Comes, comes}
use Rattle.run_safety.proofs.Frames.{end_below, IsWriting, StepOf, asks_for, opens_at_one, opens_found_none, recovers, seals_recovered, opens_next}
use Rattle.run_safety.proofs.Frames.{writes_first, seals_written, goes_on, gets, gets_more, IsAsking}
use Rattle.run_safety.proofs.Spans.{Covers, covers_end, Against, below_it, opens_it, in_it, against, write_start, covers_in, covers≢open}
use Rattle.run_safety.proofs.Sent.{to}
use Rattle.run_safety.proofs.Shapes.{HeldAt}

-- ## The promise after a request that passed is at least its epoch
head_answer : (s : NodeState) (r : Request) (h : HeadView) → head_of r ≡ Some h → refused_at_once s r ≡ None → Acted s r → h.epoch ≤ (node_step s r).state.promised
head_answer s r h is a (at_once x b n e) = none≢some x (sym a ∙ b)
head_answer s r h is a (by_row x b c n e) = rw n (let z : max s.promised h.epoch ≡ front_promised s.promised (head_of r) = ap (λ o. front_promised s.promised o) (sym is) in omega arith)
head_answer s r h is a (done b c n e) = rw n
    (let z : max s.promised h.epoch ≡ front_promised s.promised (head_of r) = ap (λ o. front_promised s.promised o) (sym is) in
    let k : (after_effects (fronted s r) (row_effects (fronted s r) r)).promised ≡ (fronted s r).promised = promise_done s r (not_proposal r is) in omega arith)
  where
    not_proposal : (q : Request) → head_of q ≡ Some h → IsProposal q → ⊥
    not_proposal (NewEpoch p) i x = none≢some h i
    not_proposal State i x = x
    not_proposal (Start a m) i x = x
    not_proposal (Journal a m b) i x = x
    not_proposal (Finalize a m l) i x = x
    not_proposal (Prepare a m) i x = x
    not_proposal (Fetch a m from) i x = x
    not_proposal (Accept a b) i x = x
    not_proposal (Purge a l) i x = x
    not_proposal (Read f) i x = x
    not_proposal Manifest i x = x

pub head_promise : (s : NodeState) (move : Move) (r : Request) (h : HeadView) → Requested s move r → refused_at_once s r ≡ None → head_of r ≡ Some h → h.epoch ≤ (after_move s move).promised
head_promise s move r h (inl x) a is = to (λ m. h.epoch ≤ (after_move s m).promised) (sym x.3) (head_answer s r h is a (acted s r))
head_promise s move r h (inr x) a is = to (λ m. h.epoch ≤ (after_move s m).promised) (sym x.3) (go x.2 x.4)
  where
    go : (k : ℕ) → 0 < k → h.epoch ≤ (after_move s (Stop x.0 x.1 r k)).promised
    go zero lt = absurd (omega arith)
    go (suc k) lt = stopped_is_promised s r h k is a

-- ## A proposal, a prepare and a fetch leave the segments
abbrev pub OnlyAsks : Request → Type 0
OnlyAsks (NewEpoch e) = Unit {0}
OnlyAsks (Prepare h m) = Unit {0}
OnlyAsks (Fetch h m from) = Unit {0}
OnlyAsks _ = ⊥

asking_same : (s : NodeState) (r : Request) (m : ℕ) (o new : Option Segment) → OnlyAsks r → Change s r m o new → new ≡ o
asking_same s r m o new a same = refl
asking_same s r m o new a (created h q none) = absurd (to OnlyAsks q a)
asking_same s r m (Some g) new a (grown h b q header f first) = absurd (to OnlyAsks q a)
asking_same s r m (Some g) new a (made_final h l q edit f header ends) = absurd (to OnlyAsks q a)
asking_same s r m o new a (replaced h b q first f) = absurd (to OnlyAsks q a)
asking_same s r m (Some g) new a (removed h l q newer le shut) = absurd (to OnlyAsks q a)

request_of : (s : NodeState) (move : Move) (c : ℕ) (y : Way) (r q : Request) (reply : Reply) → move ≡ Answer c y q reply → Requested s move r → r ≡ q
request_of s move c y r q reply is (inl x) = let both : Answer x.0 x.1 r x.2 ≡ Answer c y q reply = sym x.3 ∙ is in cc
request_of s move c y r q reply is (inr x) = let no : Stop x.0 x.1 r x.2 ≡ Answer c y q reply = sym x.3 ∙ is in cc

pub asking_entry : (i m : ℕ) (e : Entry) (old : List Entry) (c : ℕ) (y : Way) (q : Request) (reply : Reply) → e.move ≡ Answer c y q reply → OnlyAsks q
    → find_segment m (node_after i (e ∷ old)).segments ≡ find_segment m (node_after i old).segments
asking_entry i m e old c y q reply is a = elim (entry_change i e old m) [
  | inl same_one ↦ same_one
  | inr x ↦ asking_same (node_after i old) x.by.request m _ _ (to OnlyAsks (sym (request_of (node_after i old) e.move c y x.by.request q reply is x.by.asked)) a) x.by.change
]

-- ## Places of one run
pub place_order : {x : Entry} {q xs past : List Entry} → Earlier q past → Earlier (x ∷ xs) past → Earlier q xs ⊎ Earlier (x ∷ xs) q
place_order now p = inr p
place_order {x} {q} {xs} (before a) now = inl a
place_order (before a) (before b) = place_order a b

-- where a segment under e was held at some place, it was so before a place that raises the promise
-- above e
pub held_before : (i e m t : ℕ) (body : List ℕ) (x : Entry) (xs past : List Entry) → HeldAt past i e m t body → Earlier (x ∷ xs) past → e < (node_after i (x ∷ xs)).promised →
    (find_segment m (node_after i (x ∷ xs)).segments ≡ find_segment m (node_after i xs).segments)
    → (q : List Entry) × (g : Segment) × Earlier q xs × (find_segment m (node_after i q).segments ≡ Some g) × (g.epoch ≡ e) × HasAt g t body
held_before i e m t body x xs past h p lt quiet = elim (place_order h.within p) [
  | inl a ↦ (h.old, h.segment, a, h.found, h.header, h.has)
  | inr b ↦ (xs, h.segment, now, sym quiet ∙ frozen i m h.segment b h.found (omega (arith, h.header)), h.header, h.has)
]

-- ## Between a purge from a segment and a later segment that was written its finalise stands
pub record SealedAt (n : ℕ) (t : Takeover) (s m : ℕ) : Type 0 where
  pub round : ℕ
  pub before : round ≤ s
  pub writer : Writer
  pub at : seen_at n t round ≡ Some writer
  pub end : ℕ
  pub is : writer.round ≡ Finalizing m end

not_both : (m : ℕ) (r : Round) → IsAsking m r → IsWriting r → ⊥
not_both m (Write k b) a w = a
not_both m (Clean l) a w = a
not_both m Propose a w = w
not_both m (Ask k) a w = w
not_both m (Get i k l bodies) a w = w
not_both m (Recover b) a w = w
not_both m (Finalizing k l) a w = w
not_both m (Open k) a w = w
not_both m Other a w = w

still_or_sealed : (n : ℕ) (t : Takeover) (s d m : ℕ) (w x : Writer) → seen_at n t s ≡ Some w → IsWriting w.round → w.start ≡ m
    → seen_at n t (d + s) ≡ Some x → (IsWriting x.round × (x.start ≡ m)) ⊎ SealedAt n t (d + s) m
still_or_sealed n t s zero m w x a writing is b = inl (let one : w ≡ x =
    some_same (sym a ∙ (ap (λ z. seen_at n t z) (let h : s ≡ 0 + s = omega arith in h) ∙ b)) in to (λ z. IsWriting z.round × (z.start ≡ m)) one
    (writing, is))
still_or_sealed n t s (suc d) m w x a writing is b = next (still_or_sealed n t s d m w c.writer a writing is c.at)
  where
    there : seen_at n t (suc (d + s)) ≡ Some x
    there = ap (λ z. seen_at n t z) (let h : suc (d + s) ≡ suc d + s = omega arith in h) ∙ b

    c : Comes n t (d + s) x
    c = comes n t (d + s) x there

    step : IsWriting c.writer.round → c.writer.start ≡ m → StepOf n t (d + s) c.writer x → (IsWriting x.round × (x.start ≡ m)) ⊎ SealedAt n t (suc d + s) m
    step y z (asks_for k q f e) = absurd (to (λ r. IsWriting r) q y)
    step y z (opens_at_one q f e) = absurd (to (λ r. IsWriting r) q y)
    step y z (opens_found_none k slots q f g e) = absurd (not_both k c.writer.round q y)
    step y z (gets k node end slots q g e) = absurd (not_both k c.writer.round q y)
    step y z (gets_more k node end bodies batch slots q h g e) = absurd (to (λ r. IsWriting r) q y)
    step y z (recovers k node end bodies batch slots q h g lt e) = absurd (to (λ r. IsWriting r) q y)
    step y z (seals_recovered k q e) = absurd (to (λ r. IsWriting r) q y)
    step y z (opens_next k l q e) = absurd (to (λ r. IsWriting r) q y)
    step y z (writes_first k q e st co) = absurd (to (λ r. IsWriting r) q y)
    step y z (seals_written k k2 q e) = inr (record { round = suc d + s; before = omega arith; writer = x; at = b; end = last_txid k2; is = e ∙ ap (λ u. Finalizing u (last_txid k2)) z })
    step y z (goes_on p q e co) = inl (q, e ∙ z)

    next : (IsWriting c.writer.round × (c.writer.start ≡ m)) ⊎ SealedAt n t (d + s) m → (IsWriting x.round × (x.start ≡ m)) ⊎ SealedAt n t (suc d + s) m
    next (inl y) = step y.0 y.1 c.step
    next (inr y) = inr (record { round = y.round; before = (let h : y.round ≤ d + s = y.before in omega arith); writer = y.writer; at = y.at; end = y.end; is = y.is })

-- a purge from m, and a later segment that was written: m was finalised before that
pub sealed_between : (n : ℕ) (t : Takeover) (s k : ℕ) (w x : Writer) (min m l : ℕ) → seen_at n t s ≡ Some w → w.round ≡ Clean min → w.start ≡ m
    → seen_at n t k ≡ Some x → Covers x l l → m < l → (y : SealedAt n t k m) × (y.round < k)
sealed_between n t s k w x min m l a is start b c above = elim (cases_lt s k) [
  | inr le ↦ absurd (place (against n t k s x w le b a (to (λ r. IsWriting r) (sym is) tt)))
  | inl lt ↦ by_cover lt c.is
]
  where
    place : Against n t k x w.start → ⊥
    place (below_it h) = (let e : l < end_below x x.round = covers_end x l l c in omega (arith, start))
    place (opens_it q) = covers≢open x w.start l l c q
    place (in_it p q) = (let same_start : l ≡ w.start = covers_in x w.start l l (frame n t k x b) c p q in omega (arith, start))

    finish : s < k → ((IsWriting x.round × (x.start ≡ m)) ⊎ SealedAt n t (k - s + s) m)
        → (x.round ≡ Recover c.batch) × (c.batch.first ≡ l) ⊎ (x.round ≡ Write l c.batch) → (y : SealedAt n t k m) × (y.round < k)
    finish lt (inl y) (inl z) = absurd (to (λ r. IsWriting r) z.0 y.0)
    finish lt (inl y) (inr z) = (let same_start : x.start ≡ l = write_start x l c.batch (frame n t k x b) z in absurd (omega (arith, y.1)))
    finish lt (inr y) z = (let e : k - s + s ≡ k = omega arith in let le : y.round ≤ k - s + s = y.before in (
      record { round = y.round; before = omega arith; writer = y.writer; at = y.at; end = y.end; is = y.is },
      elim (cases_eq y.round k) [
        | inr other ↦ omega arith
        | inl same_one ↦ absurd (clash z (ap (λ q. q.round) (some_same (sym b ∙ (ap (λ q. seen_at n t q) (sym same_one) ∙ y.at))) ∙ y.is))
      ],
    ))
      where
        clash : {e : ℕ} → (x.round ≡ Recover c.batch) × (c.batch.first ≡ l) ⊎ (x.round ≡ Write l c.batch) → x.round ≡ Finalizing m e → ⊥
        clash {e} (inl q) r = let no : Recover c.batch ≡ Finalizing m e = sym q.0 ∙ r in cc
        clash {e} (inr q) r = let no : Write l c.batch ≡ Finalizing m e = sym q ∙ r in cc

    by_cover : s < k → (x.round ≡ Recover c.batch) × (c.batch.first ≡ l) ⊎ (x.round ≡ Write l c.batch) → (y : SealedAt n t k m) × (y.round < k)
    by_cover lt z = finish lt (still_or_sealed n t s (k - s) m w x a (to (λ r. IsWriting r) (sym is) tt) start (ap (λ q. seen_at n t q) (let e : k - s + s ≡ k = omega arith in e) ∙ b)) z
