-- How a segment that a node holds came under its header epoch: whole by a recovery, or by an
-- opening of its owner. What is final was finalised by that owner.
use Rattle.std.proofs.Common.{◌≡◌, ℕ, ◌<◌, true, List, [], ◌∷◌, Option, Some, None, refl, inl, inr, arith, subst, sym, ap, ◌∙◌}
use Rattle.journal_core.specs.Segments.{find_segment, end_of, HasAt}
use Rattle.journal_core.specs.Views.{BatchView}
use Rattle.journal_core.specs.declared.node_state.NodeState.{NodeState}
use Rattle.journal_core.specs.declared.request.Request.{Request}
use Rattle.journal_core.specs.declared.segment.Segment.{Segment}
use Rattle.run_safety.specs.Majority.{Member, IsMajority}
use Rattle.journal_history.specs.Entries.{Entry, node_after, Earlier, now, before}
use Rattle.run_safety.specs.Run.{Story, Follows}
use Rattle.run_safety.proofs.SeenLaws.{Round, Recover, Finalizing, Open, Writer}
use Rattle.journal_core.proofs.Changes.{Change, same, created, grown, made_final, replaced, removed}
use Rattle.run_safety.proofs.Along.{Requested, entry_change}
use Rattle.run_safety.proofs.Slots.{true≢false}
use Rattle.run_safety.proofs.Rounds.{frame}
use Rattle.run_safety.proofs.Frames.{IsWriting}
use Rattle.run_safety.proofs.Before.{OpenedAt, opened_at}
use Rattle.run_safety.proofs.Spans.{write_start}
use Rattle.run_safety.proofs.Sent.{Sent, Sent-later, Sent-round, OfRound, round_within, to}
use Rattle.run_safety.proofs.Values.{start_round, journal_round, accept_round, finalize_round}

-- the owner of e sent this round
pub record InRound (n : ℕ) (story : Story) (past : List Entry) (e : ℕ) (r : Round) : Type 0 where
  pub a : ℕ
  pub s : ℕ
  pub w : Writer
  pub sent : Sent n story past a s w
  pub epoch : (story.takeover a).epoch ≡ e
  pub is : w.round ≡ r

pub InRound-later : (n : ℕ) (story : Story) {past more : List Entry} (e : ℕ) (r : Round) → Earlier past more → InRound n story past e r → InRound n story more e r
InRound-later n story e r p x = record { a = x.a; s = x.s; w = x.w; sent = Sent-later n story x.a x.s x.w p x.sent; epoch = x.epoch; is = x.is }

-- where a round that writes the segment at m was sent, so was its opening
pub write_opens : (n : ℕ) (story : Story) (past : List Entry) (a s : ℕ) (w : Writer) (m : ℕ) → Sent n story past a s w → IsWriting w.round
    → w.start ≡ m → InRound n story past (story.takeover a).epoch (Open m)
write_opens n story past a s w m p writing is =
    let o : OpenedAt n (story.takeover a) s w.start = opened_at n (story.takeover a) s w p.at writing in
    let lt : o.round < s = o.before in
    record { a = a; s = o.round; w = o.writer; sent = Sent-round n story past a s o.round w o.writer p (omega arith) o.at; epoch = refl; is = o.opens ∙ ap (λ z. Open z) is }

pub data Shape (n : ℕ) (story : Story) (past : List Entry) (m e : ℕ) (bodies : List (List ℕ)) : Type 0 where
  by_recovery : (b : BatchView) → b.first ≡ m → InRound n story past e (Recover b) → bodies ≡ b.bodies → Shape n story past m e bodies
  by_opening : InRound n story past e (Open m) → Shape n story past m e bodies

pub record Shaped (n : ℕ) (story : Story) (past : List Entry) (m : ℕ) (g : Segment) : Type 0 where
  pub shape : Shape n story past m g.epoch g.bodies
  pub final : g.is_final ≡ true → InRound n story past g.epoch (Finalizing m (end_of g))

abbrev pub ShapedOr : (n : ℕ) (story : Story) (past : List Entry) → ℕ → Option Segment → Type 0
ShapedOr n story past m None = Unit {0}
ShapedOr n story past m (Some g) = Shaped n story past m g

Shape-later : (n : ℕ) (story : Story) {past more : List Entry} (m e : ℕ) (bodies : List (List ℕ)) → Earlier past more → Shape n story past m e bodies → Shape n story more m e bodies
Shape-later n story m e bodies p (by_recovery b first r is) = by_recovery b first (InRound-later n story e (Recover b) p r) is
Shape-later n story m e bodies p (by_opening r) = by_opening (InRound-later n story e (Open m) p r)

ShapedOr-later : (n : ℕ) (story : Story) {past more : List Entry} (m : ℕ) (o : Option Segment) → Earlier past more → ShapedOr n story past m o → ShapedOr n story more m o
ShapedOr-later n story m None p x = tt
ShapedOr-later n story m (Some g) p x = record { shape = Shape-later n story m g.epoch g.bodies p x.shape; final = λ f. InRound-later n story g.epoch (Finalizing m (end_of g)) p (x.final f) }

round_in : (n : ℕ) (story : Story) (past : List Entry) (r : Request) (x : OfRound n story past r) (round : Round) (e : ℕ) → x.w.round ≡ round
    → (story.takeover x.a).epoch ≡ e → InRound n story past e round
round_in n story past r x round e is epoch = record { a = x.a; s = x.s; w = x.w; sent = x.sent; epoch = epoch; is = is }

shaped_change : (n : ℕ) (story : Story) (past : List Entry) (s : NodeState) (r : Request) (m : ℕ) (o new : Option Segment) → Change s r m o new
    → OfRound n story past r → ShapedOr n story past m o → ShapedOr n story past m new
shaped_change n story past s r m o new same x v = v
shaped_change n story past s r m o new (created h q none) x v =
    let p = start_round (story.takeover x.a).epoch x.s x.w.committed x.w.round h m (sym q ∙ x.is) in
    record { shape = by_opening (round_in n story past r x (Open m) h.epoch p.0 (sym p.1)); final = λ f. true≢false (sym f) }
shaped_change n story past s r m (Some g) new (grown h b q header f first) x v =
    let p = journal_round (story.takeover x.a).epoch x.s x.w.committed x.w.round h m b (sym q ∙ x.is) in
    let opening : InRound n story past (story.takeover x.a).epoch (Open m) =
    write_opens n story past x.a x.s x.w m x.sent (to (λ z. IsWriting z) (sym p.0) tt) (write_start x.w m b (frame n (story.takeover x.a) x.s x.w x.sent.at) p.0) in
    record { shape = by_opening (to (λ e. InRound n story past e (Open m)) (sym p.1 ∙ sym header) opening); final = λ t. true≢false (sym t ∙ f) }
shaped_change n story past s r m (Some g) new (made_final h l q edit f header ends) x v =
    let p = finalize_round (story.takeover x.a).epoch x.s x.w.committed x.w.round h m l (sym q ∙ x.is) in
    record { shape = v.shape; final = λ t. to (λ z. InRound n story past g.epoch (Finalizing m z)) (sym ends) (round_in n story past r x (Finalizing m l) g.epoch p.0 (sym p.1 ∙ sym header)) }
shaped_change n story past s r m o new (replaced h b q first f) x v =
    let p = accept_round (story.takeover x.a).epoch x.s x.w.committed x.w.round h b (sym q ∙ x.is) in
    record { shape = by_recovery b first (round_in n story past r x (Recover b) h.epoch p.0 (sym p.1)) refl; final = λ t. true≢false (sym t) }
shaped_change n story past s r m (Some g) new (removed h l q newer le shut) x v = tt

shaped_or : (n : ℕ) (story : Story) (past : List Entry) → Follows n story past → (i m : ℕ) → ShapedOr n story past m (find_segment m (node_after i past).segments)
unfolding node_after find_segment
shaped_or n story [] f i m = tt
shaped_or n story (e ∷ old) f i m =
    let earlier : ShapedOr n story (e ∷ old) m (find_segment m (node_after i old).segments) =
    ShapedOr-later n story m (find_segment m (node_after i old).segments) (before now) (shaped_or n story old f.1 i m) in
    elim (entry_change i e old m) [
      | inl same_one ↦ subst (λ o. ShapedOr n story (e ∷ old) m o) (sym same_one) earlier
      | inr c ↦
          (let asked_here : Requested (node_after e.node old) e.move c.by.request = subst (λ z. Requested (node_after z old) e.move c.by.request) (sym c.node) c.by.asked in
          shaped_change n story (e ∷ old) (node_after i old) c.by.request m _ _ c.by.change (round_within n story (e ∷ old) old e c.by.request f now asked_here) earlier)
    ]

pub shaped : (n : ℕ) (story : Story) (past : List Entry) → Follows n story past → (i m : ℕ) (g : Segment) → find_segment m (node_after i past).segments ≡ Some g → Shaped n story past m g
shaped n story past f i m g is = subst (λ o. ShapedOr n story past m o) is (shaped_or n story past f i m)

pub Shaped-later : (n : ℕ) (story : Story) {past more : List Entry} (m : ℕ) (g : Segment) → Earlier past more → Shaped n story past m g → Shaped n story more m g
Shaped-later n story m g p x = ShapedOr-later n story m (Some g) p x

-- ## What a majority held
-- a node held, at some place, a segment at m with header epoch e that has this body at this txid
pub record HeldAt (past : List Entry) (i e m txid : ℕ) (body : List ℕ) : Type 0 where
  pub old : List Entry
  pub within : Earlier old past
  pub segment : Segment
  pub found : find_segment m (node_after i old).segments ≡ Some segment
  pub header : segment.epoch ≡ e
  pub has : HasAt segment txid body

pub record Maj (n : ℕ) (past : List Entry) (e m txid : ℕ) (body : List ℕ) : Type 0 where
  pub nodes : List ℕ
  pub majority : IsMajority n nodes
  pub each : (i : ℕ) → Member i nodes → HeldAt past i e m txid body
