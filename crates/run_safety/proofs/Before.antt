-- What comes right before each kind of round, and when the segment that is written was opened.
use Rattle.std.proofs.Common.{◌≡◌, ℕ, zero, suc, ◌+◌, ◌<◌, ◌≤◌, ◌⊎◌, List, [], length, Some, None, refl, inl, inr, arith, subst, sym, ap, ◌∙◌}
use Rattle.std.proofs.lemmas.Bool.{cases_lt, cases_order}
use Rattle.journal_core.specs.Views.{BatchView, last_txid}
use Rattle.journal_core.specs.declared.reply.Reply.TheVariants.{Edits}
use Rattle.writer_core.specs.declared.slot.Slot.{Slot}
use Rattle.writer_core.specs.Best.{best_of}
use Rattle.writer_core.specs.Rounds.{start_record, batch_from}
use Rattle.writer_core.specs.Whole.{Takeover}
use Rattle.run_safety.proofs.Slots.{some_same}
use Rattle.run_safety.proofs.SeenLaws.{Round, Propose, Ask, Get, Recover, Finalizing, Open, Write, Clean, Other, Writer, seen_at, seen_first}
use Rattle.run_safety.proofs.Frames.{Newest, Counted, Getting, Framed, Frame, IsWriting, IsAsking, more_pieces, StepOf, asks_for, opens_at_one}
use Rattle.run_safety.proofs.Frames.{opens_found_none, gets, gets_more, recovers, seals_recovered, opens_next, writes_first, seals_written, goes_on}
use Rattle.run_safety.proofs.Rounds.{Comes, comes, frame}

-- ## The stages of a takeover
-- proposed, asked, recovering, recovered, and then segment by segment
abbrev pub stage : Round → ℕ
stage Propose = 0
stage (Ask m) = 1
stage (Get node m end bodies) = 2
stage (Recover b) = 3
stage (Finalizing m l) = 4
stage (Open m) = 4
stage (Write m b) = 4
stage (Clean l) = 4
stage Other = 4

-- a later round is of a later stage, or both fetch, or both are beyond the recovery
abbrev pub StageLater : ℕ → ℕ → Type 0
StageLater a b = (a < b) ⊎ ((a ≡ b) × ((a ≡ 2) ⊎ (a ≡ 4)))

asking_stage : (m : ℕ) (r : Round) → IsAsking m r → (stage r ≡ 1) ⊎ (stage r ≡ 2)
asking_stage m (Ask k) a = inl refl
asking_stage m (Get node k end bodies) a = inr refl
asking_stage m Propose a = absurd a
asking_stage m (Recover b) a = absurd a
asking_stage m (Finalizing k l) a = absurd a
asking_stage m (Open k) a = absurd a
asking_stage m (Write k b) a = absurd a
asking_stage m (Clean l) a = absurd a
asking_stage m Other a = absurd a

writing_stage : (r : Round) → IsWriting r → stage r ≡ 4
writing_stage (Write m b) w = refl
writing_stage (Clean l) w = refl
writing_stage Propose w = absurd w
writing_stage (Ask m) w = absurd w
writing_stage (Get node m end bodies) w = absurd w
writing_stage (Recover b) w = absurd w
writing_stage (Finalizing m l) w = absurd w
writing_stage (Open m) w = absurd w
writing_stage Other w = absurd w

stage_step : (n : ℕ) (t : Takeover) (s : ℕ) (w next : Writer) → StepOf n t s w next → StageLater (stage w.round) (stage next.round)
stage_step n t s w next (asks_for m is o e) = inl (let a = ap stage is in let b = ap stage e in omega arith)
stage_step n t s w next (opens_at_one is o e) = inl (let a = ap stage is in let b = ap stage e in omega arith)
stage_step n t s w next (opens_found_none m slots a c o e) = (let b = ap stage e in elim (asking_stage m w.round a) [ inl x ↦ inl (omega arith) | inr x ↦ inl (omega arith) ])
stage_step n t s w next (gets m node end slots a g e) = (let b = ap stage e in elim (asking_stage m w.round a) [ inl x ↦ inl (omega arith) | inr x ↦ inr (omega arith, inl x) ])
stage_step n t s w next (gets_more m node end bodies batch slots is h g e) = (let a = ap stage is in let b = ap stage e in inr (omega arith, inl a))
stage_step n t s w next (recovers m node end bodies batch slots is h g lt e) = (let a = ap stage is in let b = ap stage e in inl (omega arith))
stage_step n t s w next (seals_recovered x is e) = (let a = ap stage is in let b = ap stage e in inl (omega arith))
stage_step n t s w next (opens_next m l is e) = (let a = ap stage is in let b = ap stage e in inr (omega arith, inr a))
stage_step n t s w next (writes_first m is e st co) = (let a = ap stage is in let b = ap stage e in inr (omega arith, inr a))
stage_step n t s w next (seals_written m x is e) = (let a = ap stage is in let b = ap stage e in inr (omega arith, inr a))
stage_step n t s w next (goes_on a b st co) = (let x = writing_stage w.round a in let y = writing_stage next.round b in inr (omega arith, inr x))

StageLater-trans : (a b c : ℕ) → StageLater a b → StageLater b c → StageLater a c
StageLater-trans a b c (inl x) (inl y) = inl (omega arith)
StageLater-trans a b c (inl x) (inr y) = inl (omega (arith, y.0))
StageLater-trans a b c (inr x) (inl y) = inl (omega (arith, x.0))
StageLater-trans a b c (inr x) (inr y) = inr (omega (arith, x.0, y.0), x.1)

pub stage_later : (n : ℕ) (t : Takeover) (s later : ℕ) (w x : Writer) → s < later → seen_at n t s ≡ Some w → seen_at n t later ≡ Some x → StageLater (stage w.round) (stage x.round)
stage_later n t s zero w x lt a b = absurd (omega arith)
stage_later n t s (suc later) w x lt a b =
    let c : Comes n t later x = comes n t later x b in
    elim (cases_lt s later) [
      | inl earlier ↦ StageLater-trans _ _ _ (stage_later n t s later w c.writer earlier a c.at) (stage_step n t later c.writer x c.step)
      | inr not_before ↦
          (let same : s ≡ later = omega arith in
          let one : w ≡ c.writer = some_same (sym a ∙ (ap (λ k. seen_at n t k) same ∙ c.at)) in
          subst (λ z. StageLater (stage z.round) (stage x.round)) (sym one) (stage_step n t later c.writer x c.step))
    ]

-- a stage that isn't repeated has one round
pub one_round : (n : ℕ) (t : Takeover) (s k : ℕ) (w x : Writer) → seen_at n t s ≡ Some w → seen_at n t k ≡ Some x → stage w.round ≡ stage x.round
    → (stage w.round ≡ 2 → ⊥) → (stage w.round ≡ 4 → ⊥) → s ≡ k
one_round n t s k w x a b same two four = elim (cases_order s k) [
  | inl is ↦ is
  | inr other ↦ elim other [
    | inl lt ↦ absurd (clash (stage w.round) (stage x.round) same two four (stage_later n t s k w x lt a b))
    | inr gt ↦ absurd (clash (stage x.round) (stage w.round) (sym same) (λ e. two (same ∙ e)) (λ e. four (same ∙ e)) (stage_later n t k s x w gt b a))
  ]
]
  where
    clash : (p q : ℕ) → p ≡ q → (p ≡ 2 → ⊥) → (p ≡ 4 → ⊥) → StageLater p q → ⊥
    clash p q e no2 no4 (inl lt) = omega arith
    clash p q e no2 no4 (inr (y, inl is)) = no2 is
    clash p q e no2 no4 (inr (y, inr is)) = no4 is

-- only the first round proposes, and the second may ask
pub proposal_first : (n : ℕ) (t : Takeover) (s : ℕ) (w : Writer) → seen_at n t s ≡ Some w → w.round ≡ Propose → s ≡ 0
proposal_first n t zero w e is = refl
proposal_first n t (suc s) w e is =
    let c : Comes n t s w = comes n t s w e in
    absurd (no (stage c.writer.round) (ap stage is) (stage_step n t s c.writer w c.step))
  where
    no : (a : ℕ) → stage w.round ≡ 0 → StageLater a (stage w.round) → ⊥
    no a z (inl lt) = omega arith
    no a z (inr (e, inl two)) = omega arith
    no a z (inr (e, inr four)) = omega arith

-- ## What stood right before
pub data OpenedBy (n : ℕ) (t : Takeover) (s : ℕ) (w : Writer) (m : ℕ) : Type 0 where
  at_one : w.round ≡ Propose → Newest n (t.heard s) None → m ≡ 1 → OpenedBy n t s w m
  found_none : (slots : List Slot) → IsAsking m w.round → Counted n t m slots → best_of m slots ≡ None → OpenedBy n t s w m
  after_seal_of : (k l : ℕ) → w.round ≡ Finalizing k l → m ≡ l + 1 → OpenedBy n t s w m

opened_from : (n : ℕ) (t : Takeover) (s : ℕ) (w next : Writer) (m : ℕ) → StepOf n t s w next → next.round ≡ Open m → OpenedBy n t s w m
opened_from n t s w next m (asks_for k is o e) q = let no : Open m ≡ Ask k = sym q ∙ e in cc
opened_from n t s w next m (opens_at_one is o e) q = let same : Open m ≡ Open 1 = sym q ∙ e in at_one is o cc
opened_from n t s w next m (opens_found_none k slots a c o e) q =
    let same : Open m ≡ Open k = sym q ∙ e in let one : k ≡ m = cc in
    found_none slots (subst (λ z. IsAsking z w.round) one a) (subst (λ z. Counted n t z slots) one c) (subst (λ z. best_of z slots ≡ None) one o)
opened_from n t s w next m (gets k node end slots a g e) q = let no : Open m ≡ Get node k end [] = sym q ∙ e in cc
opened_from n t s w next m (gets_more k node end bodies batch slots is h g e) q = let no : Open m ≡ Get node k end (more_pieces k end bodies batch) = sym q ∙ e in cc
opened_from n t s w next m (recovers k node end bodies batch slots is h g lt e) q = let no : Open m ≡ Recover (batch_from k (more_pieces k end bodies batch)) = sym q ∙ e in cc
opened_from n t s w next m (seals_recovered b is e) q = let no : Open m ≡ Finalizing b.first (last_txid b) = sym q ∙ e in cc
opened_from n t s w next m (opens_next k l is e) q = let same : Open m ≡ Open (l + 1) = sym q ∙ e in after_seal_of k l is cc
opened_from n t s w next m (writes_first k is e st co) q = let no : Open m ≡ Write k (batch_from k start_record) = sym q ∙ e in cc
opened_from n t s w next m (seals_written k b is e) q = let no : Open m ≡ Finalizing w.start (last_txid b) = sym q ∙ e in cc
opened_from n t s w next m (goes_on a b st co) q = absurd (subst (λ r. IsWriting r) q b)

pub open_before : (n : ℕ) (t : Takeover) (s : ℕ) (w : Writer) (m : ℕ) → (c : Comes n t s w) → w.round ≡ Open m → OpenedBy n t s c.writer m
open_before n t s w m c q = opened_from n t s c.writer w m c.step q

-- before a recovery: the last piece of the best answer's segment
pub record RecoveredBy (n : ℕ) (t : Takeover) (s : ℕ) (w : Writer) (b : BatchView) : Type 0 where
  pub node : ℕ
  pub end : ℕ
  pub pieces : List (List ℕ)
  pub batch : BatchView
  pub slots : List Slot
  pub round : w.round ≡ Get node b.first end pieces
  pub heard : t.heard s node ≡ Some (Edits batch)
  pub getting : Getting n t b.first node end slots
  pub reached : end < b.first + length b.bodies
  pub bodies : b.bodies ≡ more_pieces b.first end pieces batch

recovered_from : (n : ℕ) (t : Takeover) (s : ℕ) (w next : Writer) (b : BatchView) → StepOf n t s w next → next.round ≡ Recover b → RecoveredBy n t s w b
recovered_from n t s w next b (asks_for k is o e) q = let no : Recover b ≡ Ask k = sym q ∙ e in cc
recovered_from n t s w next b (opens_at_one is o e) q = let no : Recover b ≡ Open 1 = sym q ∙ e in cc
recovered_from n t s w next b (opens_found_none k slots a c o e) q = let no : Recover b ≡ Open k = sym q ∙ e in cc
recovered_from n t s w next b (gets k node end slots a g e) q = let no : Recover b ≡ Get node k end [] = sym q ∙ e in cc
recovered_from n t s w next b (gets_more k node end bodies batch slots is h g e) q = let no : Recover b ≡ Get node k end (more_pieces k end bodies batch) = sym q ∙ e in cc
recovered_from n t s w next b (recovers k node end bodies batch slots is h g lt e) q =
    let same : Recover b ≡ Recover (batch_from k (more_pieces k end bodies batch)) = sym q ∙ e in
    let one : batch_from k (more_pieces k end bodies batch) ≡ b = cc in
    subst (λ z. RecoveredBy n t s w z) one (record { node = node; end = end; pieces = bodies; batch = batch; slots = slots; round = is; heard = h; getting = g; reached = lt; bodies = refl })
recovered_from n t s w next b (seals_recovered k is e) q = let no : Recover b ≡ Finalizing k.first (last_txid k) = sym q ∙ e in cc
recovered_from n t s w next b (opens_next k l is e) q = let no : Recover b ≡ Open (l + 1) = sym q ∙ e in cc
recovered_from n t s w next b (writes_first k is e st co) q = let no : Recover b ≡ Write k (batch_from k start_record) = sym q ∙ e in cc
recovered_from n t s w next b (seals_written k x is e) q = let no : Recover b ≡ Finalizing w.start (last_txid x) = sym q ∙ e in cc
recovered_from n t s w next b (goes_on a x st co) q = absurd (subst (λ r. IsWriting r) q x)

pub recover_before : (n : ℕ) (t : Takeover) (s : ℕ) (w : Writer) (b : BatchView) → (c : Comes n t s w) → w.round ≡ Recover b → RecoveredBy n t s c.writer b
recover_before n t s w b c q = recovered_from n t s c.writer w b c.step q

-- before a fetch: another one of the same segment, whose piece was heard; or none was heard yet
-- from this node
pub data GotBy (n : ℕ) (t : Takeover) (s : ℕ) (w : Writer) (node m end : ℕ) (pieces : List (List ℕ)) : Type 0 where
  nothing_yet : IsAsking m w.round → pieces ≡ [] → GotBy n t s w node m end pieces
  one_more : (earlier : List (List ℕ)) (batch : BatchView) → w.round ≡ Get node m end earlier → t.heard s node ≡ Some (Edits batch)
      → pieces ≡ more_pieces m end earlier batch → GotBy n t s w node m end pieces

got_from : (n : ℕ) (t : Takeover) (s : ℕ) (w next : Writer) (node m end : ℕ) (pieces : List (List ℕ)) → StepOf n t s w next → next.round ≡ Get node m end pieces → GotBy n t s w node m end pieces
got_from n t s w next node m end pieces (asks_for k is o e) q = let no : Get node m end pieces ≡ Ask k = sym q ∙ e in cc
got_from n t s w next node m end pieces (opens_at_one is o e) q = let no : Get node m end pieces ≡ Open 1 = sym q ∙ e in cc
got_from n t s w next node m end pieces (opens_found_none k slots a c o e) q = let no : Get node m end pieces ≡ Open k = sym q ∙ e in cc
got_from n t s w next node m end pieces (gets k node2 end2 slots a g e) q =
    let same : Get node m end pieces ≡ Get node2 k end2 [] = sym q ∙ e in
    let at : k ≡ m = cc in let none : pieces ≡ [] = cc in nothing_yet (subst (λ z. IsAsking z w.round) at a) none
got_from n t s w next node m end pieces (gets_more k node2 end2 bodies batch slots is h g e) q =
    let same : Get node m end pieces ≡ Get node2 k end2 (more_pieces k end2 bodies batch) = sym q ∙ e in
    let a : node2 ≡ node = cc in let b : k ≡ m = cc in let c : end2 ≡ end = cc in let d : pieces ≡ more_pieces k end2 bodies batch = cc in
    one_more bodies batch (is ∙ (ap (λ z. Get z k end2 bodies) a ∙ (ap (λ z. Get node z end2 bodies) b ∙ ap (λ z. Get node m z bodies) c))) (ap (λ z. t.heard s z) (sym a) ∙ h)
    (d ∙ (ap (λ z. more_pieces z end2 bodies batch) b ∙ ap (λ z. more_pieces m z bodies batch) c))
got_from n t s w next node m end pieces (recovers k node2 end2 bodies batch slots is h g lt e) q =
    let no : Get node m end pieces ≡ Recover (batch_from k (more_pieces k end2 bodies batch)) = sym q ∙ e in cc
got_from n t s w next node m end pieces (seals_recovered k is e) q = let no : Get node m end pieces ≡ Finalizing k.first (last_txid k) = sym q ∙ e in cc
got_from n t s w next node m end pieces (opens_next k l is e) q = let no : Get node m end pieces ≡ Open (l + 1) = sym q ∙ e in cc
got_from n t s w next node m end pieces (writes_first k is e st co) q = let no : Get node m end pieces ≡ Write k (batch_from k start_record) = sym q ∙ e in cc
got_from n t s w next node m end pieces (seals_written k x is e) q = let no : Get node m end pieces ≡ Finalizing w.start (last_txid x) = sym q ∙ e in cc
got_from n t s w next node m end pieces (goes_on a x st co) q = absurd (subst (λ r. IsWriting r) q x)

pub got_before : (n : ℕ) (t : Takeover) (s : ℕ) (w : Writer) (node m end : ℕ) (pieces : List (List ℕ)) → (c : Comes n t s w) → w.round ≡ Get node m end pieces → GotBy n t s c.writer node m end pieces
got_before n t s w node m end pieces c q = got_from n t s c.writer w node m end pieces c.step q

-- before a prepare
asked_from : (n : ℕ) (t : Takeover) (s : ℕ) (w next : Writer) (m : ℕ) → StepOf n t s w next → next.round ≡ Ask m → (w.round ≡ Propose) × Newest n (t.heard s) (Some m)
asked_from n t s w next m (asks_for k is o e) q = let same : Ask m ≡ Ask k = sym q ∙ e in let one : k ≡ m = cc in (is, subst (λ z. Newest n (t.heard s) (Some z)) one o)
asked_from n t s w next m (opens_at_one is o e) q = let no : Ask m ≡ Open 1 = sym q ∙ e in cc
asked_from n t s w next m (opens_found_none k slots a c o e) q = let no : Ask m ≡ Open k = sym q ∙ e in cc
asked_from n t s w next m (gets k node end slots a g e) q = let no : Ask m ≡ Get node k end [] = sym q ∙ e in cc
asked_from n t s w next m (gets_more k node end bodies batch slots is h g e) q = let no : Ask m ≡ Get node k end (more_pieces k end bodies batch) = sym q ∙ e in cc
asked_from n t s w next m (recovers k node end bodies batch slots is h g lt e) q = let no : Ask m ≡ Recover (batch_from k (more_pieces k end bodies batch)) = sym q ∙ e in cc
asked_from n t s w next m (seals_recovered k is e) q = let no : Ask m ≡ Finalizing k.first (last_txid k) = sym q ∙ e in cc
asked_from n t s w next m (opens_next k l is e) q = let no : Ask m ≡ Open (l + 1) = sym q ∙ e in cc
asked_from n t s w next m (writes_first k is e st co) q = let no : Ask m ≡ Write k (batch_from k start_record) = sym q ∙ e in cc
asked_from n t s w next m (seals_written k x is e) q = let no : Ask m ≡ Finalizing w.start (last_txid x) = sym q ∙ e in cc
asked_from n t s w next m (goes_on a x st co) q = absurd (subst (λ r. IsWriting r) q x)

pub ask_before : (n : ℕ) (t : Takeover) (s : ℕ) (w : Writer) (m : ℕ) → (c : Comes n t s w) → w.round ≡ Ask m → (c.writer.round ≡ Propose) × Newest n (t.heard s) (Some m)
ask_before n t s w m c q = asked_from n t s c.writer w m c.step q

-- a prepare is the second round
pub ask_round : (n : ℕ) (t : Takeover) (s : ℕ) (w : Writer) (m : ℕ) → seen_at n t s ≡ Some w → w.round ≡ Ask m → s ≡ 1
ask_round n t zero w m e is = let no : Propose ≡ Ask m = sym (seen_first n t w e).0 ∙ is in cc
ask_round n t (suc s) w m e is =
    let c : Comes n t s w = comes n t s w e in
    let p = ask_before n t s w m c is in
    let none : s ≡ 0 = proposal_first n t s c.writer c.at p.0 in omega arith

-- while a segment is asked for or fetched, it was asked for in the second round
pub asked_at : (n : ℕ) (t : Takeover) (s : ℕ) (w : Writer) (m : ℕ) → seen_at n t s ≡ Some w → IsAsking m w.round → (x : Writer) × (seen_at n t 1 ≡ Some x) × (x.round ≡ Ask m) × (1 ≤ s)
asked_at n t zero w m e a = absurd (subst (λ r. IsAsking m r) (seen_first n t w e).0 a)
asked_at n t (suc s) w m e a = by w.round refl a (λ v at b. asked_at n t s v m at b)
  where
    c : Comes n t s w
    c = comes n t s w e

    by : (r : Round) → w.round ≡ r → IsAsking m r → ((v : Writer) → seen_at n t s ≡ Some v → IsAsking m v.round
        → (x : Writer) × (seen_at n t 1 ≡ Some x) × (x.round ≡ Ask m) × (1 ≤ s))
        → (x : Writer) × (seen_at n t 1 ≡ Some x) × (x.round ≡ Ask m) × (1 ≤ suc s)
    by (Ask k) is b again =
        (let one : suc s ≡ 1 = ask_round n t (suc s) w k e is in
        (w, subst (λ z. seen_at n t z ≡ Some w) one e, is ∙ ap (λ z. Ask z) b, omega arith))
    by (Get node k end pieces) is b again = got (got_before n t s w node k end pieces c is)
      where
        got : GotBy n t s c.writer node k end pieces → (x : Writer) × (seen_at n t 1 ≡ Some x) × (x.round ≡ Ask m) × (1 ≤ suc s)
        got (nothing_yet asking none) = (let y = again c.writer c.at (subst (λ z. IsAsking z c.writer.round) b asking) in (y.0, y.1, y.2, omega arith))
        got (one_more old batch before h more) = (let y = again c.writer c.at (subst (λ z. IsAsking m z) (sym before) b) in (y.0, y.1, y.2, omega arith))
    by Propose is b again = absurd b
    by (Recover x) is b again = absurd b
    by (Finalizing k l) is b again = absurd b
    by (Open k) is b again = absurd b
    by (Write k x) is b again = absurd b
    by (Clean l) is b again = absurd b
    by Other is b again = absurd b

-- before a finalise
pub data SealedBy (w : Writer) (m l : ℕ) : Type 0 where
  a_recovery : (b : BatchView) → w.round ≡ Recover b → m ≡ b.first → l ≡ last_txid b → SealedBy w m l
  a_write : (b : BatchView) → w.round ≡ Write m b → w.start ≡ m → l ≡ last_txid b → SealedBy w m l

sealed_from : (n : ℕ) (t : Takeover) (s : ℕ) (w next : Writer) (m l : ℕ) → Frame w → StepOf n t s w next → next.round ≡ Finalizing m l → SealedBy w m l
sealed_from n t s w next m l f (asks_for k is o e) q = let no : Finalizing m l ≡ Ask k = sym q ∙ e in cc
sealed_from n t s w next m l f (opens_at_one is o e) q = let no : Finalizing m l ≡ Open 1 = sym q ∙ e in cc
sealed_from n t s w next m l f (opens_found_none k slots a c o e) q = let no : Finalizing m l ≡ Open k = sym q ∙ e in cc
sealed_from n t s w next m l f (gets k node end slots a g e) q = let no : Finalizing m l ≡ Get node k end [] = sym q ∙ e in cc
sealed_from n t s w next m l f (gets_more k node end bodies batch slots is h g e) q = let no : Finalizing m l ≡ Get node k end (more_pieces k end bodies batch) = sym q ∙ e in cc
sealed_from n t s w next m l f (recovers k node end bodies batch slots is h g lt e) q = let no : Finalizing m l ≡ Recover (batch_from k (more_pieces k end bodies batch)) = sym q ∙ e in cc
sealed_from n t s w next m l f (seals_recovered b is e) q = let same : Finalizing m l ≡ Finalizing b.first (last_txid b) = sym q ∙ e in let start : m ≡ b.first =
    cc in let last : l ≡ last_txid b = cc in a_recovery b is start last
sealed_from n t s w next m l f (opens_next k j is e) q = let no : Finalizing m l ≡ Open (j + 1) = sym q ∙ e in cc
sealed_from n t s w next m l f (writes_first k is e st co) q = let no : Finalizing m l ≡ Write k (batch_from k start_record) = sym q ∙ e in cc
sealed_from n t s w next m l f (seals_written k b is e) q =
    let same : Finalizing m l ≡ Finalizing w.start (last_txid b) = sym q ∙ e in
    let start : m ≡ w.start = cc in
    let own : w.start ≡ k = (subst (λ r. Framed w r) is f).1 in
    a_write b (is ∙ ap (λ z. Write z b) (sym (start ∙ own))) (sym start) cc
sealed_from n t s w next m l f (goes_on a x st co) q = absurd (subst (λ r. IsWriting r) q x)

pub seal_before : (n : ℕ) (t : Takeover) (s : ℕ) (w : Writer) (m l : ℕ) → (c : Comes n t s w) → w.round ≡ Finalizing m l → SealedBy c.writer m l
seal_before n t s w m l c q = sealed_from n t s c.writer w m l (frame n t s c.writer c.at) c.step q

-- ## When the segment that is written was opened
-- between these rounds, the second one too, the segment at this start is written
abbrev pub Writes : ℕ → Takeover → ℕ → ℕ → ℕ → Type 0
Writes n t opened s start = (k : ℕ) (x : Writer) → opened < k → k ≤ s → seen_at n t k ≡ Some x → IsWriting x.round × (x.start ≡ start)

pub record OpenedAt (n : ℕ) (t : Takeover) (s start : ℕ) : Type 0 where
  pub round : ℕ
  pub before : round < s
  pub writer : Writer
  pub at : seen_at n t round ≡ Some writer
  pub opens : writer.round ≡ Open start
  pub writes : Writes n t round s start

more_writes : (n : ℕ) (t : Takeover) (opened s start : ℕ) (w : Writer) → seen_at n t (suc s) ≡ Some w → IsWriting w.round → w.start ≡ start
    → Writes n t opened s start → Writes n t opened (suc s) start
more_writes n t opened s start w at writing is old = λ k x lt le e. elim (cases_lt s k) [
  | inr below ↦ old k x lt below e
  | inl above ↦ (let same : k ≡ suc s = omega arith in
      let one : w ≡ x = some_same (sym at ∙ (ap (λ z. seen_at n t z) (sym same) ∙ e)) in
      subst (λ z. IsWriting z.round × (z.start ≡ start)) one (writing, is))
]

opened_by : (n : ℕ) (t : Takeover) (s : ℕ) (w : Writer) → seen_at n t (suc s) ≡ Some w → (c : Comes n t s w) → IsWriting w.round →
    (IsWriting c.writer.round → OpenedAt n t s c.writer.start) → StepOf n t s c.writer w → OpenedAt n t (suc s) w.start
opened_by n t s w at c writing ih (asks_for k is o e) = absurd (subst (λ z. IsWriting z) e writing)
opened_by n t s w at c writing ih (opens_at_one is o e) = absurd (subst (λ z. IsWriting z) e writing)
opened_by n t s w at c writing ih (opens_found_none k slots a c2 o e) = absurd (subst (λ z. IsWriting z) e writing)
opened_by n t s w at c writing ih (gets k node end slots a g e) = absurd (subst (λ z. IsWriting z) e writing)
opened_by n t s w at c writing ih (gets_more k node end bodies batch slots is h g e) = absurd (subst (λ z. IsWriting z) e writing)
opened_by n t s w at c writing ih (recovers k node end bodies batch slots is h g lt e) = absurd (subst (λ z. IsWriting z) e writing)
opened_by n t s w at c writing ih (seals_recovered b is e) = absurd (subst (λ z. IsWriting z) e writing)
opened_by n t s w at c writing ih (opens_next k l is e) = absurd (subst (λ z. IsWriting z) e writing)
opened_by n t s w at c writing ih (seals_written k b is e) = absurd (subst (λ r. IsWriting r) e writing)
opened_by n t s w at c writing ih (writes_first k is e start co) =
    record {
      round = s;
      before = omega arith;
      writer = c.writer;
      at = c.at;
      opens = is ∙ ap (λ z. Open z) (sym start);
      writes = λ j x lt le f. (let same : j ≡ suc s = omega arith in
          let one : w ≡ x = some_same (sym at ∙ (ap (λ z. seen_at n t z) (sym same) ∙ f)) in
          subst (λ z. IsWriting z.round × (z.start ≡ w.start)) one (writing, refl));
    }
opened_by n t s w at c writing ih (goes_on a b same_start co) =
    let o : OpenedAt n t s c.writer.start = ih a in
    let lt : o.round < s = o.before in
    record {
      round = o.round;
      before = omega arith;
      writer = o.writer;
      at = o.at;
      opens = o.opens ∙ ap (λ z. Open z) (sym same_start);
      writes = more_writes n t o.round s w.start w at writing refl (λ k x p q e. let r = o.writes k x p q e in (r.0, r.1 ∙ sym same_start));
    }

pub opened_at : (n : ℕ) (t : Takeover) (s : ℕ) (w : Writer) → seen_at n t s ≡ Some w → IsWriting w.round → OpenedAt n t s w.start
opened_at n t zero w e writing = absurd (subst (λ z. IsWriting z) (seen_first n t w e).0 writing)
opened_at n t (suc s) w e writing =
    let c : Comes n t s w = comes n t s w e in
    opened_by n t s w e c writing (λ a. opened_at n t s c.writer c.at a) c.step
