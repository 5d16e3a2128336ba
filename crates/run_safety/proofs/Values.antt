-- What a node holds under an epoch was written by its owner, and the owner writes each txid once.
use Rattle.std.proofs.Common.{◌≡◌, ℕ, zero, suc, ◌+◌, ◌<◌, ◌⊎◌, true, List, [], ◌∷◌, ◌++◌, length, Option, Some, None, refl, inl, inr, arith, subst, sym, ap, ◌∙◌}
use Rattle.std.specs.Prelude.{slice_get}
use Rattle.journal_core.specs.Segments.{find_segment, has_edit, any_body, HasAt}
use Rattle.journal_core.specs.Views.{HeadView, BatchView}
use Rattle.journal_core.specs.declared.node_state.NodeState.{NodeState}
use Rattle.journal_core.specs.declared.request.Request.{Request}
use Rattle.journal_core.specs.declared.request.Request.TheVariants.{Start, Journal, Finalize, Accept, Purge}
use Rattle.journal_core.specs.declared.segment.Segment.{Segment}
use Rattle.journal_history.specs.Entries.{Entry, node_after, Earlier, now, before}
use Rattle.run_safety.specs.Run.{Story, Follows}
use Rattle.run_safety.proofs.SeenLaws.{seen_first, Round, Propose, Ask, Get, Other, Recover, Finalizing, Open, Write, Clean, Writer, seen_at, asked}
use Rattle.journal_core.proofs.Changes.{Change, same, created, grown, made_final, replaced, removed}
use Rattle.run_safety.proofs.Along.{Requested, entry_change}
use Rattle.run_safety.proofs.Slots.{none≢some, some_same}
use Rattle.run_safety.proofs.Spans.{Covers, covers_once}
use Rattle.run_safety.proofs.Sent.{Sent, Sent-later, OfRound, round_within, one_owner}

-- ## Bodies of lists
pub get_within : {A : Type 0} (xs : List A) (k : ℕ) (x : A) → slice_get xs k ≡ Some x → k < length xs
get_within [] k x e = none≢some x e
get_within (y ∷ ys) zero x e = omega arith
get_within (y ∷ ys) (suc k) x e = let h : k < length ys = get_within ys k x e in omega arith

pub get_append_left : {A : Type 0} (xs ys : List A) (k : ℕ) (x : A) → slice_get xs k ≡ Some x → slice_get (xs ++ ys) k ≡ Some x
get_append_left [] ys k x e = none≢some x e
get_append_left (y ∷ xs) ys zero x e = e
get_append_left (y ∷ xs) ys (suc k) x e = get_append_left xs ys k x e

pub get_append : {A : Type 0} (xs ys : List A) (k : ℕ) (x : A) → slice_get (xs ++ ys) k ≡ Some x → (slice_get xs k ≡ Some x) ⊎ ((j : ℕ) × (k ≡ length xs + j) × (slice_get ys j ≡ Some x))
get_append [] ys k x e = inr (k, omega arith, e)
get_append (y ∷ xs) ys zero x e = inl e
get_append (y ∷ xs) ys (suc k) x e = elim (get_append xs ys k x e) [ inl l ↦ inl l | inr r ↦ inr (r.0, omega (arith, r.1), r.2) ]

pub get_there : {A : Type 0} (xs : List A) (k : ℕ) → k < length xs → (x : A) × (slice_get xs k ≡ Some x)
get_there [] k lt = absurd (omega arith)
get_there (x ∷ xs) zero lt = (x, refl)
get_there (x ∷ xs) (suc k) lt = get_there xs k (omega arith)

pub edit_of : (g : Segment) (txid : ℕ) (body : List ℕ) → HasAt g txid body → has_edit g ≡ true
edit_of g txid body h = go g.bodies h.2
  where
    go : (bodies : List (List ℕ)) → slice_get bodies h.0 ≡ Some body → any_body bodies ≡ true
    go [] e = none≢some body e
    go (b ∷ bodies) e = refl

-- ## What a request says of its round
pub start_round : (e s c : ℕ) (r : Round) (h : HeadView) (m : ℕ) → Start h m ≡ asked e s c r → (r ≡ Open m) × (h.epoch ≡ e)
start_round e s c Propose h m q = cc
start_round e s c (Ask k) h m q = cc
start_round e s c (Get i k l bodies) h m q = cc
start_round e s c Other h m q = cc
start_round e s c (Recover b) h m q = cc
start_round e s c (Finalizing k l) h m q = cc
start_round e s c (Open k) h m q = let head : h ≡ record { epoch = e; serial = s; committed = c } = cc in (cc, ap (λ z. z.epoch) head)
start_round e s c (Write k b) h m q = cc
start_round e s c (Clean l) h m q = cc

pub journal_round : (e s c : ℕ) (r : Round) (h : HeadView) (m : ℕ) (b : BatchView) → Journal h m b ≡ asked e s c r → (r ≡ Write m b) × (h.epoch ≡ e)
journal_round e s c Propose h m b q = cc
journal_round e s c (Ask k) h m b q = cc
journal_round e s c (Get i k l bodies) h m b q = cc
journal_round e s c Other h m b q = cc
journal_round e s c (Recover x) h m b q = cc
journal_round e s c (Finalizing k l) h m b q = cc
journal_round e s c (Open k) h m b q = cc
journal_round e s c (Write k x) h m b q = let head : h ≡ record { epoch = e; serial = s; committed = c } = cc in (cc, ap (λ z. z.epoch) head)
journal_round e s c (Clean l) h m b q = cc

pub accept_round : (e s c : ℕ) (r : Round) (h : HeadView) (b : BatchView) → Accept h b ≡ asked e s c r → (r ≡ Recover b) × (h.epoch ≡ e)
accept_round e s c Propose h b q = cc
accept_round e s c (Ask k) h b q = cc
accept_round e s c (Get i k l bodies) h b q = cc
accept_round e s c Other h b q = cc
accept_round e s c (Recover x) h b q = let head : h ≡ record { epoch = e; serial = s; committed = c } = cc in (cc, ap (λ z. z.epoch) head)
accept_round e s c (Finalizing k l) h b q = cc
accept_round e s c (Open k) h b q = cc
accept_round e s c (Write k x) h b q = cc
accept_round e s c (Clean l) h b q = cc

pub finalize_round : (e s c : ℕ) (r : Round) (h : HeadView) (m l : ℕ) → Finalize h m l ≡ asked e s c r → (r ≡ Finalizing m l) × (h.epoch ≡ e)
finalize_round e s c Propose h m l q = cc
finalize_round e s c (Ask k) h m l q = cc
finalize_round e s c (Get i k j bodies) h m l q = cc
finalize_round e s c Other h m l q = cc
finalize_round e s c (Recover x) h m l q = cc
finalize_round e s c (Finalizing k j) h m l q = let head : h ≡ record { epoch = e; serial = s; committed = c } = cc in (cc, ap (λ z. z.epoch) head)
finalize_round e s c (Open k) h m l q = cc
finalize_round e s c (Write k x) h m l q = cc
finalize_round e s c (Clean j) h m l q = cc

pub purge_round : (e s c : ℕ) (r : Round) (h : HeadView) (l : ℕ) → Purge h l ≡ asked e s c r → (r ≡ Clean l) × (h.epoch ≡ e) × (h.committed ≡ c)
purge_round e s c Propose h l q = cc
purge_round e s c (Ask k) h l q = cc
purge_round e s c (Get i k j bodies) h l q = cc
purge_round e s c Other h l q = cc
purge_round e s c (Recover x) h l q = cc
purge_round e s c (Finalizing k j) h l q = cc
purge_round e s c (Open k) h l q = cc
purge_round e s c (Write k x) h l q = cc
purge_round e s c (Clean j) h l q = let head : h ≡ record { epoch = e; serial = s; committed = c } = cc in (cc, ap (λ z. z.epoch) head, ap (λ z. z.committed) head)

-- a sent round that writes is no proposal
pub later_round : (n : ℕ) (story : Story) (past : List Entry) (a s : ℕ) (w : Writer) (start txid : ℕ) → Sent n story past a s w → Covers w start txid → 0 < s
later_round n story past a zero w start txid p c = absurd (go c.is)
  where
    one : w.round ≡ Propose
    one = (seen_first n (story.takeover a) w p.at).0

    go : (w.round ≡ Recover c.batch) × (c.batch.first ≡ start) ⊎ (w.round ≡ Write start c.batch) → ⊥
    go (inl x) = let no : Propose ≡ Recover c.batch = sym one ∙ x.0 in cc
    go (inr x) = let no : Propose ≡ Write start c.batch = sym one ∙ x in cc
later_round n story past a (suc s) w start txid p c = omega arith

-- ## What was written
-- the owner of e sent a write or a recovery of the segment at m that has this body at this txid
pub record Wrote (n : ℕ) (story : Story) (past : List Entry) (e m txid : ℕ) (body : List ℕ) : Type 0 where
  pub a : ℕ
  pub s : ℕ
  pub w : Writer
  pub sent : Sent n story past a s w
  pub epoch : (story.takeover a).epoch ≡ e
  pub covers : Covers w m txid
  pub k : ℕ
  pub place : txid ≡ covers.batch.first + k
  pub has : slice_get covers.batch.bodies k ≡ Some body

pub Wrote-later : (n : ℕ) (story : Story) {past more : List Entry} (e m txid : ℕ) (body : List ℕ) → Earlier past more → Wrote n story past e m txid body → Wrote n story more e m txid body
Wrote-later n story e m txid body p x = record {
  a = x.a;
  s = x.s;
  w = x.w;
  sent = Sent-later n story x.a x.s x.w p x.sent;
  epoch = x.epoch;
  covers = x.covers;
  k = x.k;
  place = x.place;
  has = x.has;
}

-- a batch of this round
pub wrote_by : (n : ℕ) (story : Story) (past : List Entry) (a s : ℕ) (w : Writer) (m : ℕ) (b : BatchView) → Sent n story past a s w → (w.round ≡ Recover b) × (b.first ≡ m) ⊎ (w.round ≡ Write m b) →
    (k : ℕ) (body : List ℕ) → slice_get b.bodies k ≡ Some body → Wrote n story past (story.takeover a).epoch m (b.first + k) body
wrote_by n story past a s w m b p is k body h =
    let lt : k < length b.bodies = get_within b.bodies k body h in
    record { a = a; s = s; w = w; sent = p; epoch = refl; covers = record { batch = b; is = is; from = omega arith; below = omega arith }; k = k; place = refl; has = h }

-- the batch of a covering round is one
same_batch : (w : Writer) (b c : BatchView) (m l : ℕ) → (w.round ≡ Recover b) × (b.first ≡ m) ⊎ (w.round ≡ Write m b)
    → (w.round ≡ Recover c) × (c.first ≡ l) ⊎ (w.round ≡ Write l c) → (b ≡ c) × (m ≡ l)
same_batch w b c m l (inl x) (inl y) =
    let rounds : Recover b ≡ Recover c = sym x.0 ∙ y.0 in let one : b ≡ c = cc in (one, sym x.1 ∙ (ap (λ z. z.first) one ∙ y.1))
same_batch w b c m l (inl x) (inr y) = let no : Recover b ≡ Write l c = sym x.0 ∙ y in cc
same_batch w b c m l (inr x) (inl y) = let no : Write m b ≡ Recover c = sym x ∙ y.0 in cc
same_batch w b c m l (inr x) (inr y) = let rounds : Write m b ≡ Write l c = sym x ∙ y in (cc, cc)

-- under one epoch a txid was written once
pub wrote_once : (n : ℕ) (story : Story) (past : List Entry) (e m l txid : ℕ) (body other : List ℕ) → Follows n story past
    → Wrote n story past e m txid body → Wrote n story past e l txid other → (m ≡ l) × (body ≡ other)
wrote_once n story past e m l txid body other f p q =
    let one : p.a ≡ q.a = one_owner n story past p.a q.a p.s q.s p.w q.w f p.sent q.sent (later_round n story past p.a p.s p.w m txid p.sent p.covers)
    (later_round n story past q.a q.s q.w l txid q.sent q.covers) (p.epoch ∙ sym q.epoch) in
    let at : seen_at n (story.takeover p.a) q.s ≡ Some q.w = ap (λ z. seen_at n (story.takeover z) q.s) one ∙ q.sent.at in
    let round : p.s ≡ q.s = covers_once n (story.takeover p.a) p.s q.s p.w q.w m l txid p.sent.at at p.covers q.covers in
    let writer : p.w ≡ q.w = some_same (sym p.sent.at ∙ (ap (λ z. seen_at n (story.takeover p.a) z) round ∙ at)) in
    let batches : (p.covers.batch ≡ q.covers.batch) × (m ≡ l) =
    same_batch p.w p.covers.batch q.covers.batch m l p.covers.is (subst
    (λ z. (z.round ≡ Recover q.covers.batch) × (q.covers.batch.first ≡ l) ⊎ (z.round ≡ Write l q.covers.batch)) (sym writer) q.covers.is) in
    let first : p.covers.batch.first ≡ q.covers.batch.first = ap (λ z. z.first) batches.0 in
    let index : p.k ≡ q.k = omega (arith, p.place, q.place) in
    (batches.1, some_same (sym p.has ∙ (ap (λ z. slice_get z.bodies p.k) batches.0 ∙ (ap (λ z. slice_get q.covers.batch.bodies z) index ∙ q.has))))

-- ## What is held was written
abbrev pub ValuesWritten : (n : ℕ) (story : Story) (past : List Entry) → ℕ → Option Segment → Type 0
ValuesWritten n story past m None = Unit {0}
ValuesWritten n story past m (Some g) = (k : ℕ) (body : List ℕ) → slice_get g.bodies k ≡ Some body → Wrote n story past g.epoch m (m + k) body

pub Wrote-same : (n : ℕ) (story : Story) (past : List Entry) (e d m t u : ℕ) (body : List ℕ) → e ≡ d → t ≡ u → Wrote n story past e m t body → Wrote n story past d m u body
Wrote-same n story past e d m t u body p q x = subst (λ z. Wrote n story past d m z body) q (subst (λ z. Wrote n story past z m t body) p x)

values_change : (n : ℕ) (story : Story) (past : List Entry) (s : NodeState) (r : Request) (m : ℕ) (o new : Option Segment) → Change s r m o new
    → OfRound n story past r → ValuesWritten n story past m o → ValuesWritten n story past m new
values_change n story past s r m o new same x v = v
values_change n story past s r m o new (created h q none) x v = λ k body e. none≢some body e
values_change n story past s r m (Some g) new (grown h b q header f first) x v = λ k body e.
    elim (get_append g.bodies b.bodies k body e) [
      | inl l ↦ v k body l
      | inr y ↦ (let p = journal_round (story.takeover x.a).epoch x.s x.w.committed x.w.round h m b (sym q ∙ x.is) in
          Wrote-same n story past (story.takeover x.a).epoch g.epoch m (b.first + y.0) (m + k) body (sym p.1 ∙ sym header) (omega (arith, first, y.1))
          (wrote_by n story past x.a x.s x.w m b x.sent (inr p.0) y.0 body y.2))
    ]
values_change n story past s r m (Some g) new (made_final h l q edit f header ends) x v = v
values_change n story past s r m o new (replaced h b q first f) x v = λ k body e.
    (let p = accept_round (story.takeover x.a).epoch x.s x.w.committed x.w.round h b (sym q ∙ x.is) in
    Wrote-same n story past (story.takeover x.a).epoch h.epoch m (b.first + k) (m + k) body (sym p.1) (omega (arith, first))
    (wrote_by n story past x.a x.s x.w m b x.sent (inl (p.0, first)) k body e))
values_change n story past s r m (Some g) new (removed h l q newer le shut) x v = tt

values_later : (n : ℕ) (story : Story) {past more : List Entry} (m : ℕ) (o : Option Segment) → Earlier past more → ValuesWritten n story past m o → ValuesWritten n story more m o
values_later n story m None p v = tt
values_later n story m (Some g) p v = λ k body e. Wrote-later n story g.epoch m (m + k) body p (v k body e)

pub values_written : (n : ℕ) (story : Story) (past : List Entry) → Follows n story past → (i m : ℕ) → ValuesWritten n story past m (find_segment m (node_after i past).segments)
unfolding node_after find_segment
values_written n story [] f i m = tt
values_written n story (e ∷ old) f i m =
    let earlier : ValuesWritten n story (e ∷ old) m (find_segment m (node_after i old).segments) =
    values_later n story m (find_segment m (node_after i old).segments) (before now) (values_written n story old f.1 i m) in
    elim (entry_change i e old m) [
      | inl same_one ↦ subst (λ o. ValuesWritten n story (e ∷ old) m o) (sym same_one) earlier
      | inr c ↦
          (let asked_here : Requested (node_after e.node old) e.move c.by.request = subst (λ z. Requested (node_after z old) e.move c.by.request) (sym c.node) c.by.asked in
          values_change n story (e ∷ old) (node_after i old) c.by.request m _ _ c.by.change (round_within n story (e ∷ old) old e c.by.request f now asked_here) earlier)
    ]

-- a body that a node holds was written by the owner of the segment's epoch
pub held_written : (n : ℕ) (story : Story) (past : List Entry) → Follows n story past → (i : ℕ) (g : Segment) (txid : ℕ) (body : List ℕ)
    → find_segment g.start (node_after i past).segments ≡ Some g → HasAt g txid body →
    Wrote n story past g.epoch g.start txid body
held_written n story past f i g txid body is h =
    Wrote-same n story past g.epoch g.epoch g.start (g.start + h.0) txid body refl (sym h.1)
    (subst (λ o. ValuesWritten n story past g.start o) is (values_written n story past f i g.start) h.0 body h.2)
