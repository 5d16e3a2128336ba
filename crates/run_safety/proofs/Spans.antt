-- The txids that the rounds of one takeover write: each once, segment after segment.
use Rattle.std.proofs.Common.{◌≡◌, ℕ, zero, suc, ◌+◌, ◌<◌, ◌≤◌, ◌⊎◌, length, Some, refl, inl, inr, arith, subst, sym, ap, ◌∙◌}
use Rattle.std.proofs.lemmas.Bool.{cases_lt, cases_order}
use Rattle.journal_core.specs.Views.{BatchView, last_txid}
use Rattle.writer_core.specs.Whole.{Takeover}
use Rattle.writer_core.specs.Rounds.{start_record, batch_from}
use Rattle.run_safety.proofs.SeenLaws.{seen_first, Propose, Get, Recover, Finalizing, Open, Write, Clean, Writer, seen_at}
use Rattle.run_safety.proofs.Slots.{some_same}
use Rattle.run_safety.proofs.Rounds.{Comes, comes, frame, below_later, RoundBefore, earlier_round}
use Rattle.run_safety.proofs.Frames.{Frame, Framed, low_of, end_below, IsWriting, StepOf, asks_for, opens_at_one, opens_found_none, recovers}
use Rattle.run_safety.proofs.Frames.{seals_recovered, opens_next, writes_first, seals_written, goes_on, gets, gets_more, IsAsking, IsGet}
use Rattle.run_safety.proofs.Before.{SealedBy, a_recovery, a_write, seal_before, OpenedAt, opened_at}

-- a write or a recovery of this segment, which has this txid
pub record Covers (w : Writer) (start txid : ℕ) : Type 0 where
  pub batch : BatchView
  pub is : (w.round ≡ Recover batch) × (batch.first ≡ start) ⊎ (w.round ≡ Write start batch)
  pub from : batch.first ≤ txid
  pub below : txid < batch.first + length batch.bodies

pub covers_low : (w : Writer) (start txid : ℕ) → Covers w start txid → low_of w w.round ≤ txid
covers_low w start txid c = go c.is
  where
    go : (w.round ≡ Recover c.batch) × (c.batch.first ≡ start) ⊎ (w.round ≡ Write start c.batch) → low_of w w.round ≤ txid
    go (inl a) = subst (λ r. low_of w r ≤ txid) (sym a.0) c.from
    go (inr a) = subst (λ r. low_of w r ≤ txid) (sym a) c.from

pub covers_end : (w : Writer) (start txid : ℕ) → Covers w start txid → txid < end_below w w.round
covers_end w start txid c = go c.is
  where
    go : (w.round ≡ Recover c.batch) × (c.batch.first ≡ start) ⊎ (w.round ≡ Write start c.batch) → txid < end_below w w.round
    go (inl a) = subst (λ r. txid < end_below w r) (sym a.0) c.below
    go (inr a) = subst (λ r. txid < end_below w r) (sym a) c.below

-- a segment begins at or below the txids that are written in it
pub covers_start : (w : Writer) (start txid : ℕ) → Frame w → Covers w start txid → (1 ≤ start) × (start ≤ txid)
covers_start w start txid f c = go c.is
  where
    go : (w.round ≡ Recover c.batch) × (c.batch.first ≡ start) ⊎ (w.round ≡ Write start c.batch) → (1 ≤ start) × (start ≤ txid)
    go (inl a) = let h = subst (λ r. Framed w r) a.0 f in (omega (arith, h.1, a.1), omega (arith, a.1, c.from))
    go (inr a) = let h = subst (λ r. Framed w r) a f in (h.2, omega (arith, h.3, c.from))

-- which is no fetch
pub covers_fetch : (w : Writer) (start txid : ℕ) → Covers w start txid → IsGet w.round → ⊥
covers_fetch w start txid c g = go c.is
  where
    go : (w.round ≡ Recover c.batch) × (c.batch.first ≡ start) ⊎ (w.round ≡ Write start c.batch) → ⊥
    go (inl a) = subst (λ r. IsGet r) a.0 g
    go (inr a) = subst (λ r. IsGet r) a g

-- the round that covers a txid is one
pub covers_once : (n : ℕ) (t : Takeover) (s k : ℕ) (w x : Writer) (m l txid : ℕ) → seen_at n t s ≡ Some w → seen_at n t k ≡ Some x → Covers w m txid → Covers x l txid → s ≡ k
covers_once n t s k w x m l txid a b c d =
    let c0 : low_of w w.round ≤ txid = covers_low w m txid c in
    let c1 : txid < end_below w w.round = covers_end w m txid c in
    let d0 : low_of x x.round ≤ txid = covers_low x l txid d in
    let d1 : txid < end_below x x.round = covers_end x l txid d in
    elim (cases_order s k) [
      | inl same ↦ same
      | inr other ↦ elim other [
        | inl lt ↦ (let h : end_below w w.round ≤ low_of x x.round = below_later n t s k w x lt a b in absurd (omega arith))
        | inr gt ↦ (let h : end_below x x.round ≤ low_of w w.round = below_later n t k s x w gt b a in absurd (omega arith))
      ]
    ]

-- where a round stands against the opening of the segment that a later one writes
pub data Against (n : ℕ) (t : Takeover) (s : ℕ) (w : Writer) (start : ℕ) : Type 0 where
  below_it : end_below w w.round ≤ start → Against n t s w start
  opens_it : w.round ≡ Open start → Against n t s w start
  in_it : IsWriting w.round → w.start ≡ start → Against n t s w start

pub against : (n : ℕ) (t : Takeover) (s k : ℕ) (w x : Writer) → s ≤ k → seen_at n t s ≡ Some w → seen_at n t k ≡ Some x → IsWriting x.round → Against n t s w x.start
against n t s k w x le a b writing =
    let o : OpenedAt n t k x.start = opened_at n t k x b writing in
    elim (cases_order s o.round) [
      | inl same ↦ (let one : o.writer ≡ w = some_same (sym o.at ∙ (ap (λ z. seen_at n t z) (sym same) ∙ a)) in opens_it (subst (λ z. z.round ≡ Open x.start) one o.opens))
      | inr other ↦ elim other [
        | inl lt ↦ below_it (subst (λ r. end_below w w.round ≤ low_of o.writer r) o.opens (below_later n t s o.round w o.writer lt a o.at))
        | inr gt ↦ (let r = o.writes s w gt le a in in_it r.0 r.1)
      ]
    ]

pub write_is : (w : Writer) (m : ℕ) (b : BatchView) → w.round ≡ Write m b → IsWriting w.round
write_is w m b e = subst (λ r. IsWriting r) (sym e) tt

pub write_start : (w : Writer) (m : ℕ) (b : BatchView) → Frame w → w.round ≡ Write m b → w.start ≡ m
write_start w m b f e = (subst (λ r. Framed w r) e f).1

pub covers≢open : (w : Writer) (m start txid : ℕ) → Covers w start txid → w.round ≡ Open m → ⊥
covers≢open w m start txid c e =
    let a : low_of w w.round ≤ txid = covers_low w start txid c in
    let b : txid < end_below w w.round = covers_end w start txid c in
    let a2 : m ≤ txid = subst (λ r. low_of w r ≤ txid) e a in
    let b2 : txid < m = subst (λ r. txid < end_below w r) e b in omega arith

-- a segment that is covered while it is written is the one that is written
pub covers_in : (w : Writer) (m start txid : ℕ) → Frame w → Covers w start txid → IsWriting w.round → w.start ≡ m → start ≡ m
covers_in w m start txid f c writing is = go c.is
  where
    go : (w.round ≡ Recover c.batch) × (c.batch.first ≡ start) ⊎ (w.round ≡ Write start c.batch) → start ≡ m
    go (inl a) = absurd (subst (λ r. IsWriting r) a.0 writing)
    go (inr a) = sym (write_start w start c.batch f a) ∙ is

-- of two covered txids the earlier is in the same segment, or below the later's
pub covers_order : (n : ℕ) (t : Takeover) (s k : ℕ) (w x : Writer) (m l txid other : ℕ) → s < k → seen_at n t s ≡ Some w → seen_at n t k ≡ Some x
    → Covers w m txid → Covers x l other → (m ≡ l) ⊎ (txid < l)
covers_order n t s k w x m l txid other lt a b c d = go d.is
  where
    past_end : txid < end_below w w.round
    past_end = covers_end w m txid c

    place : Against n t s w x.start → x.start ≡ l → (m ≡ l) ⊎ (txid < l)
    place (below_it h) start = inr (omega (arith, past_end))
    place (opens_it e) start = absurd (covers≢open w x.start m txid c e)
    place (in_it writing is) start = inl (covers_in w x.start m txid (frame n t s w a) c writing is ∙ start)

    go : (x.round ≡ Recover d.batch) × (d.batch.first ≡ l) ⊎ (x.round ≡ Write l d.batch) → (m ≡ l) ⊎ (txid < l)
    go (inl e) = (let h : end_below w w.round ≤ low_of x x.round = below_later n t s k w x lt a b in
        let h2 : end_below w w.round ≤ d.batch.first = subst (λ r. end_below w w.round ≤ low_of x r) e.0 h in inr (omega (arith, e.1, past_end)))
    go (inr e) = place (against n t s k w x (omega arith) a b (write_is x l d.batch e)) (write_start x l d.batch (frame n t k x b) e)

-- a finalise has the last txid of its segment
pub sealed_last : (n : ℕ) (t : Takeover) (s k : ℕ) (w x : Writer) (m l txid : ℕ) → seen_at n t s ≡ Some w → seen_at n t k ≡ Some x → Covers w m txid → x.round ≡ Finalizing m l → txid ≤ l
sealed_last n t s k w x m l txid a b c e =
    let past_end : txid < end_below w w.round = covers_end w m txid c in
    let f = subst (λ r. Framed x r) e (frame n t k x b) in
    elim (cases_order s k) [
      | inl same ↦ (let one : w ≡ x = some_same (sym a ∙ (ap (λ z. seen_at n t z) same ∙ b)) in
          absurd (no_cover c.is (ap (λ z. z.round) one ∙ e)))
      | inr other ↦ elim other [
        | inl lt ↦ (let h : end_below w w.round ≤ low_of x x.round = below_later n t s k w x lt a b in
            let h2 : end_below w w.round ≤ l + 1 = subst (λ r. end_below w w.round ≤ low_of x r) e h in omega arith)
        | inr gt ↦ absurd (later gt f.2 c.is)
      ]
    ]
  where
    no_cover : (w.round ≡ Recover c.batch) × (c.batch.first ≡ m) ⊎ (w.round ≡ Write m c.batch) → w.round ≡ Finalizing m l → ⊥
    no_cover (inl p) q = let no : Recover c.batch ≡ Finalizing m l = sym p.0 ∙ q in cc
    no_cover (inr p) q = let no : Write m c.batch ≡ Finalizing m l = sym p ∙ q in cc

    place : m ≤ l → w.start ≡ m → Against n t k x w.start → ⊥
    place le start (below_it h) = let h2 : l + 1 ≤ w.start = subst (λ r. end_below x r ≤ w.start) e h in omega arith
    place le start (opens_it q) = let no : Finalizing m l ≡ Open w.start = sym e ∙ q in cc
    place le start (in_it writing q) = subst (λ r. IsWriting r) e writing

    later : k < s → m ≤ l → (w.round ≡ Recover c.batch) × (c.batch.first ≡ m) ⊎ (w.round ≡ Write m c.batch) → ⊥
    later gt le (inl p) = (let h : end_below x x.round ≤ low_of w w.round = below_later n t k s x w gt b a in
        let h2 : l + 1 ≤ low_of w w.round = subst (λ r. end_below x r ≤ low_of w w.round) e h in
        let h3 : l + 1 ≤ c.batch.first = subst (λ r. l + 1 ≤ low_of w r) p.0 h2 in omega (arith, p.1))
    later gt le (inr p) = place le (write_start w m c.batch (frame n t s w a) p) (against n t k s x w (omega arith) b a (write_is w m c.batch p))

-- what a finalise ends was covered in the round before
pub record SealCovers (n : ℕ) (t : Takeover) (k m l : ℕ) : Type 0 where
  pub round : ℕ
  pub right_before : suc round ≡ k
  pub writer : Writer
  pub at : seen_at n t round ≡ Some writer
  pub covers : Covers writer m l
  pub last : l ≡ last_txid covers.batch

pub seal_covers : (n : ℕ) (t : Takeover) (k : ℕ) (x : Writer) (m l : ℕ) → seen_at n t k ≡ Some x → x.round ≡ Finalizing m l → SealCovers n t k m l
seal_covers n t zero x m l b e = let no : Propose ≡ Finalizing m l = sym (seen_first n t x b).0 ∙ e in cc
seal_covers n t (suc k) x m l b e = go (seal_before n t k x m l c e)
  where
    c : Comes n t k x
    c = comes n t k x b

    go : SealedBy c.writer m l → SealCovers n t (suc k) m l
    go (a_recovery batch is start last) = (let f = subst (λ r. Framed c.writer r) is (frame n t k c.writer c.at) in
        record {
          round = k;
          right_before = refl;
          writer = c.writer;
          at = c.at;
          covers = record { batch = batch; is = inl (is, sym start); from = omega (arith, f.2, last); below = omega (arith, f.1, f.2, last) };
          last = last;
        })
    go (a_write batch is start last) = (let f = subst (λ r. Framed c.writer r) is (frame n t k c.writer c.at) in
        record {
          round = k;
          right_before = refl;
          writer = c.writer;
          at = c.at;
          covers = record { batch = batch; is = inr is; from = omega (arith, f.5, last); below = omega (arith, f.2, f.3, f.5, last) };
          last = last;
        })

-- a takeover finalises a segment with one end
pub sealed_once : (n : ℕ) (t : Takeover) (s k : ℕ) (w x : Writer) (m l e : ℕ) → seen_at n t s ≡ Some w → seen_at n t k ≡ Some x → w.round ≡ Finalizing m l → x.round ≡ Finalizing m e → l ≡ e
sealed_once n t s k w x m l e a b p q =
    let c : SealCovers n t s m l = seal_covers n t s w m l a p in
    let d : SealCovers n t k m e = seal_covers n t k x m e b q in
    let one : l ≤ e = sealed_last n t c.round k c.writer x m e l c.at b c.covers q in
    let two : e ≤ l = sealed_last n t d.round s d.writer w m l e d.at a d.covers p in
    omega arith

-- ## Purges
-- the first write of a segment stands between its opening and a purge from it
pub record FirstWrite (n : ℕ) (t : Takeover) (s start : ℕ) : Type 0 where
  pub round : ℕ
  pub before : round < s
  pub writer : Writer
  pub at : seen_at n t round ≡ Some writer
  pub batch : BatchView
  pub is : writer.round ≡ Write start batch
  pub first : batch.first ≡ start

pub first_write : (n : ℕ) (t : Takeover) (s : ℕ) (w : Writer) (min : ℕ) → seen_at n t s ≡ Some w → w.round ≡ Clean min → FirstWrite n t s w.start
first_write n t s w min a e = elim (cases_order (suc o.round) s) [
  | inl same ↦ absurd (clash (next_is w (ap (λ z. seen_at n t z) same ∙ a)))
  | inr other ↦ elim other [
    | inl lt ↦ found lt (earlier_round n t (suc o.round) s w lt a)
    | inr gt ↦ (let lt : o.round < s = o.before in absurd (omega arith))
  ]
]
  where
    o : OpenedAt n t s w.start
    o = opened_at n t s w a (subst (λ r. IsWriting r) (sym e) tt)

    clash : (b : BatchView) × (w.round ≡ Write w.start b) × (b.first ≡ w.start) → ⊥
    clash b = let no : Clean min ≡ Write w.start b.0 = sym e ∙ b.1 in cc

    wrote : (x : Writer) → (c : Comes n t o.round x) → c.writer.round ≡ Open w.start → StepOf n t o.round c.writer x → (b : BatchView) × (x.round ≡ Write w.start b) × (b.first ≡ w.start)
    wrote x c q (asks_for m is f g) = let no : Open w.start ≡ Propose = sym q ∙ is in cc
    wrote x c q (opens_at_one is f g) = let no : Open w.start ≡ Propose = sym q ∙ is in cc
    wrote x c q (opens_found_none m slots a f h g) = absurd (subst (λ r. IsAsking m r) q a)
    wrote x c q (gets m node end slots a g h) = absurd (subst (λ r. IsAsking m r) q a)
    wrote x c q (gets_more m node end bodies batch slots is h g f) = let no : Open w.start ≡ Get node m end bodies = sym q ∙ is in cc
    wrote x c q (recovers m node end bodies batch slots is h g lt f) = let no : Open w.start ≡ Get node m end bodies = sym q ∙ is in cc
    wrote x c q (seals_recovered b is g) = let no : Open w.start ≡ Recover b = sym q ∙ is in cc
    wrote x c q (opens_next m l is g) = let no : Open w.start ≡ Finalizing m l = sym q ∙ is in cc
    wrote x c q (writes_first m is g st co) =
        (let same : Open m ≡ Open w.start = sym is ∙ q in let start : m ≡ w.start = cc in
        (batch_from w.start start_record, g ∙ ap (λ z. Write z (batch_from z start_record)) start, refl))
    wrote x c q (seals_written m b is g) = let no : Open w.start ≡ Write m b = sym q ∙ is in cc
    wrote x c q (goes_on p f st co) = absurd (subst (λ r. IsWriting r) q p)

    next_is : (x : Writer) → seen_at n t (suc o.round) ≡ Some x → (b : BatchView) × (x.round ≡ Write w.start b) × (b.first ≡ w.start)
    next_is x there = from x (comes n t o.round x there)
      where
        from : (x : Writer) → Comes n t o.round x → (b : BatchView) × (x.round ≡ Write w.start b) × (b.first ≡ w.start)
        from x c = wrote x c (subst (λ z. z.round ≡ Open w.start) (some_same (sym o.at ∙ c.at)) o.opens) c.step

    found : suc o.round < s → RoundBefore n t (suc o.round) → FirstWrite n t s w.start
    found lt r = with_batch (next_is r.writer r.at)
      where
        with_batch : (b : BatchView) × (r.writer.round ≡ Write w.start b) × (b.first ≡ w.start) → FirstWrite n t s w.start
        with_batch b = record { round = suc o.round; before = lt; writer = r.writer; at = r.at; batch = b.0; is = b.1; first = b.2 }

-- a purge from a segment carries a committed txid below the segment's end
pub clean_below_seal : (n : ℕ) (t : Takeover) (s k : ℕ) (w x : Writer) (min l : ℕ) → seen_at n t s ≡ Some w → seen_at n t k ≡ Some x
    → w.round ≡ Clean min → x.round ≡ Finalizing w.start l → w.committed < l
clean_below_seal n t s k w x min l a b p q = elim (cases_order v.round s) [
  | inl same ↦ (let one : v.writer ≡ w = some_same (sym v.at ∙ (ap (λ z. seen_at n t z) same ∙ a)) in absurd (no_cover v.covers.is (ap (λ z. z.round) one ∙ p)))
  | inr other ↦ elim other [
    | inl lt ↦ (let order : k ≤ s = omega (arith, v.right_before) in absurd (place (against n t k s x w order b a (subst (λ r. IsWriting r) (sym p) tt))))
    | inr gt ↦ (let h : end_below w w.round ≤ low_of v.writer v.writer.round = below_later n t s v.round w v.writer gt a v.at in
        let h2 : w.next ≤ low_of v.writer v.writer.round = subst (λ r. end_below w r ≤ low_of v.writer v.writer.round) p h in
        let h3 : low_of v.writer v.writer.round ≤ l = covers_low v.writer w.start l v.covers in
        omega (arith, f.0))
  ]
]
  where
    v : SealCovers n t k w.start l
    v = seal_covers n t k x w.start l b q

    f : (w.committed + 1 ≡ w.next) × (1 ≤ w.start) × (w.start < w.next)
    f = subst (λ r. Framed w r) p (frame n t s w a)

    g : (x.committed ≡ l) × (1 ≤ w.start) × (w.start ≤ l)
    g = subst (λ r. Framed x r) q (frame n t k x b)

    no_cover : (v.writer.round ≡ Recover v.covers.batch) × (v.covers.batch.first ≡ w.start) ⊎ (v.writer.round ≡ Write w.start v.covers.batch) → v.writer.round ≡ Clean min → ⊥
    no_cover (inl c) d = let no : Recover v.covers.batch ≡ Clean min = sym c.0 ∙ d in cc
    no_cover (inr c) d = let no : Write w.start v.covers.batch ≡ Clean min = sym c ∙ d in cc

    place : Against n t k x w.start → ⊥
    place (below_it h) = (let h2 : l + 1 ≤ w.start = subst (λ r. end_below x r ≤ w.start) q h in omega (arith, g.2))
    place (opens_it c) = let no : Finalizing w.start l ≡ Open w.start = sym q ∙ c in cc
    place (in_it c d) = subst (λ r. IsWriting r) q c

-- and below the start of every later segment
pub clean_below_start : (n : ℕ) (t : Takeover) (s k : ℕ) (w x : Writer) (min m txid : ℕ) → seen_at n t s ≡ Some w → seen_at n t k ≡ Some x
    → w.round ≡ Clean min → Covers x m txid → w.start < m → w.committed < m
clean_below_start n t s k w x min m txid a b p c above = elim (cases_order s k) [
  | inl same ↦ (let one : w ≡ x = some_same (sym a ∙ (ap (λ z. seen_at n t z) same ∙ b)) in absurd (no_cover c.is (ap (λ z. z.round) (sym one) ∙ p)))
  | inr other ↦ elim other [
    | inl lt ↦ later lt c.is
    | inr gt ↦ absurd (place (against n t k s x w (omega arith) b a (subst (λ r. IsWriting r) (sym p) tt)))
  ]
]
  where
    f : (w.committed + 1 ≡ w.next) × (1 ≤ w.start) × (w.start < w.next)
    f = subst (λ r. Framed w r) p (frame n t s w a)

    st : (1 ≤ m) × (m ≤ txid)
    st = covers_start x m txid (frame n t k x b) c

    past_end : txid < end_below x x.round
    past_end = covers_end x m txid c

    no_cover : (x.round ≡ Recover c.batch) × (c.batch.first ≡ m) ⊎ (x.round ≡ Write m c.batch) → x.round ≡ Clean min → ⊥
    no_cover (inl d) e = let no : Recover c.batch ≡ Clean min = sym d.0 ∙ e in cc
    no_cover (inr d) e = let no : Write m c.batch ≡ Clean min = sym d ∙ e in cc

    place : Against n t k x w.start → ⊥
    place (below_it h) = omega (arith, past_end, st.1)
    place (opens_it d) = covers≢open x w.start m txid c d
    place (in_it d e) = (let same : m ≡ w.start = covers_in x w.start m txid (frame n t k x b) c d e in omega arith)

    upward : x.start ≡ m → Against n t s w x.start → w.committed < m
    upward is (below_it h) = (let h2 : w.next ≤ x.start = subst (λ r. end_below w r ≤ x.start) p h in omega (arith, f.0))
    upward is (opens_it d) = (let no : Clean min ≡ Open x.start = sym p ∙ d in cc)
    upward is (in_it d e) = absurd (omega arith)

    later : s < k → (x.round ≡ Recover c.batch) × (c.batch.first ≡ m) ⊎ (x.round ≡ Write m c.batch) → w.committed < m
    later lt (inl d) = (let h : end_below w w.round ≤ low_of x x.round = below_later n t s k w x lt a b in
        let h2 : w.next ≤ low_of x x.round = subst (λ r. end_below w r ≤ low_of x x.round) p h in
        let h3 : w.next ≤ c.batch.first = subst (λ r. w.next ≤ low_of x r) d.0 h2 in omega (arith, f.0, d.1))
    later lt (inr d) = upward (write_start x m c.batch (frame n t k x b) d) (against n t s k w x (omega arith) a b (write_is x m c.batch d))

-- and below every other opening or recovery that begins above the segment
pub clean_below_round : (n : ℕ) (t : Takeover) (s k : ℕ) (w x : Writer) (min : ℕ) → seen_at n t s ≡ Some w → seen_at n t k ≡ Some x → w.round ≡ Clean min
    → (IsWriting x.round → ⊥) → (x.round ≡ Open w.start → ⊥) → w.start < end_below x x.round → w.committed < low_of x x.round
clean_below_round n t s k w x min a b p quiet other above = elim (cases_lt s k) [
  | inl lt ↦ (let h : end_below w w.round ≤ low_of x x.round = below_later n t s k w x lt a b in
      let h2 : w.next ≤ low_of x x.round = subst (λ r. end_below w r ≤ low_of x x.round) p h in omega (arith, f.0))
  | inr le ↦ absurd (place (against n t k s x w le b a (subst (λ r. IsWriting r) (sym p) tt)))
]
  where
    f : (w.committed + 1 ≡ w.next) × (1 ≤ w.start) × (w.start < w.next)
    f = subst (λ r. Framed w r) p (frame n t s w a)

    place : Against n t k x w.start → ⊥
    place (below_it h) = omega arith
    place (opens_it q) = other q
    place (in_it writing q) = quiet writing
