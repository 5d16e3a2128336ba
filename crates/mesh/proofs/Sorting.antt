-- Putting blocks in order keeps the order of those that already stood in order among themselves, as
-- the blocks of one node do.
use Rattle.std.proofs.Common.{◌≡◌, List, [], ◌∷◌, Bool, true, false, cond, filter, refl, ap, ◌∙◌}
use Rattle.mesh.specs.Order.{Block, is_below, put_block, sorted}
use Rattle.mesh.specs.Sorted.{NoneBelow, InOrder}

module _ (test : Block → Bool) where
  in_by : (b c : Block) (cs : List Block) (below tb tc : Bool) → test b ≡ tb → test c ≡ tc → (tb ≡ true → tc ≡ true → below ≡ false)
      → filter test (put_block b cs) ≡ cond tb (b ∷ filter test cs) (filter test cs)
      → filter test (cond below (c ∷ put_block b cs) (b ∷ c ∷ cs)) ≡ cond tb (b ∷ cond tc (c ∷ filter test cs) (filter test cs)) (cond tc (c ∷ filter test cs) (filter test cs))
  unfolding put_block
  in_by b c cs true true true eb ec off h = absurd (cc (off refl refl))
  in_by b c cs true true false eb ec off h = rw ec h
  in_by b c cs true false true eb ec off h = rw ec (ap (λ (l : List Block). c ∷ l) h)
  in_by b c cs true false false eb ec off h = rw ec h
  in_by b c cs false true true eb ec off h = rw (eb, ec) refl
  in_by b c cs false true false eb ec off h = rw (eb, ec) refl
  in_by b c cs false false true eb ec off h = rw (eb, ec) refl
  in_by b c cs false false false eb ec off h = rw (eb, ec) refl

  put_filter : (b : Block) (cs : List Block) → (test b ≡ true → NoneBelow test b cs) → filter test (put_block b cs) ≡ cond (test b) (b ∷ filter test cs) (filter test cs)
  unfolding put_block NoneBelow
  put_filter b [] h = refl
  put_filter b (c ∷ cs) h = in_by b c cs (is_below c.key b.key) (test b) (test c) refl refl (λ x y. (h x).0 y) (put_filter b cs (λ x. (h x).1))

  -- a block that goes into a list of which it is none below
  none_put_by : (a b c : Block) (cs : List Block) (below : Bool) → (test b ≡ true → is_below b.key a.key ≡ false)
      → (test c ≡ true → is_below c.key a.key ≡ false) → NoneBelow test a cs → NoneBelow test a (put_block b cs)
      → NoneBelow test a (cond below (c ∷ put_block b cs) (b ∷ c ∷ cs))
  unfolding NoneBelow
  none_put_by a b c cs true hb hc h g = (hc, g)
  none_put_by a b c cs false hb hc h g = (hb, (hc, h))

  none_put : (a b : Block) (cs : List Block) → (test b ≡ true → is_below b.key a.key ≡ false) → NoneBelow test a cs → NoneBelow test a (put_block b cs)
  unfolding NoneBelow put_block
  none_put a b [] hb h = (hb, tt)
  none_put a b (c ∷ cs) hb h = none_put_by a b c cs (is_below c.key b.key) hb h.0 h.1 (none_put a b cs hb h.1)

  none_sorted : (a : Block) (bs : List Block) → NoneBelow test a bs → NoneBelow test a (sorted bs)
  unfolding NoneBelow sorted
  none_sorted a [] h = tt
  none_sorted a (b ∷ bs) h = none_put a b (sorted bs) h.0 (none_sorted a bs h.1)

  pub sorted_filter : (bs : List Block) → InOrder test bs → filter test (sorted bs) ≡ filter test bs
  unfolding InOrder sorted
  sorted_filter [] h = refl
  sorted_filter (b ∷ bs) h = put_filter b (sorted bs) (λ e. none_sorted b bs (h.0 e)) ∙ ap (λ (l : List Block). cond (test b) (b ∷ l) l) (sorted_filter bs h.1)
