-- Sorting the events of all blocks by rank, so that those of equal rank keep their order, gives the
-- events of the sorted blocks.
use Rattle.std.proofs.Common.{◌≡◌, ℕ, ◌+◌, ◌<◌, ◌≤◌, ◌==◌, nat_lt, List, [], ◌∷◌, ◌++◌, Bool, true, false, not, cond, filter, map, length, refl, sym, ap, ◌∙◌, subst, drop, append_assoc, ◌⊎◌, inl, inr}
use Rattle.std.specs.Prelude.{◌&&◌, ◌||◌}
use Rattle.std.specs.declared.cmp.Ordering.{Ordering}
use Rattle.std.specs.declared.cmp.Ordering.TheVariants.{Less, Equal, Greater}
use Rattle.std.specs.Ordering.{nat_cmp, ordering_then, is_lt}
use Rattle.std.specs.Cmp.{IsStrictWeakOrder}
use Rattle.std.specs.List.Sorted.{ties, IsSortedByKey, IsStableByKey}
use Rattle.std.proofs.lemmas.Cmp.{nat_cmp_total, on_total, then_total}
use Rattle.std.proofs.lemmas.List.{map-append, append-nil, drop_more, drop_all}
use Rattle.std.proofs.lemmas.List.Elements.{filter-append}
use Rattle.std.proofs.lemmas.List.Sorted.{ranks_by}
use Rattle.std.proofs.lemmas.Bool.{cases_Bool}
use Rattle.run_safety.specs.declared.event.Event.{Event}
use Rattle.journal_history.specs.Entries.{Entry}
use Rattle.journal_history.specs.declared.history_line.HistoryLine.{HistoryLine}
use Rattle.mesh.specs.declared.whole.Mesh.{Mesh}
use Rattle.mesh.specs.Agree.{history_at}
use Rattle.mesh.specs.Order.{Key, Block, is_below, put_block, sorted, entries_in, blocks_at, blocks_from, epoch_order}
use Rattle.mesh.specs.Sorted.{NoneBelow, InOrder}
use Rattle.mesh.proofs.Sorting.{sorted_filter}
use Rattle.mesh_judge.specs.declared.ranking.Rank.{Rank}
use Rattle.mesh_judge.specs.declared.ranking.Ranked.{Ranked}
use Rattle.mesh_judge.specs.Events.{event_of}
use Rattle.mesh_judge.specs.Ranks.{by_key, rank_entry, ranked_in}
use Rattle.mesh_judge.proofs.Uniqueness.{NoneLess, Rises, never_less, sorted_rises, one_order}

-- ## Ranks
abbrev pub pair_of : Ranked → ℕ × ℕ
pair_of r = (r.rank.promise, r.rank.place)

abbrev pub pair_cmp : ℕ × ℕ → ℕ × ℕ → Ordering
pair_cmp x y = ordering_then (nat_cmp x.0 y.0) (nat_cmp x.1 y.1)

abbrev rank_less : Rank → Rank → Bool
rank_less a b = is_lt (pair_cmp (a.promise, a.place) (b.promise, b.place))

abbrev less : Ranked → Ranked → Bool
less x y = is_lt (pair_cmp (pair_of x) (pair_of y))

rank_order : IsStrictWeakOrder rank_less
rank_order = ranks_by (then_total (on_total (λ (p : ℕ × ℕ). p.0) nat_cmp_total) (on_total (λ (p : ℕ × ℕ). p.1) nat_cmp_total)) (λ (r : Rank). (r.promise, r.place))

order : IsStrictWeakOrder less
order = record { one_way = λ x y e. rank_order.one_way x.rank y.rank e; chain = λ x y z e f. rank_order.chain x.rank y.rank z.rank e f }

pair_less : (l e m f : Bool) → is_lt (ordering_then (cond l Less (cond e Equal Greater)) (cond m Less (cond f Equal Greater))) ≡ (l || (e && m))
pair_less true e m f = refl
pair_less false false m f = refl
pair_less false true true f = refl
pair_less false true false true = refl
pair_less false true false false = refl

-- ranks are compared as keys are
below_is : (a b : Key) → rank_less (by_key a) (by_key b) ≡ is_below a b
unfolding is_below
below_is a b = pair_less (nat_lt a.promise b.promise) (a.promise == b.promise) (nat_lt a.place b.place) (a.place == b.place)

not_less : (a b : Key) → is_below a b ≡ false → rank_less (by_key a) (by_key b) ≡ false
not_less a b e = below_is a b ∙ e

not_below : (a b : Key) → rank_less (by_key a) (by_key b) ≡ false → is_below a b ≡ false
not_below a b e = sym (below_is a b) ∙ e

-- ## Blocks that are sorted rise
abbrev each : Block → Bool
each b = true

none_chain : (b c : Block) (cs : List Block) → is_below c.key b.key ≡ false → NoneBelow each c cs → NoneBelow each b cs
unfolding NoneBelow
none_chain b c [] e h = tt
none_chain b c (d ∷ cs) e h = (
  (λ t. not_below d.key b.key (rank_order.chain (by_key d.key) (by_key c.key) (by_key b.key)
      (not_less d.key c.key (h.0 t)) (not_less c.key b.key e))),
  none_chain b c cs e h.1,
)

none_put : (a b : Block) (cs : List Block) → is_below b.key a.key ≡ false → NoneBelow each a cs → NoneBelow each a (put_block b cs)
unfolding NoneBelow put_block
none_put a b [] e h = ((λ t. e), tt)
none_put a b (c ∷ cs) e h = by (is_below c.key b.key) (none_put a b cs e h.1)
  where
    by : (f : Bool) → NoneBelow each a (put_block b cs) → NoneBelow each a (cond f (c ∷ put_block b cs) (b ∷ c ∷ cs))
    by true g = (h.0, g)
    by false g = ((λ t. e), h)

put_rises : (b : Block) (cs : List Block) → InOrder each cs → InOrder each (put_block b cs)
unfolding InOrder put_block NoneBelow
put_rises b [] h = ((λ t. tt), tt)
put_rises b (c ∷ cs) h = by (cases_Bool (is_below c.key b.key)) (put_rises b cs h.1)
  where
    by : (is_below c.key b.key ≡ true) ⊎ (is_below c.key b.key ≡ false) → InOrder each (put_block b cs) → InOrder each (cond (is_below c.key b.key) (c ∷ put_block b cs) (b ∷ c ∷ cs))
    by (inl e) g =
        let other : is_below b.key c.key ≡ false = not_below b.key c.key (rank_order.one_way (by_key c.key) (by_key b.key) (below_is c.key b.key ∙ e)) in
        let all : InOrder each (c ∷ put_block b cs) = ((λ t. none_put c b cs other (h.0 t)), g) in
        subst (λ (f : Bool). InOrder each (cond f (c ∷ put_block b cs) (b ∷ c ∷ cs))) (sym e) all
    by (inr e) g =
        let all : InOrder each (b ∷ c ∷ cs) = ((λ t. ((λ u. e), none_chain b c cs e (h.0 t))), h) in
        subst (λ (f : Bool). InOrder each (cond f (c ∷ put_block b cs) (b ∷ c ∷ cs))) (sym e) all

sorted_in_order : (bs : List Block) → InOrder each (sorted bs)
unfolding InOrder sorted
sorted_in_order [] = tt
sorted_in_order (b ∷ bs) = put_rises b (sorted bs) (sorted_in_order bs)

none_first : (r : Ranked) (k : Rank) (es : List Entry) (more : List Ranked) → rank_less k r.rank ≡ false → NoneLess less r more → NoneLess less r (map (rank_entry k) es ++ more)
unfolding NoneLess
none_first r k [] more e h = h
none_first r k (x ∷ es) more e h = (e, none_first r k es more e h)

none_ranked : (r : Ranked) (b : Block) (bs : List Block) → r.rank ≡ by_key b.key → NoneBelow each b bs → NoneLess less r (ranked_in bs)
unfolding NoneLess ranked_in NoneBelow
none_ranked r b [] is h = tt
none_ranked r b (c ∷ bs) is h =
    none_first r (by_key c.key) c.entries (ranked_in bs) (subst (λ (k : Rank). rank_less (by_key c.key) k ≡ false) (sym is) (not_less c.key b.key (h.0 refl))) (none_ranked r b bs is h.1)

block_rises : (b : Block) (es : List Entry) (bs : List Block) → NoneBelow each b bs → Rises less (ranked_in bs) → Rises less (map (rank_entry (by_key b.key)) es ++ ranked_in bs)
unfolding Rises
block_rises b [] bs h g = g
block_rises b (x ∷ es) bs h g =
    let r : Ranked = rank_entry (by_key b.key) x in (
      none_first r (by_key b.key) es (ranked_in bs) (never_less less order r) (none_ranked r b bs refl h),
      block_rises b es bs h g,
    )

ranks_rise : (bs : List Block) → InOrder each bs → Rises less (ranked_in bs)
unfolding Rises ranked_in InOrder
ranks_rise [] h = tt
ranks_rise (b ∷ bs) h = block_rises b b.entries bs (h.0 refl) (ranks_rise bs h.1)

-- ## Those that tie keep their order
abbrev is_tied : Ranked → Block → Bool
is_tied x b = not (rank_less x.rank (by_key b.key)) && not (rank_less (by_key b.key) x.rank)

kept : (p : Ranked → Bool) (k : Rank) (b : Bool) → ((e : Entry) → p (rank_entry k e) ≡ b) → (es : List Entry) → filter p (map (rank_entry k) es) ≡ cond b (map (rank_entry k) es) []
kept p k true h [] = refl
kept p k false h [] = refl
kept p k true h (x ∷ es) = rw (h x) (ap (λ (l : List Ranked). rank_entry k x ∷ l) (kept p k true h es))
kept p k false h (x ∷ es) = rw (h x) (kept p k false h es)

tied_ranked : (x : Ranked) (bs : List Block) → filter (ties less x) (ranked_in bs) ≡ ranked_in (filter (is_tied x) bs)
unfolding ranked_in
tied_ranked x [] = refl
tied_ranked x (b ∷ bs) =
    filter-append (ties less x) (map (rank_entry (by_key b.key)) b.entries) (ranked_in bs)
    ∙ ap (λ (l : List Ranked). l ++ filter (ties less x) (ranked_in bs)) (kept (ties less x) (by_key b.key) (is_tied x b) (λ e. refl) b.entries)
    ∙ by (is_tied x b) (tied_ranked x bs)
  where
    by : (f : Bool) → filter (ties less x) (ranked_in bs) ≡ ranked_in (filter (is_tied x) bs)
        → cond f (map (rank_entry (by_key b.key)) b.entries) [] ++ filter (ties less x) (ranked_in bs) ≡ ranked_in (cond f (b ∷ filter (is_tied x) bs) (filter (is_tied x) bs))
    by true h = ap (λ (l : List Ranked). map (rank_entry (by_key b.key)) b.entries ++ l) h
    by false h = h

-- what ties with one rank ties with each other
parts : (a b : Bool) → (not a && not b) ≡ true → (a ≡ false) × (b ≡ false)
parts true b e = absurd (cc e)
parts false true e = absurd (cc e)
parts false false e = (refl, refl)

tied_none : (x : Ranked) (b : Block) (bs : List Block) → is_tied x b ≡ true → NoneBelow (is_tied x) b bs
unfolding NoneBelow
tied_none x b [] t = tt
tied_none x b (c ∷ bs) t = (
  (λ u.
      not_below c.key b.key
      (rank_order.chain (by_key c.key) x.rank (by_key b.key) (parts (rank_less x.rank (by_key c.key)) (rank_less (by_key c.key) x.rank) u).1
      (parts (rank_less x.rank (by_key b.key)) (rank_less (by_key b.key) x.rank) t).0)),
  tied_none x b bs t,
)

tied_in_order : (x : Ranked) (bs : List Block) → InOrder (is_tied x) bs
unfolding InOrder
tied_in_order x [] = tt
tied_in_order x (b ∷ bs) = ((λ t. tied_none x b bs t), tied_in_order x bs)

-- ## The order
rank_sorted : (bs : List Block) (ys : List Ranked) → IsSortedByKey pair_of pair_cmp ys → IsStableByKey pair_of pair_cmp (ranked_in bs) ys → ys ≡ ranked_in (sorted bs)
rank_sorted bs ys up stable =
    one_order less order ys (ranked_in (sorted bs)) (sorted_rises less order ys up) (ranks_rise (sorted bs) (sorted_in_order bs))
    (λ x. stable x ∙ tied_ranked x bs ∙ ap ranked_in (sym (sorted_filter (is_tied x) bs (tied_in_order x bs))) ∙ sym (tied_ranked x (sorted bs)))

block_events : (k : Rank) (es : List Entry) → map (λ (r : Ranked). r.event) (map (rank_entry k) es) ≡ map event_of es
block_events k [] = refl
block_events k (e ∷ es) = ap (λ (l : List Event). event_of e ∷ l) (block_events k es)

events_in : (bs : List Block) → map (λ (r : Ranked). r.event) (ranked_in bs) ≡ map event_of (entries_in bs)
unfolding ranked_in entries_in
events_in [] = refl
events_in (b ∷ bs) =
    map-append (λ (r : Ranked). r.event) (map (rank_entry (by_key b.key)) b.entries) (ranked_in bs)
    ∙ ap (λ (l : List Event). l ++ map (λ (r : Ranked). r.event) (ranked_in bs)) (block_events (by_key b.key) b.entries)
    ∙ ap (λ (l : List Event). map event_of b.entries ++ l) (events_in bs) ∙ sym (map-append event_of b.entries (entries_in bs))

pub order_is : (m : Mesh) (xs ys : List Ranked) → xs ≡ ranked_in (blocks_from m 1 m.histories) → IsSortedByKey pair_of pair_cmp ys → IsStableByKey pair_of pair_cmp xs ys
    → map (λ (r : Ranked). r.event) ys ≡ map event_of (epoch_order m)
unfolding epoch_order
order_is m xs ys is up stable =
    ap (map (λ (r : Ranked). r.event)) (rank_sorted (blocks_from m 1 m.histories) ys up
    (subst (λ (l : List Ranked). IsStableByKey pair_of pair_cmp l ys) is stable)) ∙ events_in (sorted (blocks_from m 1 m.histories))

-- ## Node by node
ranked_append : (xs bs : List Block) → ranked_in (xs ++ bs) ≡ ranked_in xs ++ ranked_in bs
unfolding ranked_in
ranked_append [] bs = refl
ranked_append (a ∷ xs) bs =
    ap (λ (l : List Ranked). map (rank_entry (by_key a.key)) a.entries ++ l) (ranked_append xs bs) ∙ sym (append_assoc (map (rank_entry (by_key a.key)) a.entries) (ranked_in xs) (ranked_in bs))

pub histories_more : (m : Mesh) (i : ℕ) (out new whole : List Ranked) → out ++ ranked_in (blocks_from m (i + 1) (drop i m.histories)) ≡ whole → i < length m.histories
    → new ≡ out ++ ranked_in (blocks_at m (i + 1) (history_at m i)) → new ++ ranked_in (blocks_from m (i + 1 + 1) (drop (i + 1) m.histories)) ≡ whole
unfolding blocks_from
histories_more m i out new whole h l e =
    ap (λ (x : List Ranked). x ++ ranked_in (blocks_from m (i + 1 + 1) (drop (i + 1) m.histories))) e
    ∙ append_assoc out (ranked_in (blocks_at m (i + 1) (history_at m i))) (ranked_in (blocks_from m (i + 1 + 1) (drop (i + 1) m.histories)))
    ∙ ap (λ (x : List Ranked). out ++ x) (sym (ranked_append (blocks_at m (i + 1) (history_at m i)) (blocks_from m (i + 1 + 1) (drop (i + 1) m.histories))))
    ∙ ap (λ (x : List (List HistoryLine)). out ++ ranked_in (blocks_from m (i + 1) x)) (sym (drop_more m.histories i [] l)) ∙ h

pub histories_all : (m : Mesh) (i : ℕ) (out whole : List Ranked) → out ++ ranked_in (blocks_from m (i + 1) (drop i m.histories)) ≡ whole → length m.histories ≤ i → out ≡ whole
unfolding blocks_from ranked_in
histories_all m i out whole h l = sym (append-nil out) ∙ ap (λ (x : List (List HistoryLine)). out ++ ranked_in (blocks_from m (i + 1) x)) (sym (drop_all i m.histories l)) ∙ h
