-- In the epoch order the entries of each node stand as in its history.
use Rattle.std.proofs.Common.{◌≡◌, ℕ, zero, suc, ◌+◌, ◌<◌, List, [], ◌∷◌, ◌++◌, Bool, true, false, cond, filter, refl, sym, ap, ◌∙◌, subst, arith, length, get_or, append_assoc, ◌⊎◌, inl, inr}
use Rattle.std.specs.Prelude.{Option, Some, None, ◌==◌, nat_lt, ◌||◌, ◌&&◌, ◌≢◌, filter_map}
use Rattle.std.proofs.lemmas.Bool.{le-ltb}
use Rattle.std.proofs.lemmas.List.Elements.{filter-append}
use Rattle.journal_history.specs.declared.history_line.HistoryLine.{HistoryLine}
use Rattle.journal_history.specs.Cell.{Cell, cell_takes, fresh_cell}
use Rattle.journal_history.specs.Entries.{Entry, Move}
use Rattle.journal_history.specs.Moving.{Placed, move_of, entry_at, entry_of, moving_of, falls}
use Rattle.mesh.specs.declared.whole.Mesh.{Mesh}
use Rattle.mesh.specs.Agree.{Agrees, history_at}
use Rattle.mesh.specs.Order.{Key, Block, Tagged, is_muted, line_of_caller, placed_from, placed_at, key_of, tag_first, tags_of, with_fall, block_of}
use Rattle.mesh.specs.Order.{blocks_cut, front_block, blocks_at, blocks_from, is_below, put_block, sorted, entries_in, epoch_order, entries_at}
use Rattle.mesh.specs.Sorted.{NoneBelow, InOrder, NotBelow, Rising, AllRising, is_at}
use Rattle.mesh.proofs.Lists.{Alike, alike, same_test, other_test, append_none, cond_true, cond_false}
use Rattle.mesh.proofs.OneOwner.{has_owners}
use Rattle.mesh.proofs.Keys.{all_rising}
use Rattle.mesh.proofs.Sorting.{sorted_filter}

entries_of_tags : List Tagged → List Entry
entries_of_tags [] = []
entries_of_tags (t ∷ ts) = t.entry ∷ entries_of_tags ts

-- ## What the blocks of one node hold
cut_entries_by : (f : Bool) (b : Block) (t : Tagged) (ts : List Tagged)
    → entries_in (blocks_cut (with_fall b t.entry) ts) ≡ (b.entries ++ t.entry ∷ []) ++ entries_of_tags ts
    → entries_in (blocks_cut (block_of b.node t) ts) ≡ t.entry ∷ entries_of_tags ts
    → entries_in (cond f (blocks_cut (with_fall b t.entry) ts) (b ∷ blocks_cut (block_of b.node t) ts)) ≡ b.entries ++ t.entry ∷ entries_of_tags ts
unfolding entries_in
cut_entries_by true b t ts h g = h ∙ append_assoc b.entries (t.entry ∷ []) (entries_of_tags ts)
cut_entries_by false b t ts h g = ap (λ (l : List Entry). b.entries ++ l) g

cut_entries : (ts : List Tagged) (b : Block) → entries_in (blocks_cut b ts) ≡ b.entries ++ entries_of_tags ts
unfolding blocks_cut entries_in entries_of_tags
cut_entries [] b = refl
cut_entries (t ∷ ts) b = cut_entries_by (falls t.entry.move) b t ts (cut_entries ts (with_fall b t.entry)) (cut_entries ts (block_of b.node t))

AllAt : ℕ → List Block → Type 0
AllAt k [] = Unit {0}
AllAt k (b ∷ bs) = (b.node ≡ k) × AllAt k bs

cut_at_by : (f : Bool) (k : ℕ) (b : Block) (t : Tagged) (ts : List Tagged) → b.node ≡ k → AllAt k (blocks_cut (with_fall b t.entry) ts)
    → AllAt k (blocks_cut (block_of b.node t) ts) → AllAt k (cond f (blocks_cut (with_fall b t.entry) ts) (b ∷ blocks_cut (block_of b.node t) ts))
unfolding AllAt
cut_at_by true k b t ts e h g = h
cut_at_by false k b t ts e h g = (e, g)

cut_at : (k : ℕ) (ts : List Tagged) (b : Block) → b.node ≡ k → AllAt k (blocks_cut b ts)
unfolding AllAt blocks_cut
cut_at k [] b e = (e, tt)
cut_at k (t ∷ ts) b e = cut_at_by (falls t.entry.move) k b t ts e (cut_at k ts (with_fall b t.entry) e) (cut_at k ts (block_of b.node t) e)

-- ## The blocks of one node are in order
module _ (test : Block → Bool) where
  none_cut_by : (f : Bool) (a b : Block) (t : Tagged) (ts : List Tagged) → falls t.entry.move ≡ f → is_below b.key a.key ≡ false → (falls t.entry.move ≡ false → is_below t.key a.key ≡ false)
      → NoneBelow test a (blocks_cut (with_fall b t.entry) ts) → (is_below t.key a.key ≡ false → NoneBelow test a (blocks_cut (block_of b.node t) ts))
      → NoneBelow test a (cond f (blocks_cut (with_fall b t.entry) ts) (b ∷ blocks_cut (block_of b.node t) ts))
  unfolding NoneBelow
  none_cut_by true a b t ts is e low h g = h
  none_cut_by false a b t ts is e low h g = ((λ (x : test b ≡ true). e), g (low is))

  none_cut : (ts : List Tagged) (a b : Block) → is_below b.key a.key ≡ false → NotBelow a.key ts → NoneBelow test a (blocks_cut b ts)
  unfolding NoneBelow blocks_cut NotBelow
  none_cut [] a b e h = ((λ (x : test b ≡ true). e), tt)
  none_cut (t ∷ ts) a b e h = none_cut_by (falls t.entry.move) a b t ts refl e h.0 (none_cut ts a (with_fall b t.entry) e h.1) (λ g. none_cut ts a (block_of b.node t) g h.1)

  order_cut_by : (f : Bool) (b : Block) (t : Tagged) (ts : List Tagged) → falls t.entry.move ≡ f → (falls t.entry.move ≡ false → is_below t.key b.key ≡ false) → NotBelow b.key ts
      → InOrder test (blocks_cut (with_fall b t.entry) ts) → (falls t.entry.move ≡ false → InOrder test (blocks_cut (block_of b.node t) ts))
      → InOrder test (cond f (blocks_cut (with_fall b t.entry) ts) (b ∷ blocks_cut (block_of b.node t) ts))
  unfolding InOrder
  order_cut_by true b t ts is e h o g = o
  order_cut_by false b t ts is e h o g = ((λ (x : test b ≡ true). none_cut ts b (block_of b.node t) (e is) h), g is)

  order_cut : (ts : List Tagged) (b : Block) → NotBelow b.key ts → Rising ts → InOrder test (blocks_cut b ts)
  unfolding InOrder blocks_cut NotBelow Rising NoneBelow
  order_cut [] b h r = ((λ (x : test b ≡ true). tt), tt)
  order_cut (t ∷ ts) b h r = order_cut_by (falls t.entry.move) b t ts refl h.0 h.1 (order_cut ts (with_fall b t.entry) h.1 r.1) (λ f. order_cut ts (block_of b.node t) (r.0 f) r.1)

below_zero : (a : Key) → is_below a (record { promise = 0; place = 0 }) ≡ false
unfolding is_below
below_zero a = by (a.promise == 0) (le-ltb a.promise 0 (omega arith)) (le-ltb a.place 0 (omega arith))
  where
    by : (z : Bool) → nat_lt a.promise 0 ≡ false → nat_lt a.place 0 ≡ false → (nat_lt a.promise 0 || (z && nat_lt a.place 0)) ≡ false
    by true e f = rw (e, f) refl
    by false e f = rw e refl

front_not_below : (ts : List Tagged) → NotBelow (record { promise = 0; place = 0 }) ts
unfolding NotBelow
front_not_below [] = tt
front_not_below (t ∷ ts) = ((λ (e : falls t.entry.move ≡ false). below_zero t.key), front_not_below ts)

-- ## Lists of blocks of several nodes
none_off : (test : Block → Bool) (a : Block) (bs : List Block) → filter test bs ≡ [] → NoneBelow test a bs
unfolding NoneBelow
none_off test a [] h = tt
none_off test a (b ∷ bs) h = by (test b) refl (λ g. none_off test a bs g) h
  where
    by : (x : Bool) → test b ≡ x → (filter test bs ≡ [] → NoneBelow test a bs) → cond x (b ∷ filter test bs) (filter test bs) ≡ []
        → (test b ≡ true → is_below b.key a.key ≡ false) × NoneBelow test a bs
    by true e go g = absurd (cc g)
    by false e go g = ((λ (f : test b ≡ true). absurd (cc (e, f))), go g)

none_append : (test : Block → Bool) (a : Block) (xs ys : List Block) → NoneBelow test a xs → NoneBelow test a ys → NoneBelow test a (xs ++ ys)
unfolding NoneBelow
none_append test a [] ys h g = g
none_append test a (x ∷ xs) ys h g = (h.0, none_append test a xs ys h.1 g)

order_append : (test : Block → Bool) (xs ys : List Block) → InOrder test xs → InOrder test ys → (filter test xs ≡ []) ⊎ (filter test ys ≡ []) → InOrder test (xs ++ ys)
unfolding InOrder
order_append test [] ys h g off = g
order_append test (x ∷ xs) ys h g (inr off) = ((λ (e : test x ≡ true). none_append test x xs ys (h.0 e) (none_off test x ys off)), order_append test xs ys h.1 g (inr off))
order_append test (x ∷ xs) ys h g (inl off) = by (test x) refl (λ f. order_append test xs ys h.1 g (inl f)) off
  where
    by : (b : Bool) → test x ≡ b → (filter test xs ≡ [] → InOrder test (xs ++ ys)) → cond b (x ∷ filter test xs) (filter test xs) ≡ []
        → (test x ≡ true → NoneBelow test x (xs ++ ys)) × InOrder test (xs ++ ys)
    by true e go f = absurd (cc f)
    by false e go f = ((λ (k : test x ≡ true). absurd (cc (e, k))), go f)

filter_at : (k : ℕ) (bs : List Block) → AllAt k bs → filter (is_at k) bs ≡ bs
unfolding AllAt
filter_at k [] h = refl
filter_at k (b ∷ bs) h = cond_true (b.node == k) (b ∷ filter (is_at k) bs) (filter (is_at k) bs) (same_test b.node k h.0) ∙ ap (λ (l : List Block). b ∷ l) (filter_at k bs h.1)

filter_off : (k j : ℕ) (bs : List Block) → j ≢ k → AllAt j bs → filter (is_at k) bs ≡ []
unfolding AllAt
filter_off k j [] off h = refl
filter_off k j (b ∷ bs) off h = cond_false (b.node == k) (b ∷ filter (is_at k) bs) (filter (is_at k) bs) (other_test b.node k (λ (e : b.node ≡ k). off (sym h.0 ∙ e))) ∙ filter_off k j bs off h.1

-- ## Each block holds entries of its node alone
EntriesAt : ℕ → List Entry → Type 0
EntriesAt k [] = Unit {0}
EntriesAt k (x ∷ xs) = (x.node ≡ k) × EntriesAt k xs

ArePure : List Block → Type 0
ArePure [] = Unit {0}
ArePure (b ∷ bs) = EntriesAt b.node b.entries × ArePure bs

TaggedAt : ℕ → List Tagged → Type 0
TaggedAt k [] = Unit {0}
TaggedAt k (t ∷ ts) = (t.entry.node ≡ k) × TaggedAt k ts

entries_snoc : (k : ℕ) (xs : List Entry) (x : Entry) → EntriesAt k xs → x.node ≡ k → EntriesAt k (xs ++ x ∷ [])
unfolding EntriesAt
entries_snoc k [] x h e = (e, tt)
entries_snoc k (y ∷ xs) x h e = (h.0, entries_snoc k xs x h.1 e)

cut_pure_by : (f : Bool) (b : Block) (t : Tagged) (ts : List Tagged) → EntriesAt b.node b.entries → ArePure (blocks_cut (with_fall b t.entry) ts)
    → ArePure (blocks_cut (block_of b.node t) ts) → ArePure (cond f (blocks_cut (with_fall b t.entry) ts) (b ∷ blocks_cut (block_of b.node t) ts))
unfolding ArePure
cut_pure_by true b t ts e h g = h
cut_pure_by false b t ts e h g = (e, g)

cut_pure : (ts : List Tagged) (b : Block) → EntriesAt b.node b.entries → TaggedAt b.node ts → ArePure (blocks_cut b ts)
unfolding blocks_cut ArePure TaggedAt EntriesAt
cut_pure [] b h g = (h, tt)
cut_pure (t ∷ ts) b h g = cut_pure_by (falls t.entry.move) b t ts h (cut_pure ts (with_fall b t.entry) (entries_snoc b.node b.entries t.entry h g.0)
    g.1) (cut_pure ts (block_of b.node t) (g.0, tt) g.1)

entry_node : (node : ℕ) (o : Option Move) (e : Entry) → entry_at node o ≡ Some e → e.node ≡ node
entry_node node None e h = absurd (cc h)
entry_node node (Some m) e h = let same : record { node = node; move = m } ≡ e = cc h in ap (λ (x : Entry). x.node) (sym same)

first_at : (k : ℕ) (o : Option Entry) (key : Key) (ts : List Tagged) → ((e : Entry) → o ≡ Some e → e.node ≡ k) → TaggedAt k ts → TaggedAt k (tag_first o key ts)
unfolding TaggedAt
first_at k None key ts f h = h
first_at k (Some e) key ts f h = (f e refl, h)

tags_at : (m : Mesh) (k : ℕ) (c : Cell) (before hs : List HistoryLine) → TaggedAt k (tags_of m k c before hs)
unfolding TaggedAt tags_of entry_of
tags_at m k c before [] = tt
tags_at m k c before (h ∷ hs) =
    let muted : Bool = is_muted (line_of_caller m k before h) in
    first_at k (entry_of (record { node = k; line = h; muted = muted })) (key_of m k (cell_takes c h.ask).cell.state.promised before h) (tags_of m k (cell_takes c h.ask).cell (before ++ h ∷ []) hs)
    (λ e f. entry_node k (move_of h.caller muted h.ask h.answer) e f) (tags_at m k (cell_takes c h.ask).cell (before ++ h ∷ []) hs)

pure_append : (xs ys : List Block) → ArePure xs → ArePure ys → ArePure (xs ++ ys)
unfolding ArePure
pure_append [] ys h g = g
pure_append (x ∷ xs) ys h g = (h.0, pure_append xs ys h.1 g)

all_pure : (m : Mesh) (k : ℕ) (hss : List (List HistoryLine)) → ArePure (blocks_from m k hss)
unfolding ArePure blocks_from EntriesAt
all_pure m k [] = tt
all_pure m k (hs ∷ hss) = pure_append (blocks_at m k hs) (blocks_from m (k + 1) hss)
    (cut_pure (tags_of m k fresh_cell [] hs) (front_block k) tt (tags_at m k fresh_cell [] hs)) (all_pure m (k + 1) hss)

put_pure_by : (f : Bool) (xs ys : List Block) → ArePure xs → ArePure ys → ArePure (cond f xs ys)
put_pure_by true xs ys h g = h
put_pure_by false xs ys h g = g

put_pure : (b : Block) (bs : List Block) → EntriesAt b.node b.entries → ArePure bs → ArePure (put_block b bs)
unfolding put_block ArePure
put_pure b [] h p = (h, tt)
put_pure b (c ∷ cs) h p = put_pure_by (is_below c.key b.key) (c ∷ put_block b cs) (b ∷ c ∷ cs) (p.0, put_pure b cs h p.1) (h, (p.0, p.1))

sorted_pure : (bs : List Block) → ArePure bs → ArePure (sorted bs)
unfolding sorted ArePure
sorted_pure [] p = tt
sorted_pure (b ∷ bs) p = put_pure b (sorted bs) p.0 (sorted_pure bs p.1)

entries_on : (k : ℕ) (xs : List Entry) → EntriesAt k xs → entries_at k xs ≡ xs
unfolding EntriesAt
entries_on k [] h = refl
entries_on k (x ∷ xs) h = cond_true (x.node == k) (x ∷ entries_at k xs) (entries_at k xs) (same_test x.node k h.0) ∙ ap (λ (l : List Entry). x ∷ l) (entries_on k xs h.1)

entries_off : (k j : ℕ) (xs : List Entry) → EntriesAt j xs → j ≢ k → entries_at k xs ≡ []
unfolding EntriesAt
entries_off k j [] h e = refl
entries_off k j (x ∷ xs) h e = cond_false (x.node == k) (x ∷ entries_at k xs) (entries_at k xs) (other_test x.node k (λ (f : x.node ≡ k). e (sym h.0 ∙ f))) ∙ entries_off k j xs h.1 e

entries_pick : (k : ℕ) (bs : List Block) → ArePure bs → entries_at k (entries_in bs) ≡ entries_in (filter (is_at k) bs)
unfolding entries_in ArePure Alike
entries_pick k [] p = refl
entries_pick k (b ∷ bs) p = filter-append (λ (e : Entry). e.node == k) b.entries (entries_in bs) ∙ by (alike b.node k) (entries_pick k bs p.1)
  where
    by : Alike b.node k → entries_at k (entries_in bs) ≡ entries_in (filter (is_at k) bs)
        → entries_at k b.entries ++ entries_at k (entries_in bs) ≡ entries_in (cond (b.node == k) (b ∷ filter (is_at k) bs) (filter (is_at k) bs))
    by (inl e) h =
        ap (λ (l : List Entry). l ++ entries_at k (entries_in bs)) (entries_on k b.entries (subst (λ (z : ℕ). EntriesAt z b.entries) e.1 p.0))
        ∙ (ap (λ (l : List Entry). b.entries ++ l) h ∙ ap entries_in (sym (cond_true (b.node == k) (b ∷ filter (is_at k) bs) (filter (is_at k) bs) e.0)))
    by (inr e) h =
        ap (λ (l : List Entry). l ++ entries_at k (entries_in bs)) (entries_off k b.node b.entries p.0 e.1)
        ∙ (h ∙ ap entries_in (sym (cond_false (b.node == k) (b ∷ filter (is_at k) bs) (filter (is_at k) bs) e.0)))

-- ## The blocks of one node among all
all_off : (m : Mesh) (j k : ℕ) (hss : List (List HistoryLine)) → j < k → filter (is_at j) (blocks_from m k hss) ≡ []
unfolding blocks_from
all_off m j k [] l = refl
all_off m j k (hs ∷ hss) l = filter-append (is_at j) (blocks_at m k hs) (blocks_from m (k + 1) hss)
    ∙ (ap (λ (x : List Block). x ++ filter (is_at j) (blocks_from m (k + 1) hss))
    (filter_off j k (blocks_at m k hs) (λ (e : k ≡ j). omega (arith, e, l)) (cut_at k (tags_of m k fresh_cell [] hs) (front_block k) refl))
    ∙ all_off m j (k + 1) hss (omega (arith, l)))

all_on : (m : Mesh) (i k : ℕ) (hss : List (List HistoryLine)) → i < length hss → filter (is_at (k + i)) (blocks_from m k hss) ≡ blocks_at m (k + i) (get_or hss i [])
unfolding blocks_from
all_on m i k [] l = absurd (omega (arith, l))
all_on m zero k (hs ∷ hss) l =
    let same : k + 0 ≡ k = omega arith in
    subst (λ (j : ℕ). filter (is_at j) (blocks_at m k hs ++ blocks_from m (k + 1) hss) ≡ blocks_at m j hs) (sym same)
    (filter-append (is_at k) (blocks_at m k hs) (blocks_from m (k + 1) hss)
    ∙ (ap (λ (x : List Block). x ++ filter (is_at k) (blocks_from m (k + 1) hss)) (filter_at k (blocks_at m k hs) (cut_at k (tags_of m k fresh_cell [] hs) (front_block k) refl))
    ∙ (ap (λ (x : List Block). blocks_at m k hs ++ x) (all_off m k (k + 1) hss (omega arith)) ∙ append_none (blocks_at m k hs))))
all_on m (suc i) k (hs ∷ hss) l =
    filter-append (is_at (k + suc i)) (blocks_at m k hs) (blocks_from m (k + 1) hss)
    ∙ (ap (λ (x : List Block). x ++ filter (is_at (k + suc i)) (blocks_from m (k + 1) hss))
    (filter_off (k + suc i) k (blocks_at m k hs) (λ (e : k ≡ k + suc i). omega (arith, e))
    (cut_at k (tags_of m k fresh_cell [] hs) (front_block k) refl))
    ∙ subst (λ (j : ℕ). filter (is_at j) (blocks_from m (k + 1) hss) ≡ blocks_at m j (get_or hss i [])) (omega arith) (all_on m i (k + 1) hss (omega (arith, l))))

all_order : (m : Mesh) (j k : ℕ) (hss : List (List HistoryLine)) → AllRising m k hss → InOrder (is_at j) (blocks_from m k hss)
unfolding blocks_from AllRising InOrder Alike
all_order m j k [] h = tt
all_order m j k (hs ∷ hss) h = order_append (is_at j) (blocks_at m k hs) (blocks_from m (k + 1) hss)
    (order_cut (is_at j) (tags_of m k fresh_cell [] hs) (front_block k) (front_not_below (tags_of m k fresh_cell [] hs)) h.0) (all_order m j (k + 1) hss h.1) (by (alike k j))
  where
    by : Alike k j → (filter (is_at j) (blocks_at m k hs) ≡ []) ⊎ (filter (is_at j) (blocks_from m (k + 1) hss) ≡ [])
    by (inl e) = inr (all_off m j (k + 1) hss (omega (arith, e.1)))
    by (inr e) = inl (filter_off j k (blocks_at m k hs) e.1 (cut_at k (tags_of m k fresh_cell [] hs) (front_block k) refl))

first_moved : (x : Placed) (o : Option Entry) (key : Key) (ts : List Tagged) (xs : List Placed) → entry_of x ≡ o
    → entries_of_tags ts ≡ filter_map entry_of xs → entries_of_tags (tag_first o key ts) ≡ filter_map entry_of (x ∷ xs)
unfolding entries_of_tags
first_moved x None key ts xs e h = rw e h
first_moved x (Some y) key ts xs e h = rw e (ap (λ (l : List Entry). y ∷ l) h)

tags_moved : (m : Mesh) (k : ℕ) (c : Cell) (before hs : List HistoryLine) → entries_of_tags (tags_of m k c before hs) ≡ filter_map entry_of (placed_from m k before hs)
unfolding entries_of_tags tags_of placed_from
tags_moved m k c before [] = refl
tags_moved m k c before (h ∷ hs) =
    let x : Placed = record { node = k; line = h; muted = is_muted (line_of_caller m k before h) } in
    first_moved x (entry_of x) (key_of m k (cell_takes c h.ask).cell.state.promised before h) (tags_of m k (cell_takes c h.ask).cell (before ++ h ∷ []) hs) (placed_from m k (before ++ h ∷ []) hs) refl
    (tags_moved m k (cell_takes c h.ask).cell (before ++ h ∷ []) hs)

-- ## The epoch order at a node
order_at : (m : Mesh) (i : ℕ) → AllRising m 1 m.histories → i < length m.histories → entries_at (1 + i) (epoch_order m) ≡ moving_of (placed_from m (1 + i) [] (history_at m i))
unfolding epoch_order moving_of
order_at m i h l =
    let j : ℕ = 1 + i in
    entries_pick j (sorted (blocks_from m 1 m.histories)) (sorted_pure (blocks_from m 1 m.histories) (all_pure m 1 m.histories))
    ∙ (ap entries_in (sorted_filter (is_at j) (blocks_from m 1 m.histories) (all_order m j 1 m.histories h) ∙ all_on m i 1 m.histories l)
    ∙ (cut_entries (tags_of m j fresh_cell [] (history_at m i)) (front_block j) ∙ tags_moved m j fresh_cell [] (history_at m i)))

pub order_at_nodes : (m : Mesh) (i : ℕ) → Agrees m → i < m.nodes → entries_at (i + 1) (epoch_order m) ≡ moving_of (placed_at m i)
order_at_nodes m i a in_ =
    let same : 1 + i ≡ i + 1 = omega arith in
    subst (λ (x : ℕ). entries_at x (epoch_order m) ≡ moving_of (placed_from m x [] (history_at m i))) same
    (order_at m i (all_rising m a (has_owners m a)) (omega (arith, in_, a.histories)))
