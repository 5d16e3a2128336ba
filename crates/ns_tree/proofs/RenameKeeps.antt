-- A rename keeps what holds of every namespace.
use Rattle.std.proofs.Common.{◌≡◌, ℕ, ◌<◌, ◌≤◌, ◌+◌, ◌-◌, List, [], ◌∷◌, ◌++◌, length, drop, map, Bool, true, false, cond, refl, sym, ap, ◌∙◌}
use Rattle.std.proofs.Common.{append-nil, length-append, length-drop, Option, Some, None, arith, nat_lt, ◌==◌}
use Rattle.std.specs.Prelude.{not, ◌≢◌}
use Rattle.std.proofs.lemmas.Bool.Decides.{nat_tests}
use Rattle.std.specs.Ordering.{is_lt}
use Rattle.std.specs.declared.cmp.Ordering.TheVariants.{Less}
use Rattle.ns_tree.specs.declared.inode.Inode.{Inode}
use Rattle.ns_tree.specs.declared.inode.Row.{Row}
use Rattle.ns_tree.specs.Path.{same_text, walk_cmp, is_under, is_at_or_under, before_last_slash, parent_of, is_path, moved_path}
use Rattle.ns_tree.specs.Space.{Space, pair, root_pair, is_dir_there, find, has_under, subtree, longest_of, longest_under, pairs_before, pairs_after}
use Rattle.ns_tree.specs.Space.{without, moved, renamed, Each, IsInWalkOrder, IsPair}
use Rattle.ns_tree.specs.Places.{IsTree}
use Rattle.ns_tree.proofs.Order.{walk_cmp_total, same_text_is, not_same_before, not_same_after, other_text}
use Rattle.ns_tree.proofs.Walks.{each_filter, each_passing, each_append, each_imp, order_filter, order_append, before_less, after_less}
use Rattle.ns_tree.proofs.Finds.{or_in, find_append, find_put_other, find_without, put_parts}
use Rattle.ns_tree.proofs.Parents.{root_path, Below, root_apart, path_long}
use Rattle.ns_tree.proofs.UnderPaths.{after_under, before_under, not_true}
use Rattle.ns_tree.proofs.Sound.{sound_pairs}
use Rattle.ns_tree.proofs.Tails.{is_tail, Tail, tail_of, tail_under, moved_tail, moved_by, moved_cmp, moved_under, same_prefix, parent_tail, tail_parent, parent_apart, own_parent_apart, path_tail}
use Rattle.std.proofs.lemmas.Bool.{or_parts}

each_both : (P Q : Row → Type 0) (xs : List Row) → Each P xs → Each Q xs → Each (λ x. P x × Q x) xs
each_both P Q [] p q = tt
each_both P Q (x ∷ xs) p q = ((p.0, q.0), each_both P Q xs p.1 q.1)

each_moved : (P Q : Row → Type 0) (f : Row → Row) (xs : List Row) → ((x : Row) → P x → Q (f x)) → Each P xs → Each Q (map f xs)
each_moved P Q f [] g h = tt
each_moved P Q f (x ∷ xs) g h = (g x h.0, each_moved P Q f xs g h.1)

find_in_none : (q : List ℕ) (xs : List Row) → Each (λ x. same_text q x.path ≡ false) xs → find q xs ≡ None
find_in_none q [] h = refl
find_in_none q (x ∷ xs) h = rw h.0 (find_in_none q xs h.1)

none_under : (p : List ℕ) (xs : List Row) → has_under p xs ≡ false → Each (λ x. is_under p x.path ≡ false) xs
none_under p [] e = tt
none_under p (x ∷ xs) e = let parts : (is_under p x.path ≡ false) × (has_under p xs ≡ false) = or_parts (is_under p x.path) (has_under p xs) e in (parts.0, none_under p xs parts.1)

longest_bound : (xs : List Row) → Each (λ x. length x.path ≤ longest_of xs) xs
longest_bound [] = tt
longest_bound (x ∷ xs) = (
  first (nat_lt (length x.path) (longest_of xs)) refl,
  each_imp (λ y. length y.path ≤ longest_of xs) (λ y. length y.path ≤ longest_of (x ∷ xs)) xs
      (λ y h. later (nat_lt (length x.path) (longest_of xs)) refl (length y.path) h) (longest_bound xs),
)
  where
    first : (b : Bool) → nat_lt (length x.path) (longest_of xs) ≡ b → length x.path ≤ cond b (longest_of xs) (length x.path)
    first true e = grind (arith, nat_tests, e)
    first false e = omega arith

    later : (b : Bool) → nat_lt (length x.path) (longest_of xs) ≡ b → (n : ℕ) → n ≤ longest_of xs → n ≤ cond b (longest_of xs) (length x.path)
    later true e n h = h
    later false e n h = grind (arith, nat_tests, e, h)

-- ## The run that moves
module _ (src dst : List ℕ) (b : Below src) (d : Below dst) where
  pub order_moved : (zs : List Row) → Each (λ x. is_at_or_under src x.path ≡ true) zs → IsInWalkOrder zs → IsInWalkOrder (map (λ x. pair (moved_path src dst x.path) x.inode) zs)
  order_moved [] u o = tt
  order_moved (z ∷ zs) u o = (
    each_moved (λ y. (is_at_or_under src y.path ≡ true) × (walk_cmp z.path y.path ≡ Less)) (λ y. walk_cmp (moved_path src dst z.path) y.path ≡ Less) (λ x. pair (moved_path src dst x.path) x.inode) zs
        (λ y h. moved_cmp src dst z.path y.path b u.0 h.0 ∙ h.1)
        (each_both (λ y. is_at_or_under src y.path ≡ true) (λ y. walk_cmp z.path y.path ≡ Less) zs u.1 o.0),
    order_moved zs u.1 o.1,
  )

  -- what is found among it
  pub find_moved : (rest : List ℕ) (xs : List Row) → is_tail rest ≡ true → find (dst ++ rest) (moved src dst xs) ≡ find (src ++ rest) xs
  find_moved rest [] g = refl
  find_moved rest (x ∷ xs) g = by (is_at_or_under src x.path) refl (find_moved rest xs g)
    where
      same : is_at_or_under src x.path ≡ true → same_text (dst ++ rest) (moved_path src dst x.path) ≡ same_text (src ++ rest) x.path
      same e =
          let t : Tail src x.path = tail_of src x.path b e in
          ap (same_text (dst ++ rest)) (moved_by src dst x.path t) ∙ same_prefix dst rest t.rest ∙ sym (same_prefix src rest t.rest) ∙ ap (same_text (src ++ rest)) (sym t.is)

      other : is_at_or_under src x.path ≡ false → same_text (src ++ rest) x.path ≡ false
      other e = not_true (same_text (src ++ rest) x.path) (λ s. cc (sym (ap (is_at_or_under src) (same_text_is (src ++ rest) x.path s) ∙ e) ∙ tail_under src rest b g))

      by : (z : Bool) → is_at_or_under src x.path ≡ z → find (dst ++ rest) (moved src dst xs) ≡ find (src ++ rest) xs
          → find (dst ++ rest) (map (λ x. pair (moved_path src dst x.path) x.inode) (cond z (x ∷ subtree src xs) (subtree src xs))) ≡ cond
          (same_text (src ++ rest) x.path) (Some x.inode) (find (src ++ rest) xs)
      by true e h = rw (same e, h) refl
      by false e h = rw (other e) h

-- ## The whole
module _ (s : Space) (src dst : List ℕ) (h : IsTree s) (b : Below src) (d : Below dst) (path : is_path dst ≡ true)
    (apart : is_at_or_under src dst ≡ false) (parent : is_dir_there (find (parent_of dst) s.pairs) ≡ true) (empty : has_under dst s.pairs ≡ false)
    (short : longest_under src s.pairs - length src + length dst ≤ 1000) where
  long : 0 < length dst
  long = path_long dst path

  at_self : is_at_or_under dst dst ≡ true
  at_self = ap (is_at_or_under dst) (sym (append-nil dst)) ∙ tail_under dst [] d refl

  moved_in : Each (λ x. is_at_or_under dst x.path ≡ true) (moved src dst s.pairs)
  moved_in =
      each_moved (λ x. is_at_or_under src x.path ≡ true) (λ x. is_at_or_under dst x.path ≡ true) (λ x. pair (moved_path src dst x.path) x.inode) (subtree src s.pairs)
      (λ x e. moved_under src dst x.path b d e)
      (each_passing (λ x. is_at_or_under src x.path ≡ true) (λ x. is_at_or_under src x.path) s.pairs (λ x e. e))

  left_apart : Each (λ x. is_under dst x.path ≡ false) (without src s.pairs)
  left_apart = each_filter (λ x. is_under dst x.path ≡ false) (λ x. not (is_at_or_under src x.path)) s.pairs (none_under dst s.pairs empty)

  after_both : Each (λ y. (walk_cmp dst y.path ≡ Less) × (is_under dst y.path ≡ false)) (pairs_after dst (without src s.pairs))
  after_both =
      each_both (λ y. walk_cmp dst y.path ≡ Less) (λ y. is_under dst y.path ≡ false) (pairs_after dst (without src s.pairs)) (after_less dst (without src s.pairs))
      (each_filter (λ x. is_under dst x.path ≡ false) (λ x. is_lt (walk_cmp dst x.path)) (without src s.pairs) left_apart)

  before_both : Each (λ y. (walk_cmp y.path dst ≡ Less) × (is_under dst y.path ≡ false)) (pairs_before dst (without src s.pairs))
  before_both =
      each_both (λ y. walk_cmp y.path dst ≡ Less) (λ y. is_under dst y.path ≡ false) (pairs_before dst (without src s.pairs)) (before_less dst (without src s.pairs))
      (each_filter (λ x. is_under dst x.path ≡ false) (λ x. is_lt (walk_cmp x.path dst)) (without src s.pairs) left_apart)

  -- ## The order
  left_order : IsInWalkOrder (without src s.pairs)
  left_order = order_filter (λ x. not (is_at_or_under src x.path)) s.pairs h.ordered

  run_order : IsInWalkOrder (moved src dst s.pairs)
  run_order = order_moved src dst b d (subtree src s.pairs) (each_passing (λ x. is_at_or_under src x.path ≡ true) (λ x. is_at_or_under src x.path)
      s.pairs (λ x e. e)) (order_filter (λ x. is_at_or_under src x.path) s.pairs h.ordered)

  before_run : Each (λ a. Each (λ m. walk_cmp a.path m.path ≡ Less) (moved src dst s.pairs)) (pairs_before dst (without src s.pairs))
  before_run =
      each_imp (λ a. walk_cmp a.path dst ≡ Less) (λ a. Each (λ m. walk_cmp a.path m.path ≡ Less) (moved src dst s.pairs)) (pairs_before dst (without src s.pairs))
      (λ a less. each_imp (λ m. is_at_or_under dst m.path ≡ true) (λ m. walk_cmp a.path m.path ≡ Less) (moved src dst s.pairs) (λ m u. before_under dst m.path a.path long u less) moved_in)
      (before_less dst (without src s.pairs))

  before_after : Each (λ a. Each (λ y. walk_cmp a.path y.path ≡ Less) (pairs_after dst (without src s.pairs))) (pairs_before dst (without src s.pairs))
  before_after =
      each_imp (λ a. walk_cmp a.path dst ≡ Less) (λ a. Each (λ y. walk_cmp a.path y.path ≡ Less) (pairs_after dst (without src s.pairs))) (pairs_before dst (without src s.pairs))
      (λ a less. each_imp (λ y. walk_cmp dst y.path ≡ Less) (λ y. walk_cmp a.path y.path ≡ Less) (pairs_after dst (without src s.pairs))
      (λ y later. walk_cmp_total.trans a.path dst y.path less later) (after_less dst (without src s.pairs)))
      (before_less dst (without src s.pairs))

  run_after : Each (λ m. Each (λ y. walk_cmp m.path y.path ≡ Less) (pairs_after dst (without src s.pairs))) (moved src dst s.pairs)
  run_after =
      each_imp (λ m. is_at_or_under dst m.path ≡ true) (λ m. Each (λ y. walk_cmp m.path y.path ≡ Less) (pairs_after dst (without src s.pairs))) (moved src dst s.pairs)
      (λ m u. each_imp (λ y. (walk_cmp dst y.path ≡ Less) × (is_under dst y.path ≡ false)) (λ y. walk_cmp m.path y.path ≡ Less)
      (pairs_after dst (without src s.pairs)) (λ y p. after_under dst m.path y.path long u p.0 p.1) after_both)
      moved_in

  order : IsInWalkOrder (renamed src dst s.pairs)
  order =
      order_append (pairs_before dst (without src s.pairs) ++ moved src dst s.pairs) (pairs_after dst (without src s.pairs))
      (order_append (pairs_before dst (without src s.pairs)) (moved src dst s.pairs) (order_filter (λ x. is_lt (walk_cmp x.path dst)) (without src s.pairs) left_order) run_order before_run)
      (order_filter (λ x. is_lt (walk_cmp dst x.path)) (without src s.pairs) left_order)
      (each_append (λ a. Each (λ y. walk_cmp a.path y.path ≡ Less) (pairs_after dst (without src s.pairs))) (pairs_before dst (without src s.pairs)) (moved src dst s.pairs) before_after run_after)

  -- ## What is found
  parts : (q : List ℕ) → find q (renamed src dst s.pairs) ≡ or_in (or_in (find q (pairs_before dst (without src s.pairs)))
      (find q (moved src dst s.pairs))) (find q (pairs_after dst (without src s.pairs)))
  parts q =
      find_append q (pairs_before dst (without src s.pairs) ++ moved src dst s.pairs) (pairs_after dst (without src s.pairs))
      ∙ ap (λ (o : Option Inode). or_in o (find q (pairs_after dst (without src s.pairs)))) (find_append q (pairs_before dst (without src s.pairs)) (moved src dst s.pairs))

  find_kept : (q : List ℕ) → is_at_or_under src q ≡ false → is_at_or_under dst q ≡ false → find q (renamed src dst s.pairs) ≡ find q s.pairs
  find_kept q e f =
      parts q
      ∙ ap (λ (o : Option Inode). or_in (or_in (find q (pairs_before dst (without src s.pairs))) o) (find q (pairs_after dst (without src s.pairs)))) (none ∙ sym alone)
      ∙ sym (put_parts dst q root_pair.inode (without src s.pairs))
      ∙ find_put_other dst q root_pair.inode (without src s.pairs) other
      ∙ find_without src q s.pairs e
    where
      other : dst ≢ q
      other is = cc (sym (ap (is_at_or_under dst) is ∙ f) ∙ at_self)

      alone : find q (pair dst root_pair.inode ∷ []) ≡ None
      alone = ap (λ (z : Bool). cond z (Some root_pair.inode) None) (other_text q dst (λ is. other (sym is)))

      none : find q (moved src dst s.pairs) ≡ None
      none =
          find_in_none q (moved src dst s.pairs)
          (each_imp (λ x. is_at_or_under dst x.path ≡ true) (λ x. same_text q x.path ≡ false) (moved src dst s.pairs)
          (λ x u. not_true (same_text q x.path) (λ t. cc (sym f ∙ ap (is_at_or_under dst) (same_text_is q x.path t) ∙ u)))
          moved_in)

  find_there : (rest : List ℕ) → is_tail rest ≡ true → find (dst ++ rest) (renamed src dst s.pairs) ≡ find (src ++ rest) s.pairs
  find_there rest g =
      parts (dst ++ rest)
      ∙ (λ i. or_in (or_in (front i) (find_moved src dst b d rest s.pairs g i)) (back i))
      ∙ alone (find (src ++ rest) s.pairs)
    where
      within : is_at_or_under dst (dst ++ rest) ≡ true
      within = tail_under dst rest d g

      front : find (dst ++ rest) (pairs_before dst (without src s.pairs)) ≡ None
      front =
          find_in_none (dst ++ rest) (pairs_before dst (without src s.pairs))
          (each_imp (λ x. walk_cmp x.path dst ≡ Less) (λ x. same_text (dst ++ rest) x.path ≡ false) (pairs_before dst (without src s.pairs))
          (λ x l. not_same_before (dst ++ rest) x.path (before_under dst (dst ++ rest) x.path long within l)) (before_less dst (without src s.pairs)))

      back : find (dst ++ rest) (pairs_after dst (without src s.pairs)) ≡ None
      back =
          find_in_none (dst ++ rest) (pairs_after dst (without src s.pairs))
          (each_imp (λ y. (walk_cmp dst y.path ≡ Less) × (is_under dst y.path ≡ false)) (λ x. same_text (dst ++ rest) x.path ≡ false) (pairs_after dst (without src s.pairs))
          (λ y p. not_same_after (dst ++ rest) y.path (after_under dst (dst ++ rest) y.path long within p.0 p.1)) after_both)

      alone : (o : Option Inode) → or_in (or_in None o) None ≡ o
      alone None = refl
      alone (Some i) = refl

  -- ## The pairs
  row_kept : (x : Row) → IsPair s.pairs x → is_at_or_under src x.path ≡ false → is_at_or_under dst x.path ≡ false → IsPair (renamed src dst s.pairs) x
  row_kept x k e f = record {
    path = k.path;
    short = k.short;
    inode = k.inode;
    parent = ap is_dir_there (find_kept (parent_of x.path) (parent_apart src x.path b k.path e) (parent_apart dst x.path d k.path f)) ∙ k.parent;
  }

  row_moved : (y : Row) → IsPair s.pairs y → is_at_or_under src y.path ≡ true → length y.path ≤ longest_under src s.pairs → IsPair (renamed src dst s.pairs) (pair (moved_path src dst y.path) y.inode)
  row_moved y k e most = let t : Tail src y.path = tail_of src y.path b e in by t.rest t.is t.good
    where
      fits : length (moved_path src dst y.path) ≤ 1000
      fits =
          let sum : length (dst ++ drop (length src) y.path) ≡ length dst + length (drop (length src) y.path) = length-append dst (drop (length src) y.path) in
          let rest : length (drop (length src) y.path) ≡ length y.path - length src = length-drop (length src) y.path in
          omega (arith, sum, rest, most, short)

      good : (rest : List ℕ) → y.path ≡ src ++ rest → is_tail rest ≡ true → is_path (moved_path src dst y.path) ≡ true
      good rest is g = ap is_path (ap (moved_path src dst) is ∙ moved_tail src dst rest) ∙ path_tail src dst rest b d g path (ap is_path (sym is) ∙ k.path)

      above : (rest : List ℕ) → y.path ≡ src ++ rest → is_tail rest ≡ true → is_dir_there (find (parent_of (moved_path src dst y.path)) (renamed src dst s.pairs)) ≡ true
      above [] is g =
          ap (λ (q : List ℕ). is_dir_there (find (parent_of q) (renamed src dst s.pairs))) (ap (moved_path src dst) is ∙ moved_tail src dst [] ∙ append-nil dst)
          ∙ ap is_dir_there (find_kept (parent_of dst) (parent_apart src dst b path apart) (own_parent_apart dst d))
          ∙ parent
      above (c ∷ u) is g =
          let slash : c ≡ 47 = (let e : (c == 47) ≡ true = g in grind (arith, nat_tests, e)) in
          let whole : y.path ≡ src ++ 47 ∷ u = is ∙ ap (λ (n : ℕ). src ++ n ∷ u) slash in
          ap (λ (q : List ℕ). is_dir_there (find (parent_of q) (renamed src dst s.pairs))) (ap (moved_path src dst) whole ∙ moved_tail src dst (47 ∷ u))
          ∙ ap (λ (q : List ℕ). is_dir_there (find q (renamed src dst s.pairs))) (parent_tail dst u d)
          ∙ ap is_dir_there (find_there (before_last_slash (47 ∷ u)) (tail_parent u))
          ∙ ap (λ (q : List ℕ). is_dir_there (find q s.pairs)) (sym (parent_tail src u b))
          ∙ ap (λ (q : List ℕ). is_dir_there (find (parent_of q) s.pairs)) (sym whole)
          ∙ k.parent

      by : (rest : List ℕ) → y.path ≡ src ++ rest → is_tail rest ≡ true → IsPair (renamed src dst s.pairs) (pair (moved_path src dst y.path) y.inode)
      by rest is g = record { path = good rest is g; short = fits; inode = k.inode; parent = above rest is g }

  left_rows : Each (λ x. IsPair s.pairs x × (is_at_or_under src x.path ≡ false)) (without src s.pairs)
  left_rows =
      each_both (IsPair s.pairs) (λ x. is_at_or_under src x.path ≡ false) (without src s.pairs)
      (each_filter (IsPair s.pairs) (λ x. not (is_at_or_under src x.path)) s.pairs h.pairs)
      (each_passing (λ x. is_at_or_under src x.path ≡ false) (λ x. not (is_at_or_under src x.path)) s.pairs (λ x e. negated (is_at_or_under src x.path) e))
    where
      negated : (z : Bool) → not z ≡ true → z ≡ false
      negated true e = absurd (cc e)
      negated false e = refl

  rows_before : Each (IsPair (renamed src dst s.pairs)) (pairs_before dst (without src s.pairs))
  rows_before =
      each_imp (λ x. (IsPair s.pairs x × (is_at_or_under src x.path ≡ false)) × ((walk_cmp x.path dst ≡ Less) × (is_under dst x.path ≡ false)))
      (IsPair (renamed src dst s.pairs)) (pairs_before dst (without src s.pairs))
      (λ x p. row_kept x p.0.0 p.0.1 (rw (not_same_before dst x.path p.1.0, p.1.1) refl))
      (each_both (λ x. IsPair s.pairs x × (is_at_or_under src x.path ≡ false)) (λ x. (walk_cmp x.path dst ≡ Less) × (is_under dst x.path ≡ false)) (pairs_before dst (without src s.pairs))
      (each_filter (λ x. IsPair s.pairs x × (is_at_or_under src x.path ≡ false)) (λ x. is_lt (walk_cmp x.path dst)) (without src s.pairs) left_rows) before_both)

  rows_after : Each (IsPair (renamed src dst s.pairs)) (pairs_after dst (without src s.pairs))
  rows_after =
      each_imp (λ x. (IsPair s.pairs x × (is_at_or_under src x.path ≡ false)) × ((walk_cmp dst x.path ≡ Less) × (is_under dst x.path ≡ false)))
      (IsPair (renamed src dst s.pairs)) (pairs_after dst (without src s.pairs))
      (λ x p. row_kept x p.0.0 p.0.1 (rw (not_same_after dst x.path p.1.0, p.1.1) refl))
      (each_both (λ x. IsPair s.pairs x × (is_at_or_under src x.path ≡ false)) (λ x. (walk_cmp dst x.path ≡ Less) × (is_under dst x.path ≡ false)) (pairs_after dst (without src s.pairs))
      (each_filter (λ x. IsPair s.pairs x × (is_at_or_under src x.path ≡ false)) (λ x. is_lt (walk_cmp dst x.path)) (without src s.pairs) left_rows) after_both)

  run_rows : Each (IsPair (renamed src dst s.pairs)) (moved src dst s.pairs)
  run_rows =
      each_moved (λ x. (IsPair s.pairs x × (is_at_or_under src x.path ≡ true)) × (length x.path ≤ longest_under src s.pairs))
      (IsPair (renamed src dst s.pairs)) (λ x. pair (moved_path src dst x.path) x.inode) (subtree src s.pairs)
      (λ x p. row_moved x p.0.0 p.0.1 p.1)
      (each_both (λ x. IsPair s.pairs x × (is_at_or_under src x.path ≡ true)) (λ x. length x.path ≤ longest_under src s.pairs) (subtree src s.pairs)
      (each_both (IsPair s.pairs) (λ x. is_at_or_under src x.path ≡ true) (subtree src s.pairs)
      (each_filter (IsPair s.pairs) (λ x. is_at_or_under src x.path) s.pairs h.pairs)
      (each_passing (λ x. is_at_or_under src x.path ≡ true) (λ x. is_at_or_under src x.path) s.pairs (λ x e. e)))
      (longest_bound (subtree src s.pairs)))

  pub sound_renamed : IsTree (record s { pairs = renamed src dst s.pairs })
  sound_renamed =
      sound_pairs s (renamed src dst s.pairs) h order (record {
        pairs = each_append (IsPair (renamed src dst s.pairs)) (pairs_before dst (without src s.pairs) ++ moved src dst s.pairs) (pairs_after dst (without src s.pairs))
            (each_append (IsPair (renamed src dst s.pairs)) (pairs_before dst (without src s.pairs)) (moved src dst s.pairs) rows_before run_rows) rows_after;
        root = ap is_dir_there (find_kept root_path (root_apart src b) (root_apart dst d)) ∙ h.root;
      })
