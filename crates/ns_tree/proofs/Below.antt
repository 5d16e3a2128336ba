-- Rows below a name: where they stand beside those of other names, and what is found there.
use Rattle.std.proofs.Common.{◌≡◌, ◌==◌, ℕ, List, [], ◌∷◌, ◌++◌, map, refl, sym, ◌∙◌, ap, subst, arith, false, cond, Option, Some, None}
use Rattle.std.specs.declared.cmp.Ordering.{Ordering}
use Rattle.std.specs.declared.cmp.Ordering.TheVariants.{Less, Equal, Greater}
use Rattle.std.specs.Ordering.{is_eq, nat_cmp, ordering_then}
use Rattle.std.specs.Cmp.{IsTotalOrder}
use Rattle.std.specs.Cmp.Lexicographic.{slice_cmp}
use Rattle.std.specs.List.{AllByRecursion}
use Rattle.std.specs.List.Sorted.{IsStrictlySortedBy}
use Rattle.std.specs.Map.{keys_of, lookup}
use Rattle.std.proofs.lemmas.Cmp.{nat_cmp_total, lists_total}
use Rattle.std.proofs.lemmas.Bool.{or_parts}
use Rattle.std.proofs.lemmas.Bool.Decides.{nat_tests}
use Rattle.ns_tree.specs.declared.inode.Inode.{Inode}
use Rattle.ns_tree.specs.declared.inode.Row.{Row}
use Rattle.ns_tree.specs.Path.{walk_cmp, same_text, has_slash}
use Rattle.ns_tree.specs.Space.{Each, find}
use Rattle.ns_tree.specs.Branches.{IsLed, IsFrom, IsBelow, IsBranch, below, is_named, grown, AreBranches, found_in}
use Rattle.ns_tree.proofs.Finds.{or_in, find_append}
use Rattle.ns_tree.proofs.Order.{not_same_before}
use Rattle.ns_tree.proofs.Place.{find_none}
use Rattle.ns_tree.proofs.Tails.{same_prefix}
use Rattle.ns_tree.proofs.TwoNames.{rank_cmp}
use Rattle.ns_tree.proofs.UnderPaths.{prefix_cmp}
use Rattle.ns_tree.proofs.Walks.{each_append, each_imp}

-- ## Names

pub name_order : IsTotalOrder (slice_cmp nat_cmp)
name_order = lists_total nat_cmp_total

pub turned_name : (m n : List ℕ) → slice_cmp nat_cmp n m ≡ Greater → slice_cmp nat_cmp m n ≡ Less
turned_name m n h = let back = name_order.antisymm m n in grind (arith, back, h)

then_equal : (r s : Ordering) → ordering_then r s ≡ Equal → (r ≡ Equal) × (s ≡ Equal)
then_equal Less s h = absurd (cc h)
then_equal Equal s h = (refl, h)
then_equal Greater s h = absurd (cc h)

nat_same : (a b : ℕ) → nat_cmp a b ≡ Equal → a ≡ b
nat_same a b h = grind (arith, nat_tests)

pub name_same : (m n : List ℕ) → slice_cmp nat_cmp m n ≡ Equal → m ≡ n
name_same [] [] h = refl
name_same [] (y ∷ ys) h = absurd (cc h)
name_same (x ∷ xs) [] h = absurd (cc h)
name_same (x ∷ xs) (y ∷ ys) h =
    let parts = then_equal (nat_cmp x y) (slice_cmp nat_cmp xs ys) h in
    let first : x ≡ y = nat_same x y parts.0 in
    let rest : xs ≡ ys = name_same xs ys parts.1 in
    cc

-- the names decide in which order a walk comes to what is below them
pub names_decide : (m n a b : List ℕ) → has_slash m ≡ false → has_slash n ≡ false → IsLed a → IsLed b → slice_cmp nat_cmp m n ≡ Less → walk_cmp (m ++ a) (n ++ b) ≡ Less
names_decide [] [] a b e f la lb h = absurd (cc h)
names_decide [] (y ∷ ys) [] b e f la lb h = refl
names_decide [] (y ∷ ys) (c ∷ cs) b e f la lb h =
    let q : ((y == 47) ≡ false) × (has_slash ys ≡ false) = or_parts (y == 47) (has_slash ys) f in
    let other = q.0 in
    grind (arith, nat_tests)
names_decide (x ∷ xs) [] a b e f la lb h = absurd (cc h)
names_decide (x ∷ xs) (y ∷ ys) a b e f la lb h =
    let p : ((x == 47) ≡ false) × (has_slash xs ≡ false) = or_parts (x == 47) (has_slash xs) e in
    let q : ((y == 47) ≡ false) × (has_slash ys ≡ false) = or_parts (y == 47) (has_slash ys) f in
    ap (λ (r : Ordering). ordering_then r (walk_cmp (xs ++ a) (ys ++ b))) (rank_cmp x y p.0 q.0)
    ∙ by (nat_cmp x y) (λ less. names_decide xs ys a b p.1 q.1 la lb less) h
  where
    by : (o : Ordering) → (slice_cmp nat_cmp xs ys ≡ Less → walk_cmp (xs ++ a) (ys ++ b) ≡ Less) → ordering_then o (slice_cmp nat_cmp xs ys) ≡ Less
        → ordering_then o (walk_cmp (xs ++ a) (ys ++ b)) ≡ Less
    by Less rest h = refl
    by Equal rest h = rest h
    by Greater rest h = absurd (cc h)

pub below_decide : (m n a b : List ℕ) → has_slash m ≡ false → has_slash n ≡ false → IsLed a → IsLed b → slice_cmp nat_cmp m n ≡ Less
    → walk_cmp (47 ∷ m ++ a) (47 ∷ n ++ b) ≡ Less
below_decide m n a b e f la lb h = prefix_cmp (47 ∷ []) (m ++ a) (n ++ b) ∙ names_decide m n a b e f la lb h

-- ## The rows of a branch

from_below : (p : List ℕ) → IsBelow p → IsFrom p
from_below p b = subst IsFrom (sym b.1) (refl, b.2)

-- they go from there
pub rows_from : (xs : List Row) → IsBranch xs → Each (λ x. IsFrom x.path) xs
rows_from xs b = subst (λ (ys : List Row). Each (λ x. IsFrom x.path) ys) (sym b.2) (tt, each_imp (λ x. IsBelow x.path) (λ x. IsFrom x.path) b.1 (λ x f. from_below x.path f) b.3)

-- ## What is below one name

pub find_below : (n r : List ℕ) (xs : List Row) → find (47 ∷ n ++ r) (map (below n) xs) ≡ find r xs
find_below n r [] = refl
find_below n r (x ∷ xs) = rw (same_prefix (47 ∷ n) r x.path, find_below n r xs) refl

pub led_more : (r q : List ℕ) → IsLed r → IsLed q → IsLed (r ++ q)
led_more [] q a b = b
led_more (c ∷ cs) q a b = a

pub led_from : (p : List ℕ) → IsFrom p → IsLed p
led_from [] h = tt
led_from (b ∷ bs) h = h.0

pub earlier_name : (m n r : List ℕ) (xs : List Row) → has_slash m ≡ false → has_slash n ≡ false → IsLed r → Each (λ x. IsFrom x.path) xs
    → slice_cmp nat_cmp m n ≡ Less → Each (λ x. walk_cmp x.path (47 ∷ n ++ r) ≡ Less) (map (below m) xs)
earlier_name m n r [] e f lr l h = tt
earlier_name m n r (x ∷ xs) e f lr l h = (below_decide m n x.path r e f (led_from x.path l.0) lr h, earlier_name m n r xs e f lr l.1 h)

pub later_name : (m n r : List ℕ) (xs : List Row) → has_slash m ≡ false → has_slash n ≡ false → IsLed r → Each (λ x. IsFrom x.path) xs
    → slice_cmp nat_cmp n m ≡ Less → Each (λ x. walk_cmp (47 ∷ n ++ r) x.path ≡ Less) (map (below m) xs)
later_name m n r [] e f lr l h = tt
later_name m n r (x ∷ xs) e f lr l h = (below_decide n m r x.path f e lr (led_from x.path l.0) h, later_name m n r xs e f lr l.1 h)

-- ## The entries of a directory

module _ {K X : Type 0} (name : K → List ℕ) (rows : X → List Row) where
  -- the names of all entries come after one
  abbrev pub AreLater : List ℕ → List (K × X) → Type 0
  AreLater n [] = Unit {0}
  AreLater n (e ∷ es) = (slice_cmp nat_cmp n (name e.0) ≡ Less) × AreLater n es

  abbrev pub AreInOrder : List (K × X) → Type 0
  AreInOrder [] = Unit {0}
  AreInOrder (e ∷ es) = AreLater (name e.0) es × AreInOrder es

  later_keys : (k : K) (es : List (K × X)) → AllByRecursion (λ y. slice_cmp nat_cmp (name k) (name y) ≡ Less) (keys_of es) → AreLater (name k) es
  later_keys k [] h = tt
  later_keys k (e ∷ es) h = (h.0, later_keys k es h.1)

  pub in_order : (es : List (K × X)) → IsStrictlySortedBy (λ a b. slice_cmp nat_cmp (name a) (name b)) (keys_of es) → AreInOrder es
  unfolding IsStrictlySortedBy
  in_order [] h = tt
  in_order (e ∷ es) h = (later_keys e.0 es h.0, in_order es h.1)

  pub later_still : (m n : List ℕ) (es : List (K × X)) → slice_cmp nat_cmp m n ≡ Less → AreLater n es → AreLater m es
  later_still m n [] h l = tt
  later_still m n (e ∷ es) h l = (name_order.trans m n (name e.0) h l.0, later_still m n es h l.1)

  pub after_name : (n r : List ℕ) (es : List (K × X)) → has_slash n ≡ false → IsLed r → AreBranches name rows es → AreLater n es
      → Each (λ x. walk_cmp (47 ∷ n ++ r) x.path ≡ Less) (grown name rows es)
  after_name n r [] f lr b l = tt
  after_name n r (e ∷ es) f lr b l =
      each_append (λ x. walk_cmp (47 ∷ n ++ r) x.path ≡ Less) (map (below (name e.0)) (rows e.1)) (grown name rows es)
      (later_name (name e.0) n r (rows e.1) b.1 f lr (rows_from (rows e.1) b.2) l.0) (after_name n r es f lr b.3 l.1)

  or_none : (o : Option Inode) → or_in o None ≡ o
  or_none None = refl
  or_none (Some i) = refl

  -- what is found under a name is found in its entry
  pub found : (n r : List ℕ) (es : List (K × X)) → has_slash n ≡ false → IsLed r → AreBranches name rows es → AreInOrder es
      → find (47 ∷ n ++ r) (grown name rows es) ≡ found_in name rows r (lookup (λ k. is_named n (name k)) es)
  found n r [] f lr b o = refl
  found n r (e ∷ es) f lr b o =
      find_append (47 ∷ n ++ r) (map (below (name e.0)) (rows e.1)) (grown name rows es)
      ∙ by (slice_cmp nat_cmp n (name e.0)) refl (found n r es f lr b.3 o.1)
    where
      find_earlier : (p : List ℕ) (xs : List Row) → Each (λ x. walk_cmp x.path p ≡ Less) xs → find p xs ≡ None
      find_earlier p [] h = refl
      find_earlier p (x ∷ xs) h = rw (not_same_before p x.path h.0) (find_earlier p xs h.1)

      by : (c : Ordering) → slice_cmp nat_cmp n (name e.0) ≡ c
          → find (47 ∷ n ++ r) (grown name rows es) ≡ found_in name rows r (lookup (λ k. is_named n (name k)) es)
          → or_in (find (47 ∷ n ++ r) (map (below (name e.0)) (rows e.1))) (find (47 ∷ n ++ r) (grown name rows es))
          ≡ found_in name rows r (cond (is_eq (slice_cmp nat_cmp n (name e.0))) (Some e.1) (lookup (λ k. is_named n (name k)) es))
      by Less is rest =
          let none = find_none (47 ∷ n ++ r) (map (below (name e.0)) (rows e.1)) (later_name (name e.0) n r (rows e.1) b.1 f lr (rows_from (rows e.1) b.2) is) in
          rw (is, none) rest
      by Equal is rest =
          let same : n ≡ name e.0 = name_same n (name e.0) is in
          let here : find (47 ∷ n ++ r) (map (below (name e.0)) (rows e.1)) ≡ find r (rows e.1) =
          subst (λ (w : List ℕ). find (47 ∷ n ++ r) (map (below w) (rows e.1)) ≡ find r (rows e.1)) same (find_below n r (rows e.1)) in
          let none = find_none (47 ∷ n ++ r) (grown name rows es)
          (after_name n r es f lr b.3 (subst (λ (w : List ℕ). AreLater w es) (sym same) o.0)) in
          rw (is, here, none) (or_none (find r (rows e.1)))
      by Greater is rest =
          let earlier = earlier_name (name e.0) n r (rows e.1) b.1 f lr (rows_from (rows e.1) b.2) (turned_name (name e.0) n is) in
          let none = find_earlier (47 ∷ n ++ r) (map (below (name e.0)) (rows e.1)) earlier in
          rw (is, none) rest
