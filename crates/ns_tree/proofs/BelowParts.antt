-- What stands at a path below a name, and what takes its place.
use Rattle.std.proofs.Common.{◌≡◌, ℕ, ◌<◌, List, [], ◌∷◌, ◌++◌, length, map, filter, refl, sym, ◌∙◌, ap, subst, arith, Bool, true, false, cond, Some, append_assoc, append-nil}
use Rattle.std.specs.Prelude.{not, IsSome}
use Rattle.std.specs.declared.cmp.Ordering.{Ordering}
use Rattle.std.specs.declared.cmp.Ordering.TheVariants.{Less, Equal, Greater}
use Rattle.std.specs.Ordering.{is_eq, nat_cmp}
use Rattle.std.specs.Cmp.Lexicographic.{slice_cmp}
use Rattle.std.specs.Map.{lookup, set_value}
use Rattle.std.proofs.lemmas.List.Elements.{filter-append}
use Rattle.ns_tree.specs.declared.inode.Row.{Row}
use Rattle.ns_tree.specs.Path.{same_text, has_slash, is_at_or_under}
use Rattle.ns_tree.specs.Space.{Each, pair, find, without, subtree, put_at}
use Rattle.ns_tree.specs.Branches.{IsLed, IsFrom, IsBelow, IsBranch, below, from_path, is_named, grown, AreBranches}
use Rattle.ns_tree.proofs.Order.{same_text_is}
use Rattle.ns_tree.proofs.Walks.{each_append, each_imp}
use Rattle.ns_tree.proofs.Below.{rows_from, AreLater, AreInOrder, later_still, name_same, turned_name, earlier_name}
use Rattle.ns_tree.proofs.BelowEdits.{some_same, skips_then, ends_then, edited, later_none, put_below, put_skips, put_ends}
use Rattle.ns_tree.proofs.BelowCuts.{outside_before, outside_name, inside, same_inside, cut_skips, cut_ends}

-- ## Paths of rows

-- a path at which something is found goes from the branch
pub from_found : (r : List ℕ) (xs : List Row) → Each (λ x. IsFrom x.path) xs → IsSome (find r xs) → IsFrom r
from_found r [] e h = absurd (cc h)
from_found r (x ∷ xs) e h = by (same_text r x.path) refl h (λ g. from_found r xs e.1 g)
  where
    by : (z : Bool) → same_text r x.path ≡ z → IsSome (cond z (Some x.inode) (find r xs)) → (IsSome (find r xs) → IsFrom r) → IsFrom r
    by true is h go = subst IsFrom (sym (same_text_is r x.path is)) e.0
    by false is h go = go h

pub from_name : (n a : List ℕ) → 0 < length n → IsFrom (47 ∷ n ++ a)
from_name [] a some = absurd (omega arith)
from_name (b ∷ bs) a some = (refl, omega arith)

below_name : (n a : List ℕ) → 0 < length n → IsBelow (47 ∷ n ++ a)
below_name n a some = (n ++ a, refl, (from_name n a some).1)

each_name : (n : List ℕ) (xs : List Row) → 0 < length n → Each (λ x. IsBelow x.path) (map (below n) xs)
each_name n [] some = tt
each_name n (x ∷ xs) some = (below_name n x.path some, each_name n xs some)

-- all rows of the entries of a branch are below it
pub all_below : {K X : Type 0} (name : K → List ℕ) (rows : X → List Row) (es : List (K × X)) → AreBranches name rows es → Each (λ x. IsBelow x.path) (grown name rows es)
all_below name rows [] b = tt
all_below name rows (e ∷ es) b = each_append (λ x. IsBelow x.path) (map (below (name e.0)) (rows e.1)) (grown name rows es) (each_name (name e.0) (rows e.1) b.0) (all_below name rows es b.3)

-- a name that has an entry is not empty, and its entry is a branch
pub entry_from : {K X : Type 0} (name : K → List ℕ) (rows : X → List Row) (n : List ℕ) (es : List (K × X)) → AreBranches name rows es → (v : X)
    → lookup (λ k. is_named n (name k)) es ≡ Some v → (0 < length n) × IsBranch (rows v)
entry_from name rows n [] b v there = absurd (cc there)
entry_from {X = X} name rows n (e ∷ es) b v there = by (slice_cmp nat_cmp n (name e.0)) refl there (λ th. entry_from name rows n es b.3 v th)
  where
    by : (c : Ordering) → slice_cmp nat_cmp n (name e.0) ≡ c
        → cond (is_eq (slice_cmp nat_cmp n (name e.0))) (Some e.1) (lookup (λ k. is_named n (name k)) es) ≡ Some v
        → (lookup (λ k. is_named n (name k)) es ≡ Some v → (0 < length n) × IsBranch (rows v))
        → (0 < length n) × IsBranch (rows v)
    by Less is th more = more (rw is at th)
    by Equal is th more =
        let here : e.1 ≡ v = some_same e.1 v (rw is at th) in
        (subst (λ (u : List ℕ). 0 < length u) (sym (name_same n (name e.0) is)) b.0, subst (λ (w : X). IsBranch (rows w)) here b.2)
    by Greater is th more = more (rw is at th)

-- ## Rows by other paths

pub filter_mapped : (h : Row → Row) (f g : Row → Bool) (xs : List Row) → Each (λ x. f (h x) ≡ g x) xs → filter f (map h xs) ≡ map h (filter g xs)
filter_mapped h f g [] e = refl
filter_mapped h f g (x ∷ xs) e = rw (e.0, filter_mapped h f g xs e.1) (by (g x))
  where
    by : (z : Bool) → cond z (h x ∷ map h (filter g xs)) (map h (filter g xs)) ≡ map h (cond z (x ∷ filter g xs) (filter g xs))
    by true = refl
    by false = refl

pub below_path : (n r : List ℕ) (xs : List Row) → map (below n) (map (from_path r) xs) ≡ map (from_path (47 ∷ n ++ r)) xs
below_path n r [] = refl
below_path n r (x ∷ xs) =
    ap (λ (w : List ℕ). pair w x.inode ∷ map (below n) (map (from_path r) xs)) (sym (append_assoc (47 ∷ n) r x.path))
    ∙ ap (λ (ys : List Row). pair ((47 ∷ n ++ r) ++ x.path) x.inode ∷ ys) (below_path n r xs)

pub own_path : (xs : List Row) → map (from_path []) xs ≡ xs
own_path [] = refl
own_path (x ∷ xs) = ap (λ (ys : List Row). x ∷ ys) (own_path xs)

-- ## What is at or under a path

own_inside : (a : List ℕ) → IsFrom a → is_at_or_under [] a ≡ true
own_inside [] h = refl
own_inside (b ∷ []) h = absurd (omega (arith, h.1))
own_inside (b ∷ c ∷ bs) h = rw h.0 refl

inside_from : (n r a : List ℕ) → 0 < length n → IsFrom r → IsFrom a → is_at_or_under (47 ∷ n ++ r) (47 ∷ n ++ a) ≡ is_at_or_under r a
inside_from n [] a some f g = inside n a some g ∙ sym (own_inside a g)
inside_from n (b ∷ bs) a some f g = same_inside n (b ∷ bs) a some (omega (arith, f.1)) g

pub filter_all_from : (xs : List Row) → Each (λ x. IsFrom x.path) xs → subtree [] xs ≡ xs
filter_all_from [] e = refl
filter_all_from (x ∷ xs) e = rw (own_inside x.path e.0) (ap (λ (ys : List Row). x ∷ ys) (filter_all_from xs e.1))

pub without_all : (xs : List Row) → Each (λ x. IsFrom x.path) xs → without [] xs ≡ []
without_all [] e = refl
without_all (x ∷ xs) e = rw (own_inside x.path e.0) (without_all xs e.1)

sub_below : (n r : List ℕ) (xs : List Row) → 0 < length n → IsFrom r → Each (λ x. IsFrom x.path) xs → subtree (47 ∷ n ++ r) (map (below n) xs) ≡ map (below n) (subtree r xs)
sub_below n r xs some f e =
    filter_mapped (below n) (λ x. is_at_or_under (47 ∷ n ++ r) x.path) (λ x. is_at_or_under r x.path) xs
    (each_imp (λ x. IsFrom x.path) (λ x. is_at_or_under (47 ∷ n ++ r) (47 ∷ n ++ x.path) ≡ is_at_or_under r x.path) xs (λ x g. inside_from n r x.path some f g) e)

pub without_below : (n r : List ℕ) (xs : List Row) → 0 < length n → IsFrom r → Each (λ x. IsFrom x.path) xs → without (47 ∷ n ++ r) (map (below n) xs) ≡ map (below n) (without r xs)
without_below n r xs some f e =
    filter_mapped (below n) (λ x. not (is_at_or_under (47 ∷ n ++ r) x.path)) (λ x. not (is_at_or_under r x.path)) xs
    (each_imp (λ x. IsFrom x.path) (λ x. not (is_at_or_under (47 ∷ n ++ r) (47 ∷ n ++ x.path)) ≡ not (is_at_or_under r x.path)) xs (λ x g. ap not (inside_from n r x.path some f g)) e)

pub filter_out : (f : Row → Bool) (xs : List Row) → Each (λ x. not (f x) ≡ true) xs → filter f xs ≡ []
filter_out f [] e = refl
filter_out f (x ∷ xs) e = rw (off (f x) e.0) (filter_out f xs e.1)
  where
    off : (z : Bool) → not z ≡ true → z ≡ false
    off true h = absurd (cc h)
    off false h = refl

module _ {K X : Type 0} (name : K → List ℕ) (rows : X → List Row) (n r : List ℕ) (some : 0 < length n) (plain : has_slash n ≡ false) (led : IsLed r) where
  -- nothing at or under a path below a name is below another
  outside_later : (es : List (K × X)) → AreBranches name rows es → AreLater name rows n es → Each (λ x. not (is_at_or_under (47 ∷ n ++ r) x.path) ≡ true) (grown name rows es)
  outside_later [] b l = tt
  outside_later (e ∷ es) b l =
      each_append (λ x. not (is_at_or_under (47 ∷ n ++ r) x.path) ≡ true) (map (below (name e.0)) (rows e.1)) (grown name rows es)
      (outside_name (name e.0) n r (rows e.1) some b.1 plain led l.0 (rows_from (rows e.1) b.2)) (outside_later es b.3 l.1)

  outside_earlier : (m : List ℕ) (xs : List Row) → has_slash m ≡ false → Each (λ x. IsFrom x.path) xs → slice_cmp nat_cmp m n ≡ Less
      → Each (λ x. not (is_at_or_under (47 ∷ n ++ r) x.path) ≡ true) (map (below m) xs)
  outside_earlier m xs e l less = outside_before (47 ∷ n ++ r) (map (below m) xs) (omega arith) (earlier_name m n r xs e plain led l less)

  -- what is at or under a path below a name is in its entry
  pub sub_in : IsFrom r → (es : List (K × X)) → AreBranches name rows es → AreInOrder name rows es → (v : X) → lookup (λ k. is_named n (name k)) es ≡ Some v
      → subtree (47 ∷ n ++ r) (grown name rows es) ≡ map (below n) (subtree r (rows v))
  sub_in f [] b o v there = absurd (cc there)
  sub_in f (e ∷ es) b o v there =
      filter-append (λ x. is_at_or_under (47 ∷ n ++ r) x.path) (map (below (name e.0)) (rows e.1)) (grown name rows es)
      ∙ by (slice_cmp nat_cmp n (name e.0)) refl there (λ th. sub_in f es b.3 o.1 v th)
    where
      by : (c : Ordering) → slice_cmp nat_cmp n (name e.0) ≡ c
          → cond (is_eq (slice_cmp nat_cmp n (name e.0))) (Some e.1) (lookup (λ k. is_named n (name k)) es) ≡ Some v
          → (lookup (λ k. is_named n (name k)) es ≡ Some v → subtree (47 ∷ n ++ r) (grown name rows es) ≡ map (below n) (subtree r (rows v)))
          → subtree (47 ∷ n ++ r) (map (below (name e.0)) (rows e.1)) ++ subtree (47 ∷ n ++ r) (grown name rows es) ≡ map (below n) (subtree r (rows v))
      by Less is th more = absurd (cc (sym (later_none name rows n es (later_still name rows n (name e.0) es is o.0)) ∙ (rw is at th)))
      by Equal is th more =
          let here : e.1 ≡ v = some_same e.1 v (rw is at th) in
          let same : n ≡ name e.0 = name_same n (name e.0) is in
          let later : AreLater name rows n es = subst (λ (u : List ℕ). AreLater name rows u es) (sym same) o.0 in
          let inner : subtree (47 ∷ n ++ r) (map (below (name e.0)) (rows e.1)) ≡ map (below n) (subtree r (rows e.1)) =
          subst (λ (u : List ℕ). subtree (47 ∷ n ++ r) (map (below u) (rows e.1)) ≡ map (below n) (subtree r (rows e.1))) same (sub_below n r (rows e.1) some f (rows_from (rows e.1) b.2)) in
          let none : subtree (47 ∷ n ++ r) (grown name rows es) ≡ [] = filter_out (λ x. is_at_or_under (47 ∷ n ++ r) x.path) (grown name rows es) (outside_later es b.3 later) in
          rw (inner, none) (append-nil (map (below n) (subtree r (rows e.1))) ∙ ap (λ (w : X). map (below n) (subtree r (rows w))) here)
      by Greater is th more =
          let none : subtree (47 ∷ n ++ r) (map (below (name e.0)) (rows e.1)) ≡ [] =
          filter_out (λ x. is_at_or_under (47 ∷ n ++ r) x.path) (map (below (name e.0)) (rows e.1)) (outside_earlier (name e.0) (rows e.1) b.1 (rows_from (rows e.1) b.2) (turned_name (name e.0) n
          is)) in
          rw none (more (rw is at th))

  -- ## What takes the place of all at or under a path

  module _ (new : List Row) where
    pub settled_in : IsFrom r → (es : List (K × X)) → AreBranches name rows es → AreInOrder name rows es → (v w : X) → Each (λ x. IsFrom x.path) (rows v)
        → lookup (λ k. is_named n (name k)) es ≡ Some v → rows w ≡ put_at r new (without r (rows v))
        → put_at (47 ∷ n ++ r) (map (below n) new) (without (47 ∷ n ++ r) (grown name rows es)) ≡ grown name rows (set_value (λ k. is_named n (name k)) es w)
    settled_in f es b o v w from there made =
        edited name rows n (λ xs. put_at (47 ∷ n ++ r) (map (below n) new) (without (47 ∷ n ++ r) xs))
        (skips_then name rows n (without (47 ∷ n ++ r)) (put_at (47 ∷ n ++ r) (map (below n) new)) (cut_skips name rows n r some plain led) (put_skips name rows n r new plain led))
        (ends_then name rows n (without (47 ∷ n ++ r)) (put_at (47 ∷ n ++ r) (map (below n) new)) (cut_ends name rows n r some plain led) (put_ends name rows n r new plain led))
        es b o v w there
        (ap (put_at (47 ∷ n ++ r) (map (below n) new)) (without_below n r (rows v) some f from)
        ∙ put_below n r new (without r (rows v)) ∙ ap (map (below n)) (sym made))
