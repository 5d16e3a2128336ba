-- What stands at or under a path, by the rows of the branch there.
use Rattle.std.proofs.Common.{◌≡◌, ℕ, ◌<◌, ◌+◌, List, [], ◌∷◌, ◌++◌, length, map, filter, drop, refl, ap, arith, Bool, true, false, cond, Some, length-append, add-one, ◌&&◌}
use Rattle.std.specs.Prelude.{not, ◌||◌}
use Rattle.ns_tree.specs.declared.inode.Row.{Row}
use Rattle.ns_tree.specs.Path.{same_text, has_slash, is_under, is_right_under, part_under}
use Rattle.ns_tree.specs.Space.{Each, find, subtree, has_under, names_under}
use Rattle.ns_tree.specs.Branches.{IsFrom}
use Rattle.ns_tree.proofs.BelowCuts.{stem_long, stem_from, begins_prefix}

-- ## A part tells what is under its path

pub part_has_under : (p : List ℕ) (xs : List Row) → has_under p xs ≡ has_under p (subtree p xs)
part_has_under p [] = refl
part_has_under p (x ∷ xs) = by (same_text p x.path) (is_under p x.path) refl (part_has_under p xs)
  where
    by : (a b : Bool) → is_under p x.path ≡ b → has_under p xs ≡ has_under p (subtree p xs)
        → (b || has_under p xs) ≡ has_under p (cond (a || b) (x ∷ subtree p xs) (subtree p xs))
    by true b is rest = rw is (ap (λ (z : Bool). b || z) rest)
    by false true is rest = rw is refl
    by false false is rest = rest

pub part_right_under : (p : List ℕ) (xs : List Row) → filter (λ x. is_right_under p x.path) xs ≡ filter (λ x. is_right_under p x.path) (subtree p xs)
part_right_under p [] = refl
part_right_under p (x ∷ xs) = by (same_text p x.path) (is_under p x.path) refl (not (has_slash (part_under p x.path))) refl (part_right_under p xs)
  where
    by : (a b : Bool) → is_under p x.path ≡ b → (c : Bool) → not (has_slash (part_under p x.path)) ≡ c
        → filter (λ y. is_right_under p y.path) xs ≡ filter (λ y. is_right_under p y.path) (subtree p xs)
        → cond (b && c) (x ∷ filter (λ y. is_right_under p y.path) xs) (filter (λ y. is_right_under p y.path) xs)
        ≡ filter (λ y. is_right_under p y.path) (cond (a || b) (x ∷ subtree p xs) (subtree p xs))
    by true b is c plain rest = rw (is, plain) (ap (λ (ys : List Row). cond (b && c) (x ∷ ys) ys) rest)
    by false true is c plain rest = rw (is, plain) (ap (λ (ys : List Row). cond c (x ∷ ys) ys) rest)
    by false false is c plain rest = rest

pub part_found : (p : List ℕ) (xs : List Row) → find p xs ≡ find p (subtree p xs)
part_found p [] = refl
part_found p (x ∷ xs) = by (same_text p x.path) refl (is_under p x.path) (part_found p xs)
  where
    by : (a : Bool) → same_text p x.path ≡ a → (b : Bool) → find p xs ≡ find p (subtree p xs)
        → cond a (Some x.inode) (find p xs) ≡ find p (cond (a || b) (x ∷ subtree p xs) (subtree p xs))
    by true is b rest = rw is refl
    by false is true rest = rw is rest
    by false is false rest = rest

-- ## Rows by other paths

module _ (p : List ℕ) (h : Row → Row) (under : (x : Row) → IsFrom x.path → is_under p (h x).path ≡ is_under [] x.path)
    (part : (x : Row) → IsFrom x.path → part_under p (h x).path ≡ part_under [] x.path) where
  pub has_under_by : (xs : List Row) → Each (λ x. IsFrom x.path) xs → has_under p (map h xs) ≡ has_under [] xs
  has_under_by [] e = refl
  has_under_by (x ∷ xs) e = rw (under x e.0, has_under_by xs e.1) refl

  pub names_by : (xs : List Row) → Each (λ x. IsFrom x.path) xs → names_under p (map h xs) ≡ names_under [] xs
  names_by [] e = refl
  names_by (x ∷ xs) e = rw (under x e.0, part x e.0) (by (is_right_under [] x.path) (names_by xs e.1))
    where
      by : (z : Bool) → names_under p (map h xs) ≡ names_under [] xs
          → map (λ y. part_under p y.path) (cond z (h x ∷ filter (λ y. is_right_under p y.path) (map h xs)) (filter (λ y. is_right_under p y.path) (map h xs)))
          ≡ map (λ y. part_under [] y.path) (cond z (x ∷ filter (λ y. is_right_under [] y.path) xs) (filter (λ y. is_right_under [] y.path) xs))
      by true rest = rw (part x e.0, rest) refl
      by false rest = rest

drop_past : (p a : List ℕ) → drop (length p + 1) (p ++ a) ≡ drop 1 a
drop_past [] a = refl
drop_past (x ∷ xs) a = rw add-one (let rest : drop (length xs + 1) (xs ++ a) ≡ drop 1 a = drop_past xs a in rw add-one at rest)

module _ (p : List ℕ) (long : 1 < length p) where
  pub under_path : (x : Row) → IsFrom x.path → is_under p (p ++ x.path) ≡ is_under [] x.path
  under_path x f =
      let more = length-append p x.path in
      rw (stem_long p long, stem_long (p ++ x.path) (omega (arith, long, more)), stem_from x.path f) (begins_prefix p (47 ∷ []) x.path)

  pub part_path : (x : Row) → IsFrom x.path → part_under p (p ++ x.path) ≡ part_under [] x.path
  part_path x f = rw (stem_long p long) (drop_past p x.path)
