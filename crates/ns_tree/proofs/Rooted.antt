-- The pairs of a namespace, by the rows of its root's branch.
use Rattle.std.proofs.Common.{◌≡◌, ◌==◌, ℕ, ◌<◌, List, [], ◌∷◌, ◌++◌, length, filter, refl, sym, ◌∙◌, ap, arith, Bool, true, false, cond, None}
use Rattle.std.specs.Prelude.{not}
use Rattle.std.specs.Ordering.{is_lt}
use Rattle.std.proofs.lemmas.Bool.Decides.{nat_tests}
use Rattle.ns_tree.specs.declared.inode.Inode.{Inode}
use Rattle.ns_tree.specs.declared.inode.Row.{Row}
use Rattle.ns_tree.specs.Path.{walk_cmp, same_text, stem, path_of_stem, is_at_or_under}
use Rattle.ns_tree.specs.Space.{Each, pair, find, change_at, put_at, without, subtree, pairs_before, pairs_after}
use Rattle.ns_tree.specs.Branches.{IsLed, IsFrom, at_root, rooted}

-- texts beside the path of a row
pub same_root : (p a : List ℕ) → 0 < length p → IsLed p → IsFrom a → same_text p (path_of_stem a) ≡ same_text (stem p) a
same_root [] a h l f = absurd (omega arith)
same_root (b ∷ []) [] h l f = grind (arith, nat_tests)
same_root (b ∷ []) (x ∷ []) h l f = absurd (omega (arith, f.1))
same_root (b ∷ []) (x ∷ y ∷ ys) h l f = grind (arith, nat_tests)
same_root (b ∷ c ∷ cs) [] h l f = grind (arith, nat_tests)
same_root (b ∷ c ∷ cs) (x ∷ xs) h l f = refl

order_from : (p a : List ℕ) → 0 < length p → IsLed p → IsFrom a → walk_cmp p (path_of_stem a) ≡ walk_cmp (stem p) a
order_from [] a h l f = absurd (omega arith)
order_from (b ∷ []) [] h l f = grind (arith, nat_tests)
order_from (b ∷ []) (x ∷ []) h l f = absurd (omega (arith, f.1))
order_from (b ∷ []) (x ∷ y ∷ ys) h l f = let first = f.0 in grind (arith, nat_tests)
order_from (b ∷ c ∷ cs) [] h l f = grind (arith, nat_tests)
order_from (b ∷ c ∷ cs) (x ∷ xs) h l f = refl

order_to : (p a : List ℕ) → 0 < length p → IsLed p → IsFrom a → walk_cmp (path_of_stem a) p ≡ walk_cmp a (stem p)
order_to [] a h l f = absurd (omega arith)
order_to (b ∷ []) [] h l f = grind (arith, nat_tests)
order_to (b ∷ []) (x ∷ []) h l f = absurd (omega (arith, f.1))
order_to (b ∷ []) (x ∷ y ∷ ys) h l f = let first = f.0 in grind (arith, nat_tests)
order_to (b ∷ c ∷ cs) [] h l f = grind (arith, nat_tests)
order_to (b ∷ c ∷ cs) (x ∷ xs) h l f = refl

stem_stem : (p : List ℕ) → stem (stem p) ≡ stem p
stem_stem [] = refl
stem_stem (b ∷ []) = by (b == 47) refl
  where
    by : (z : Bool) → (b == 47) ≡ z → stem (cond z [] (b ∷ [])) ≡ cond z [] (b ∷ [])
    by true is = refl
    by false is = rw is refl
stem_stem (b ∷ c ∷ bs) = refl

pub stem_root : (a : List ℕ) → IsFrom a → stem (path_of_stem a) ≡ stem a
stem_root [] f = refl
stem_root (x ∷ xs) f = refl

under_root : (p a : List ℕ) → 0 < length p → IsLed p → IsFrom a → is_at_or_under p (path_of_stem a) ≡ is_at_or_under (stem p) a
under_root p a h l f = rw (same_root p a h l f, stem_root a f, stem_stem p) refl

-- a text with no first `/` is no path of a row
abbrev pub IsUnled : List ℕ → Type 0
IsUnled [] = Unit {0}
IsUnled (b ∷ bs) = (b == 47) ≡ false

other_unled : (p a : List ℕ) → IsUnled p → IsFrom a → same_text p (path_of_stem a) ≡ false
other_unled [] [] u f = refl
other_unled [] (x ∷ xs) u f = refl
other_unled (b ∷ bs) [] u f = rw u refl
other_unled (b ∷ bs) (x ∷ xs) u f = rw (f.0, u) refl

pub find_unled : (p : List ℕ) (xs : List Row) → IsUnled p → Each (λ x. IsFrom x.path) xs → find p (rooted xs) ≡ None
find_unled p [] u e = refl
find_unled p (x ∷ xs) u e = rw (other_unled p x.path u e.0) (find_unled p xs u e.1)

pub change_unled : (p : List ℕ) (f : Inode → Inode) (xs : List Row) → IsUnled p → Each (λ x. IsFrom x.path) xs → change_at p f (rooted xs) ≡ rooted xs
change_unled p f [] u e = refl
change_unled p f (x ∷ xs) u e = rw (other_unled p x.path u e.0) (ap (λ (ys : List Row). at_root x ∷ ys) (change_unled p f xs u e.1))

-- the stem of a path goes from the root
pub led_stem : (p : List ℕ) → IsLed p → IsLed (stem p)
led_stem [] l = tt
led_stem (b ∷ []) l = let e : b ≡ 47 = l in rw e tt
led_stem (b ∷ c ∷ bs) l = l

pub parts_rooted : (xs ys : List Row) → rooted (xs ++ ys) ≡ rooted xs ++ rooted ys
parts_rooted [] ys = refl
parts_rooted (x ∷ xs) ys = ap (λ (zs : List Row). at_root x ∷ zs) (parts_rooted xs ys)

-- ## What is found, changed, put and cut

module _ (p : List ℕ) (some : 0 < length p) (led : IsLed p) where
  pub find_rooted : (xs : List Row) → Each (λ x. IsFrom x.path) xs → find p (rooted xs) ≡ find (stem p) xs
  find_rooted [] e = refl
  find_rooted (x ∷ xs) e = rw (same_root p x.path some led e.0, find_rooted xs e.1) refl

  pub change_rooted : (f : Inode → Inode) (xs : List Row) → Each (λ x. IsFrom x.path) xs → change_at p f (rooted xs) ≡ rooted (change_at (stem p) f xs)
  change_rooted f [] e = refl
  change_rooted f (x ∷ xs) e = rw (same_root p x.path some led e.0, change_rooted f xs e.1) (by (same_text (stem p) x.path))
    where
      by : (z : Bool) → cond z (pair (path_of_stem x.path) (f x.inode)) (at_root x) ∷ rooted (change_at (stem p) f xs)
          ≡ at_root (cond z (pair x.path (f x.inode)) x) ∷ rooted (change_at (stem p) f xs)
      by true = refl
      by false = refl

  filter_rooted : (f g : Row → Bool) → ((x : Row) → IsFrom x.path → f (at_root x) ≡ g x) → (xs : List Row) → Each (λ x. IsFrom x.path) xs → filter f (rooted xs) ≡ rooted (filter g xs)
  filter_rooted f g h [] e = refl
  filter_rooted f g h (x ∷ xs) e = rw (h x e.0, filter_rooted f g h xs e.1) (by (g x))
    where
      by : (z : Bool) → cond z (at_root x ∷ rooted (filter g xs)) (rooted (filter g xs)) ≡ rooted (cond z (x ∷ filter g xs) (filter g xs))
      by true = refl
      by false = refl

  pub put_rooted : (new xs : List Row) → Each (λ x. IsFrom x.path) xs → put_at p (rooted new) (rooted xs) ≡ rooted (put_at (stem p) new xs)
  put_rooted new xs e =
      let before = filter_rooted (λ x. is_lt (walk_cmp x.path p)) (λ x. is_lt (walk_cmp x.path (stem p))) (λ x f. ap is_lt (order_to p x.path some led f)) xs e in
      let after = filter_rooted (λ x. is_lt (walk_cmp p x.path)) (λ x. is_lt (walk_cmp (stem p) x.path)) (λ x f. ap is_lt (order_from p x.path some led f)) xs e in
      rw (before, after) (sym (parts_rooted (pairs_before (stem p) xs ++ new) (pairs_after (stem p) xs)
      ∙ ap (λ (ys : List Row). ys ++ rooted (pairs_after (stem p) xs)) (parts_rooted (pairs_before (stem p) xs) new)))

  pub without_rooted : (xs : List Row) → Each (λ x. IsFrom x.path) xs → without p (rooted xs) ≡ rooted (without (stem p) xs)
  without_rooted xs e = filter_rooted (λ x. not (is_at_or_under p x.path)) (λ x. not (is_at_or_under (stem p) x.path)) (λ x f. ap not (under_root p x.path some led f)) xs e

  pub sub_rooted : (xs : List Row) → Each (λ x. IsFrom x.path) xs → subtree p (rooted xs) ≡ rooted (subtree (stem p) xs)
  sub_rooted xs e = filter_rooted (λ x. is_at_or_under p x.path) (λ x. is_at_or_under (stem p) x.path) (λ x f. under_root p x.path some led f) xs e
