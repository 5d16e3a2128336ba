-- The last row of a branch, and where a walk comes to it.
use Rattle.std.proofs.Common.{◌≡◌, ◌==◌, ℕ, suc, ◌<◌, ◌-◌, List, [], ◌∷◌, ◌++◌, length, map, refl, sym, ◌∙◌, ap, subst, arith, Bool, true, false, Some, append-nil, length-append, ◌+◌}
use Rattle.std.proofs.lemmas.List.{length-map}
use Rattle.std.specs.Prelude.{slice_get, slice_index_or}
use Rattle.std.specs.declared.cmp.Ordering.{Ordering}
use Rattle.std.specs.declared.cmp.Ordering.TheVariants.{Less, Equal, Greater}
use Rattle.std.specs.Ordering.{is_lt, nat_cmp}
use Rattle.std.specs.Cmp.Lexicographic.{slice_cmp}
use Rattle.std.proofs.lemmas.Bool.Decides.{nat_tests}
use Rattle.ns_tree.specs.declared.inode.Inode.{Inode}
use Rattle.ns_tree.specs.declared.inode.Row.{Row}
use Rattle.ns_tree.specs.Path.{walk_cmp, has_slash}
use Rattle.ns_tree.specs.Space.{Each, pair}
use Rattle.ns_tree.specs.Last.{last_path}
use Rattle.ns_tree.specs.Branches.{IsLed, IsFrom, IsBranch, below, grown, AreBranches}
use Rattle.ns_tree.proofs.Below.{below_decide, name_same, turned_name, rows_from, led_from}
use Rattle.ns_tree.proofs.BelowEdits.{some_same}
use Rattle.ns_tree.proofs.UnderPaths.{prefix_cmp}
use Rattle.ns_tree.proofs.Order.{turned_less}

last_past : (xs ys : List Row) (y : Row) → last_path (xs ++ y ∷ ys) ≡ last_path (y ∷ ys)
last_past [] ys y = refl
last_past (x ∷ []) ys y = refl
last_past (x ∷ z ∷ zs) ys y = last_past (z ∷ zs) ys y

last_below : (n : List ℕ) (x : Row) (xs : List Row) → last_path (map (below n) (x ∷ xs)) ≡ 47 ∷ n ++ last_path (x ∷ xs)
last_below n x [] = refl
last_below n x (y ∷ ys) = last_below n y ys

-- the last row of a branch that is not empty comes after its own
last_more : (y : Row) (xs : List Row) → 0 < length xs → last_path (y ∷ xs) ≡ last_path xs
last_more y [] h = absurd (omega arith)
last_more y (x ∷ xs) h = refl

module _ {K X : Type 0} (name : K → List ℕ) (rows : X → List Row) where
  some_grown : (e : K × X) (es : List (K × X)) → IsBranch (rows e.1) → 0 < length (grown name rows (e ∷ es))
  some_grown e es b = subst (λ (xs : List Row). 0 < length (map (below (name e.0)) xs ++ grown name rows es)) (sym b.2) (omega arith)

  last_one : (e : K × X) → IsBranch (rows e.1) → last_path (map (below (name e.0)) (rows e.1) ++ []) ≡ 47 ∷ name e.0 ++ last_path (rows e.1)
  last_one e b =
      ap last_path (append-nil (map (below (name e.0)) (rows e.1)))
      ∙ subst (λ (xs : List Row). last_path (map (below (name e.0)) xs) ≡ 47 ∷ name e.0 ++ last_path xs) (sym b.2) (last_below (name e.0) (pair [] b.0) b.1)

  later_rows : (xs ys : List Row) → 0 < length ys → last_path (xs ++ ys) ≡ last_path ys
  later_rows xs [] h = absurd (omega arith)
  later_rows xs (y ∷ ys) h = last_past xs ys y

  -- the last row is the last one of the last entry
  pub last_entry : (es : List (K × X)) → AreBranches name rows es → (k : K) (v : X) → slice_get es (length es - 1) ≡ Some (k, v)
      → last_path (grown name rows es) ≡ 47 ∷ name k ++ last_path (rows v)
  last_entry [] b k v at = absurd (cc at)
  last_entry (e ∷ []) b k v at =
      let same : e ≡ (k, v) = some_same e (k, v) at in
      last_one e b.2 ∙ ap (λ (d : K × X). 47 ∷ name d.0 ++ last_path (rows d.1)) same
  last_entry (e ∷ f ∷ es) b k v at =
      later_rows (map (below (name e.0)) (rows e.1)) (grown name rows (f ∷ es)) (some_grown f es b.3.2) ∙ last_entry (f ∷ es) b.3 k v (sym (step es) ∙ at)
    where
      step : (ys : List (K × X)) → slice_get (e ∷ f ∷ ys) (length (e ∷ f ∷ ys) - 1) ≡ slice_get (f ∷ ys) (length (f ∷ ys) - 1)
      step ys = let k : length (e ∷ f ∷ ys) - 1 ≡ suc (length (f ∷ ys) - 1) = omega arith in ap (slice_get (e ∷ f ∷ ys)) k

-- ## Beside a path

pub before_unled : (t q : List ℕ) (b : ℕ) → (b == 47) ≡ false → walk_cmp (47 ∷ t) (b ∷ q) ≡ Less
before_unled t q b e = grind (arith, nat_tests)

pub after_name_first : (m n a q : List ℕ) → has_slash m ≡ false → has_slash n ≡ false → IsLed a → IsLed q → slice_cmp nat_cmp m n ≡ Greater → is_lt (walk_cmp (47 ∷ m ++ a) (47 ∷ n ++ q)) ≡ false
after_name_first m n a q e f la lq h = by (walk_cmp (47 ∷ m ++ a) (47 ∷ n ++ q)) refl
  where
    back : walk_cmp (47 ∷ n ++ q) (47 ∷ m ++ a) ≡ Less
    back = below_decide n m q a f e lq la (turned_name n m h)

    by : (o : Ordering) → walk_cmp (47 ∷ m ++ a) (47 ∷ n ++ q) ≡ o → is_lt (walk_cmp (47 ∷ m ++ a) (47 ∷ n ++ q)) ≡ false
    by Less is = absurd (cc (sym back ∙ turned_less (47 ∷ m ++ a) (47 ∷ n ++ q) is))
    by Equal is = rw is refl
    by Greater is = rw is refl

pub at_name : (m n a q : List ℕ) → slice_cmp nat_cmp m n ≡ Equal → walk_cmp (47 ∷ m ++ a) (47 ∷ n ++ q) ≡ walk_cmp a q
at_name m n a q h = ap (λ (w : List ℕ). walk_cmp (47 ∷ w ++ a) (47 ∷ n ++ q)) (name_same m n h) ∙ prefix_cmp (47 ∷ n) a q

last_led : (xs : List Row) → Each (λ x. IsFrom x.path) xs → IsLed (last_path xs)
last_led [] e = tt
last_led (x ∷ []) e = led_from x.path e.0
last_led (x ∷ y ∷ ys) e = last_led (y ∷ ys) e.1

-- ## The last entry of a branch

module _ {K X : Type 0} (name : K → List ℕ) (rows : X → List Row) (k : K) (v : X) where
  last_is : (es : List (K × X)) → AreBranches name rows es → slice_get es (length es - 1) ≡ Some (k, v)
      → (has_slash (name k) ≡ false) × IsBranch (rows v) × (length (rows v) < 1 + length (grown name rows es))
  last_is [] b at = absurd (cc at)
  last_is (e ∷ []) b at =
      subst (λ (d : K × X). (has_slash (name d.0) ≡ false) × IsBranch (rows d.1) × (length (rows d.1) < 1 + length (grown name rows (e ∷ [])))) (some_same e (k, v) at)
      (b.1, b.2, omega (arith, length-append (map (below (name e.0)) (rows e.1)) [], length-map (rows e.1) (below (name e.0))))
  last_is (e ∷ f ∷ es) b at =
      let rest = last_is (f ∷ es) b.3 (sym (step es) ∙ at) in
      (rest.0, rest.1, omega (arith, rest.2, length-append (map (below (name e.0)) (rows e.1)) (grown name rows (f ∷ es))))
    where
      step : (ys : List (K × X)) → slice_get (e ∷ f ∷ ys) (length (e ∷ f ∷ ys) - 1) ≡ slice_get (f ∷ ys) (length (f ∷ ys) - 1)
      step ys = let k : length (e ∷ f ∷ ys) - 1 ≡ suc (length (f ∷ ys) - 1) = omega arith in ap (slice_get (e ∷ f ∷ ys)) k

  module _ (i : Inode) (es : List (K × X)) (now : List Row) (view : pair [] i ∷ grown name rows es ≡ now) (b : AreBranches name rows es) (at : slice_get es (length es - 1) ≡ Some (k, v)) where
    ends : last_path now ≡ 47 ∷ name k ++ last_path (rows v)
    ends = sym (ap last_path view) ∙ last_more (pair [] i) (grown name rows es) some ∙ last_entry name rows es b k v at
      where
        some : 0 < length (grown name rows es)
        some = by es b at
          where
            by : (es : List (K × X)) → AreBranches name rows es → slice_get es (length es - 1) ≡ Some (k, v) → 0 < length (grown name rows es)
            by [] b at = absurd (cc at)
            by (e ∷ es) b at = some_grown name rows e es b.2

    pub last_small : length (rows v) < length now
    last_small = let sizes : length (pair [] i ∷ grown name rows es) ≡ length now = ap (λ (xs : List Row). length xs) view in omega (arith, sizes, (last_is es b at).2)

    led : IsLed (last_path (rows v))
    led = last_led (rows v) (rows_from (rows v) (last_is es b at).1)

    pub end_empty : (p : List ℕ) → p ≡ [] → false ≡ is_lt (walk_cmp (last_path now) p)
    end_empty p is = sym (ap (λ (w : List ℕ). is_lt (walk_cmp w p)) ends ∙ ap (λ (w : List ℕ). is_lt (walk_cmp (47 ∷ name k ++ last_path (rows v)) w)) is)

    pub end_unled : (p : List ℕ) → (length p == 0) ≡ false → (slice_index_or p 0 0 ≡ 47 → ⊥) → true ≡ is_lt (walk_cmp (last_path now) p)
    end_unled [] e off = absurd (cc e)
    end_unled (c ∷ cs) e off = sym (ap (λ (w : List ℕ). is_lt (walk_cmp w (c ∷ cs))) ends ∙ ap is_lt (before_unled (name k ++ last_path (rows v)) cs c (other (c == 47) refl)))
      where
        other : (z : Bool) → (c == 47) ≡ z → (c == 47) ≡ false
        other true is = absurd (off (grind (arith, nat_tests, is)))
        other false is = is

    module _ (p n r : List ℕ) (is : p ≡ 47 ∷ n ++ r) (plain : has_slash n ≡ false) (led_rest : IsLed r) where
      whole : walk_cmp (last_path now) p ≡ walk_cmp (47 ∷ name k ++ last_path (rows v)) (47 ∷ n ++ r)
      whole = ap (λ (w : List ℕ). walk_cmp w p) ends ∙ ap (walk_cmp (47 ∷ name k ++ last_path (rows v))) is

      pub end_less : slice_cmp nat_cmp (name k) n ≡ Less → true ≡ is_lt (walk_cmp (last_path now) p)
      end_less h = sym (ap is_lt (whole ∙ below_decide (name k) n (last_path (rows v)) r (last_is es b at).0 plain led led_rest h))

      pub end_equal : slice_cmp nat_cmp (name k) n ≡ Equal → is_lt (walk_cmp (last_path (rows v)) r) ≡ is_lt (walk_cmp (last_path now) p)
      end_equal h = sym (ap is_lt (whole ∙ at_name (name k) n (last_path (rows v)) r h))

      pub end_greater : slice_cmp nat_cmp (name k) n ≡ Greater → false ≡ is_lt (walk_cmp (last_path now) p)
      end_greater h = sym (ap is_lt whole ∙ after_name_first (name k) n (last_path (rows v)) r (last_is es b at).0 plain led led_rest h)
