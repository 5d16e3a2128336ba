-- What is told of all rows of a branch, entry by entry.
use Rattle.std.proofs.Common.{◌≡◌, take, ◌==◌, ℕ, ◌<◌, ◌≤◌, ◌+◌, List, [], ◌∷◌, ◌++◌, length, map, refl, sym, ◌∙◌, ap, subst}
use Rattle.std.proofs.Common.{arith, Bool, true, false, cond, append_assoc, append-nil, length-append, max}
use Rattle.std.specs.Prelude.{◌||◌, nat_lt}
use Rattle.std.specs.declared.cmp.Ordering.{Ordering}
use Rattle.std.specs.declared.cmp.Ordering.TheVariants.{Less, Equal, Greater}
use Rattle.std.specs.Ordering.{is_lt, nat_cmp, ord_max}
use Rattle.std.proofs.Math.Seq.{take-append_seam}
use Rattle.std.proofs.lemmas.List.{length-map}
use Rattle.std.proofs.lemmas.Bool.Decides.{nat_tests}
use Rattle.ns_tree.specs.declared.inode.Inode.{Inode}
use Rattle.ns_tree.specs.declared.inode.Row.{Row}
use Rattle.ns_tree.specs.Path.{has_slash, is_under}
use Rattle.ns_tree.specs.Space.{Each, pair, has_under, names_under, longest_of}
use Rattle.ns_tree.specs.Branches.{IsBelow, IsBranch, below, from_path, grown, AreBranches, at_root, rooted}
use Rattle.ns_tree.proofs.Rooted.{parts_rooted}

-- the rows of a first entry and of the rest
module _ {K X : Type 0} (name : K → List ℕ) (rows : X → List Row) (e : K × X) (es : List (K × X)) where
  pub grown_count : length (grown name rows (e ∷ es)) ≡ length (rows e.1) + length (grown name rows es)
  grown_count = omega (arith, length-append (map (below (name e.0)) (rows e.1)) (grown name rows es), length-map (rows e.1) (below (name e.0)))

-- ## The longest path

pub longest_more : (x : Row) (xs : List Row) → longest_of (x ∷ xs) ≡ max (length x.path) (longest_of xs)
longest_more x xs = by (nat_lt (length x.path) (longest_of xs)) refl
  where
    by : (z : Bool) → nat_lt (length x.path) (longest_of xs) ≡ z → cond z (longest_of xs) (length x.path) ≡ max (length x.path) (longest_of xs)
    by true is = let less : length x.path < longest_of xs = grind (arith, nat_tests, is) in omega (arith, less)
    by false is = let most : longest_of xs ≤ length x.path = grind (arith, nat_tests, is) in omega (arith, most)

longest_parts : (xs ys : List Row) → longest_of (xs ++ ys) ≡ max (longest_of xs) (longest_of ys)
longest_parts [] ys = omega arith
longest_parts (x ∷ xs) ys = omega (arith, longest_more x (xs ++ ys), longest_more x xs, longest_parts xs ys)

pub longest_below : (n : List ℕ) (x : Row) (xs : List Row) → longest_of (map (below n) (x ∷ xs)) ≡ 1 + length n + longest_of (x ∷ xs)
longest_below n x [] = omega (arith, longest_more (below n x) [], longest_more x [], length-append n x.path)
longest_below n x (y ∷ ys) = omega (arith, longest_more (below n x) (map (below n) (y ∷ ys)), longest_more x (y ∷ ys), length-append n x.path, longest_below n y ys)

pub longest_entry : (n : List ℕ) (xs ys : List Row) → IsBranch xs → longest_of (map (below n) xs ++ ys) ≡ max (1 + length n + longest_of xs) (longest_of ys)
longest_entry n [] ys b = absurd (let sizes = ap (λ (zs : List Row). length zs) b.2 in omega (arith, sizes))
longest_entry n (x ∷ xs) ys b = omega (arith, longest_parts (map (below n) (x ∷ xs)) ys, longest_below n x xs)

-- ## What is right under a branch

-- a row below a row of a branch is not right under that
deep : (n a : List ℕ) → 0 < length n → IsBelow a → has_slash (n ++ a) ≡ true
deep [] a some b = absurd (omega arith)
deep (c ∷ []) a some b = by (c == 47)
  where
    by : (z : Bool) → (z || has_slash a) ≡ true
    by true = refl
    by false = rw b.1 refl
deep (c ∷ d ∷ ds) a some b = by (c == 47) (deep (d ∷ ds) a (omega arith) b)
  where
    by : (z : Bool) → has_slash ((d ∷ ds) ++ a) ≡ true → (z || has_slash ((d ∷ ds) ++ a)) ≡ true
    by true rest = refl
    by false rest = rest

under_own : (n a : List ℕ) → 0 < length n → is_under [] (47 ∷ n ++ a) ≡ true
under_own [] a some = absurd (omega arith)
under_own (c ∷ cs) a some = refl

under_name : (n : List ℕ) → 0 < length n → is_under [] (47 ∷ n) ≡ true
under_name [] some = absurd (omega arith)
under_name (c ∷ cs) some = refl

names_deep : (n : List ℕ) (xs ys : List Row) → 0 < length n → Each (λ x. IsBelow x.path) xs → names_under [] (map (below n) xs ++ ys) ≡ names_under [] ys
names_deep n [] ys some e = refl
names_deep n (x ∷ xs) ys some e = rw (deep n x.path some e.0, under_own n x.path some) (names_deep n xs ys some e.1)

-- the names right under a branch are those of its entries
pub names_entry : (n : List ℕ) (xs ys : List Row) → 0 < length n → has_slash n ≡ false → IsBranch xs → names_under [] (map (below n) xs ++ ys) ≡ n ∷ names_under [] ys
names_entry n xs ys some plain b =
    ap (λ (zs : List Row). names_under [] (map (below n) zs ++ ys)) b.2
    ∙ rw (append-nil n, under_name n some, plain) (ap (λ (ns : List (List ℕ)). n ∷ ns) (names_deep n b.1 ys some b.3))

pub under_entry : (n : List ℕ) (xs ys : List Row) → 0 < length n → IsBranch xs → has_under [] (map (below n) xs ++ ys) ≡ true
under_entry n xs ys some b = ap (λ (zs : List Row). has_under [] (map (below n) zs ++ ys)) b.2 ∙ rw (under_own n [] some) refl

-- ## Rows by whole paths

path_parts : (p n : List ℕ) (xs ys : List Row) → map (from_path p) (map (below n) xs ++ ys) ≡ map (from_path (p ++ 47 ∷ n)) xs ++ map (from_path p) ys
path_parts p n [] ys = refl
path_parts p n (x ∷ xs) ys =
    ap (λ (w : List ℕ). pair w x.inode ∷ map (from_path p) (map (below n) xs ++ ys)) (sym (append_assoc p (47 ∷ n) x.path))
    ∙ ap (λ (zs : List Row). pair ((p ++ 47 ∷ n) ++ x.path) x.inode ∷ zs) (path_parts p n xs ys)

pub walk_entry : (p n : List ℕ) (xs ys : List Row) → rooted (map (from_path p) (map (below n) xs ++ ys)) ≡ rooted (map (from_path (p ++ 47 ∷ n)) xs) ++ rooted (map (from_path p) ys)
walk_entry p n xs ys = ap rooted (path_parts p n xs ys) ∙ parts_rooted (map (from_path (p ++ 47 ∷ n)) xs) (map (from_path p) ys)

-- ## The first of the entries that are left

pub max_is : (a b : ℕ) → ord_max nat_cmp a b ≡ max a b
max_is a b = by (nat_cmp b a) refl
  where
    by : (o : Ordering) → nat_cmp b a ≡ o → cond (is_lt o) a b ≡ max a b
    by Less is = let less : b < a = grind (arith, nat_tests, is) in omega (arith, less)
    by Equal is = let same : b ≡ a = grind (arith, nat_tests, is) in omega (arith, same)
    by Greater is = let more : a < b = grind (arith, nat_tests, is) in omega (arith, more)

pub longest_most : (m : ℕ) (xs : List Row) → Each (λ x. length x.path ≤ m) xs → longest_of xs ≤ m
longest_most m [] e = omega arith
longest_most m (x ∷ xs) e = omega (arith, longest_more x xs, longest_most m xs e.1, e.0)

short_below : (m : ℕ) (n : List ℕ) (xs ys : List Row) → Each (λ x. length x.path ≤ m) (map (below n) xs ++ ys) → Each (λ x. length x.path ≤ m) xs × Each (λ x. length x.path ≤ m) ys
short_below m n [] ys e = (tt, e)
short_below m n (x ∷ xs) ys e = let rest = short_below m n xs ys e.1 in ((omega (arith, length-append n x.path, e.0), rest.0), rest.1)

pub path_back : (p b n e w t : List ℕ) (k : ℕ) → b ≡ p ++ 47 ∷ [] → e ≡ b ++ n → w ≡ e → t ≡ take k w → k ≡ length p → t ≡ p
path_back p b n e w t k slash name same cut size =
    cut ∙ ap (λ (i : ℕ). take i w) size
    ∙ ap (take (length p)) (same ∙ name ∙ ap (λ (u : List ℕ). u ++ n) slash ∙ append_assoc p (47 ∷ []) n)
    ∙ take-append_seam p (47 ∷ n)

module _ {K X : Type 0} (name : K → List ℕ) (rows : X → List Row) (left : List (K × X)) (k : K) (v : X) (more : List (K × X)) (is : left ≡ (k, v) ∷ more) where
  first : grown name rows left ≡ map (below (name k)) (rows v) ++ grown name rows more
  first = ap (λ (es : List (K × X)). grown name rows es) is

  branches : AreBranches name rows left → AreBranches name rows ((k, v) ∷ more)
  branches b = subst (λ (es : List (K × X)). AreBranches name rows es) is b

  pub more_branches : AreBranches name rows left → AreBranches name rows more
  more_branches b = (branches b).3

  pub left_count : length (grown name rows left) ≡ length (rows v) + length (grown name rows more)
  left_count = ap (λ (es : List (K × X)). length (grown name rows es)) is ∙ grown_count name rows (k, v) more

  pub left_names : (ns new whole : List (List ℕ)) (n : List ℕ) → AreBranches name rows left → n ≡ name k → new ≡ ns ++ n ∷ []
      → ns ++ names_under [] (grown name rows left) ≡ whole → new ++ names_under [] (grown name rows more) ≡ whole
  left_names ns new whole n b named pushed h =
      let c = branches b in
      ap (λ (ms : List (List ℕ)). ms ++ names_under [] (grown name rows more)) (pushed ∙ ap (λ (m : List ℕ). ns ++ m ∷ []) named)
      ∙ append_assoc ns (name k ∷ []) (names_under [] (grown name rows more))
      ∙ ap (λ (ms : List (List ℕ)). ns ++ ms) (sym (ap (names_under []) first ∙ names_entry (name k) (rows v) (grown name rows more) c.0 c.1 c.2))
      ∙ h

  pub left_short : (m : ℕ) → Each (λ x. length x.path ≤ m) (grown name rows left) → Each (λ x. length x.path ≤ m) (rows v) × Each (λ x. length x.path ≤ m) (grown name rows more)
  left_short m e = short_below m (name k) (rows v) (grown name rows more) (subst (λ (xs : List Row). Each (λ x. length x.path ≤ m) xs) first e)

  left_longest : AreBranches name rows left → longest_of (grown name rows left) ≡ max (1 + length (name k) + longest_of (rows v)) (longest_of (grown name rows more))
  left_longest b = ap longest_of first ∙ longest_entry (name k) (rows v) (grown name rows more) (branches b).2

  pub left_fits : (m : ℕ) → AreBranches name rows left → Each (λ x. length x.path ≤ m) (grown name rows left) → 1 + length (name k) + longest_of (rows v) ≤ m
  left_fits m b e = omega (arith, left_longest b, longest_most m (grown name rows left) e)

  pub longest_step : (l n u new whole : ℕ) → AreBranches name rows left → n ≡ length (name k) → u ≡ longest_of (rows v) → new ≡ ord_max nat_cmp l (1 + n + u)
      → max l (longest_of (grown name rows left)) ≡ whole → max new (longest_of (grown name rows more)) ≡ whole
  longest_step l n u new whole b size longest made h = omega (arith, left_longest b, size, longest, made, max_is l (1 + n + u), h)

  pub walk_step : (p q : List ℕ) (rs new whole : List Row) → q ≡ p ++ 47 ∷ name k → new ≡ rs ++ rooted (map (from_path q) (rows v))
      → rs ++ rooted (map (from_path p) (grown name rows left)) ≡ whole → new ++ rooted (map (from_path p) (grown name rows more)) ≡ whole
  walk_step p q rs new whole at made h =
      ap (λ (xs : List Row). xs ++ rooted (map (from_path p) (grown name rows more))) (made ∙ ap (λ (w : List ℕ). rs ++ rooted (map (from_path w) (rows v))) at)
      ∙ append_assoc rs (rooted (map (from_path (p ++ 47 ∷ name k)) (rows v))) (rooted (map (from_path p) (grown name rows more)))
      ∙ ap (λ (xs : List Row). rs ++ xs) (sym (ap (λ (xs : List Row). rooted (map (from_path p) xs)) first ∙ walk_entry p (name k) (rows v) (grown name rows more)))
      ∙ h

-- whether something stands below a branch
pub kids_under : {K X : Type 0} (name : K → List ℕ) (rows : X → List Row) (i : Inode) (es : List (K × X)) → AreBranches name rows es → nat_lt 0 (length es) ≡ has_under [] (pair [] i ∷ grown name rows
    es)
kids_under name rows i [] b = refl
kids_under name rows i (e ∷ es) b = let some : nat_lt 0 (length (e ∷ es)) ≡ true = grind (arith, nat_tests) in some ∙ sym (under_entry (name e.0) (rows e.1) (grown name rows es) b.0 b.2)
