-- What stands at or under a path, told by the branch there.
use Rattle.std.proofs.Common.{◌≡◌, ◌==◌, ℕ, ◌<◌, ◌≤◌, ◌+◌, List, [], ◌∷◌, ◌++◌, length, map, drop, refl, sym, ◌∙◌, ap, subst, arith, Bool, true, false, cond, Some, append-nil, length-append, max}
use Rattle.std.proofs.lemmas.Bool.Decides.{nat_tests}
use Rattle.ns_tree.specs.declared.inode.Row.{Row}
use Rattle.ns_tree.specs.Path.{same_text, begins_with, stem, path_of_stem, is_under, part_under}
use Rattle.ns_tree.specs.Space.{Each, pair, find, subtree, has_under, names_under, children_of, is_dir_there, longest_of}
use Rattle.ns_tree.specs.Last.{last_path}
use Rattle.ns_tree.specs.Branches.{IsFrom, IsBelow, IsBranch, from_path, rooted}
use Rattle.ns_tree.proofs.Tails.{same_prefix}
use Rattle.ns_tree.proofs.Below.{rows_from}
use Rattle.ns_tree.proofs.BelowParts.{own_path}
use Rattle.ns_tree.proofs.Moves.{rooted_path}
use Rattle.ns_tree.proofs.Walks.{each_filter}
use Rattle.ns_tree.proofs.Folds.{longest_more, longest_below}
use Rattle.ns_tree.proofs.Parts.{part_has_under, part_right_under, part_found, has_under_by, names_by, under_path, part_path}
use Rattle.ns_tree.proofs.Rooted.{same_root, stem_root}

-- ## A row by its whole path

under_whole : (p : List ℕ) → 0 < length p → IsFrom (stem p) → (x : Row) → IsFrom x.path → is_under p (path_of_stem (stem p ++ x.path)) ≡ is_under [] x.path
under_whole [] some from x f = absurd (omega arith)
under_whole (b ∷ []) some from x f = by (b == 47) from
  where
    by : (z : Bool) → IsFrom (cond z [] (b ∷ []))
        → begins_with (cond z [] (b ∷ []) ++ 47 ∷ []) (stem (path_of_stem (cond z [] (b ∷ []) ++ x.path))) ≡ begins_with (47 ∷ []) (stem x.path)
    by true from = ap (begins_with (47 ∷ [])) (stem_root x.path f)
    by false from = absurd (omega (arith, from.1))
under_whole (b ∷ c ∷ bs) some from x f = under_path (b ∷ c ∷ bs) (omega arith) x f

drop_root : (a : List ℕ) → drop 1 (path_of_stem a) ≡ drop 1 a
drop_root [] = refl
drop_root (x ∷ xs) = refl

part_whole : (p : List ℕ) → 0 < length p → IsFrom (stem p) → (x : Row) → IsFrom x.path → part_under p (path_of_stem (stem p ++ x.path)) ≡ part_under [] x.path
part_whole [] some from x f = absurd (omega arith)
part_whole (b ∷ []) some from x f = by (b == 47) from
  where
    by : (z : Bool) → IsFrom (cond z [] (b ∷ [])) → drop (length (cond z [] (b ∷ [])) + 1) (path_of_stem (cond z [] (b ∷ []) ++ x.path)) ≡ drop 1 x.path
    by true from = drop_root x.path
    by false from = absurd (omega (arith, from.1))
part_whole (b ∷ c ∷ bs) some from x f = part_path (b ∷ c ∷ bs) (omega arith) x f

same_whole : (p : List ℕ) → 0 < length p → IsFrom (stem p) → (x : Row) → IsFrom x.path → same_text p (path_of_stem (stem p ++ x.path)) ≡ same_text [] x.path
same_whole [] some from x f = absurd (omega arith)
same_whole (b ∷ []) some from x f = by (b == 47) refl from
  where
    by : (z : Bool) → (b == 47) ≡ z → IsFrom (cond z [] (b ∷ [])) → same_text (b ∷ []) (path_of_stem (cond z [] (b ∷ []) ++ x.path)) ≡ same_text [] x.path
    by true is from = same_root (b ∷ []) x.path (omega arith) (slash is) f ∙ ap (λ (z : Bool). same_text (cond z [] (b ∷ [])) x.path) is
      where
        slash : (b == 47) ≡ true → b ≡ 47
        slash e = grind (arith, nat_tests)
    by false is from = absurd (omega (arith, from.1))
same_whole (b ∷ c ∷ bs) some from x f = ap (λ (w : List ℕ). same_text w ((b ∷ c ∷ bs) ++ x.path)) (sym (append-nil (b ∷ c ∷ bs))) ∙ same_prefix (b ∷ c ∷ bs) [] x.path

map_both : (s : List ℕ) (xs : List Row) → rooted (map (from_path s) xs) ≡ map (λ x. pair (path_of_stem (s ++ x.path)) x.inode) xs
map_both s [] = refl
map_both s (x ∷ xs) = ap (λ (ys : List Row). pair (path_of_stem (s ++ x.path)) x.inode ∷ ys) (map_both s xs)

-- ## What is told of all rows

rooted_below : (xs : List Row) → Each (λ x. IsBelow x.path) xs → rooted xs ≡ xs
rooted_below [] e = refl
rooted_below (x ∷ xs) e = ap (λ (w : List ℕ). pair w x.inode ∷ rooted xs) (own x.path e.0) ∙ ap (λ (ys : List Row). x ∷ ys) (rooted_below xs e.1)
  where
    own : (a : List ℕ) → IsBelow a → path_of_stem a ≡ a
    own a b = rw b.1 refl

longest_root : (xs : List Row) → IsBranch xs → longest_of (rooted xs) ≡ max 1 (longest_of xs)
longest_root xs b =
    let whole : longest_of (rooted xs) ≡ longest_of (pair (47 ∷ []) b.0 ∷ b.1) =
    ap (λ (ys : List Row). longest_of (rooted ys)) b.2 ∙ ap (λ (ys : List Row). longest_of (pair (47 ∷ []) b.0 ∷ ys)) (rooted_below b.1 b.3) in
    let own : longest_of xs ≡ longest_of (pair [] b.0 ∷ b.1) = ap longest_of b.2 in
    omega (arith, whole, own, longest_more (pair (47 ∷ []) b.0) b.1, longest_more (pair [] b.0) b.1)

longest_long : (n : List ℕ) (xs : List Row) → IsBranch xs → longest_of (map (from_path (47 ∷ n)) xs) ≡ 1 + length n + longest_of xs
longest_long n xs b =
    ap (λ (ys : List Row). longest_of (map (from_path (47 ∷ n)) ys)) b.2 ∙ longest_below n (pair [] b.0) b.1 ∙ ap (λ (ys : List Row). 1 + length n + longest_of ys) (sym b.2)

longest_whole : (p : List ℕ) → 0 < length p → IsFrom (stem p) → (xs : List Row) → IsBranch xs
    → longest_of (rooted (map (from_path (stem p)) xs)) ≡ max (length p) (length (stem p) + longest_of xs)
longest_whole [] some from xs b = absurd (omega arith)
longest_whole (c ∷ []) some from xs b = by (c == 47) from
  where
    by : (z : Bool) → IsFrom (cond z [] (c ∷ [])) → longest_of (rooted (map (from_path (cond z [] (c ∷ []))) xs)) ≡ max 1 (length (cond z [] (c ∷ [])) + longest_of xs)
    by true from = let same : max 1 (longest_of xs) ≡ max 1 (0 + longest_of xs) = omega arith in ap (λ (ys : List Row). longest_of (rooted ys)) (own_path xs) ∙ longest_root xs b ∙ same
    by false from = absurd (omega (arith, from.1))
longest_whole (c ∷ d ∷ ds) some from xs b =
    let whole = ap longest_of (rooted_path (c ∷ d ∷ ds) xs (omega arith)) in
    let first : longest_of (map (from_path (c ∷ d ∷ ds)) xs) ≡ longest_of (map (from_path (47 ∷ d ∷ ds)) xs) = ap (λ (n : ℕ). longest_of (map (from_path (n ∷ d ∷ ds)) xs)) from.0 in
    omega (arith, whole, first, longest_long (d ∷ ds) xs b)

short_path : (s a : List ℕ) → length a ≤ length (path_of_stem (s ++ a))
short_path [] [] = omega arith
short_path [] (x ∷ xs) = omega arith
short_path (b ∷ bs) a = omega (arith, length-append bs a)

short_part : (s : List ℕ) (xs : List Row) → Each (λ x. length x.path ≤ 1000) (rooted (map (from_path s) xs)) → Each (λ x. length x.path ≤ 1000) xs
short_part s [] e = tt
short_part s (x ∷ xs) e = (omega (arith, short_path s x.path, e.0), short_part s xs e.1)

module _ (p : List ℕ) (some : 0 < length p) (from : IsFrom (stem p)) (now part : List Row) (b : IsBranch part) (is : subtree p now ≡ rooted (map (from_path (stem p)) part)) where
  whole : subtree p now ≡ map (λ x. pair (path_of_stem (stem p ++ x.path)) x.inode) part
  whole = is ∙ map_both (stem p) part

  pub stands_under : has_under p now ≡ has_under [] part
  stands_under =
      part_has_under p now ∙ ap (has_under p) whole
      ∙ has_under_by p (λ x. pair (path_of_stem (stem p ++ x.path)) x.inode) (under_whole p some from) (part_whole p some from) part (rows_from part b)

  pub stands_names : names_under p now ≡ names_under [] part
  stands_names =
      ap (map (λ (x : Row). part_under p x.path)) (part_right_under p now) ∙ ap (names_under p) whole
      ∙ names_by p (λ x. pair (path_of_stem (stem p ++ x.path)) x.inode) (under_whole p some from) (part_whole p some from) part (rows_from part b)

  pub stands_found : find p now ≡ Some b.0
  stands_found = part_found p now ∙ ap (find p) whole ∙ ap (λ (ys : List Row). find p (map (λ x. pair (path_of_stem (stem p ++ x.path)) x.inode) ys)) b.2 ∙ (rw (same_whole p some from (pair [] b.0)
      tt) refl)

  pub stands_longest : longest_of (subtree p now) ≡ max (length p) (length (stem p) + longest_of part)
  stands_longest = ap longest_of is ∙ longest_whole p some from part b

  pub stands_short : Each (λ x. length x.path ≤ 1000) now → Each (λ x. length x.path ≤ 1000) part
  stands_short e = short_part (stem p) part (subst (λ (ys : List Row). Each (λ x. length x.path ≤ 1000) ys) is (each_filter (λ x. length x.path ≤ 1000) _ now e))

pub children_dir : (p : List ℕ) (xs : List Row) → is_dir_there (find p xs) ≡ true → children_of p xs ≡ names_under p xs
children_dir p xs e = rw e refl

pub children_file : (p : List ℕ) (xs : List Row) → is_dir_there (find p xs) ≡ false → children_of p xs ≡ []
children_file p xs e = rw e refl

-- ## The last row

below_last : (x : Row) (xs : List Row) → Each (λ y. IsBelow y.path) (x ∷ xs) → path_of_stem (last_path (x ∷ xs)) ≡ last_path (x ∷ xs)
below_last x [] e = rw e.0.1 refl
below_last x (y ∷ ys) e = below_last y ys e.1

last_root : (x : Row) (xs : List Row) → last_path (rooted (x ∷ xs)) ≡ path_of_stem (last_path (x ∷ xs))
last_root x [] = refl
last_root x (y ∷ ys) = last_root y ys

pub last_rooted : (xs : List Row) → IsBranch xs → 1 < length xs → last_path (rooted xs) ≡ last_path xs
last_rooted xs b more = by b.1 b.2 b.3
  where
    by : (rest : List Row) → xs ≡ pair [] b.0 ∷ rest → Each (λ y. IsBelow y.path) rest → last_path (rooted xs) ≡ last_path xs
    by [] is e = absurd (let sizes : length xs ≡ length (pair [] b.0 ∷ []) = ap (λ (zs : List Row). length zs) is in omega (arith, sizes, more))
    by (y ∷ ys) is e =
        ap (λ (zs : List Row). last_path (rooted zs)) is ∙ last_root (pair [] b.0) (y ∷ ys) ∙ below_last y ys e ∙ sym (ap last_path is)
