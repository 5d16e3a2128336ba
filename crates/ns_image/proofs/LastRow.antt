-- Which directories are there, by the last row of a walk alone: that row, and all that it lies
-- under.
use Rattle.std.proofs.Common.{◌≡◌, ℕ, ◌<◌, Bool, true, false, cond, List, [], ◌∷◌, ◌++◌, length, refl, sym, ap, subst, ◌∙◌, arith, Option, Some, None, ◌⊎◌, inl, inr, ◌==◌}
use Rattle.std.specs.Prelude.{◌||◌}
use Rattle.std.specs.declared.cmp.Ordering.TheVariants.{Less}
use Rattle.std.proofs.lemmas.Bool.{and_parts, or_right}
use Rattle.std.proofs.lemmas.Bool.Decides.{nat_tests}
use Rattle.ns_tree.specs.declared.inode.Inode.{Inode}
use Rattle.ns_tree.specs.declared.inode.Row.{Row}
use Rattle.ns_tree.specs.Path.{same_text, begins_with, stem, path_of_stem, is_under, is_path, is_root, has_slash, before_last_slash, parent_of, walk_cmp}
use Rattle.ns_tree.specs.Space.{find, is_dir, is_dir_there, has_under, Each, IsInWalkOrder, IsPair}
use Rattle.ns_tree.specs.Places.{IsTree}
use Rattle.ns_tree.specs.Last.{last_path, has_parent}
use Rattle.ns_tree.proofs.Order.{same_text_is, same_text_self}
use Rattle.ns_tree.proofs.Finds.{or_in, find_append}
use Rattle.ns_tree.proofs.Walks.{each_imp}
use Rattle.ns_tree.proofs.Place.{find_gap}
use Rattle.ns_tree.proofs.Parents.{Below, below_root, slash_after, stem_same}
use Rattle.ns_tree.proofs.UnderPaths.{under_between}
use Rattle.ns_tree.proofs.Ancestors.{no_dir_empty}
use Rattle.ns_tree.proofs.Last.{some_rows, gap_at_end}
use Rattle.ns_image.specs.Rows.{MayStand, EndsAt, is_above_last}
use Rattle.ns_image.proofs.Trees.{Found, found_in, only_root, grown}

-- ## A path and its parent
-- a path lies under the directory that it stands in
parent_above : (p : List ℕ) → is_path p ≡ true → is_root p ≡ false → is_under (parent_of p) p ≡ true
parent_above p good below = ap (begins_with (stem (parent_of p) ++ 47 ∷ [])) (stem_same p parts) ∙ by (before_last_slash p) refl
  where
    parts : Below p
    parts = below_root p good below

    behind : begins_with (before_last_slash p ++ 47 ∷ []) p ≡ true
    behind = slash_after p parts.slash

    one_less : (c : ℕ) (q : List ℕ) → (c == 47) ≡ true → begins_with (c ∷ 47 ∷ []) q ≡ true → begins_with (47 ∷ []) q ≡ true
    one_less c [] s h = absurd (cc h)
    one_less c (x ∷ xs) s h =
        let same : (c == x) ≡ true = (and_parts (c == x) _ h).0 in
        let here : (47 == x) ≡ true = grind (arith, nat_tests, s, same) in
        rw here refl

    alone : (c : ℕ) (t : Bool) → (c == 47) ≡ t → begins_with (c ∷ 47 ∷ []) p ≡ true → begins_with (cond t [] (c ∷ []) ++ 47 ∷ []) p ≡ true
    alone c true s h = one_less c p s h
    alone c false s h = h

    by : (w : List ℕ) → before_last_slash p ≡ w → begins_with (stem (path_of_stem w) ++ 47 ∷ []) p ≡ true
    by [] e = ap (λ (w : List ℕ). begins_with (w ++ 47 ∷ []) p) (sym e) ∙ behind
    by (c ∷ []) e = alone c (c == 47) refl (ap (λ (w : List ℕ). begins_with (w ++ 47 ∷ []) p) (sym e) ∙ behind)
    by (c ∷ d ∷ ds) e = ap (λ (w : List ℕ). begins_with (w ++ 47 ∷ []) p) (sym e) ∙ behind

-- the directory that a path stands in is the root, or is below it
parent_parts : (p : List ℕ) → is_path p ≡ true → (parent_of p ≡ 47 ∷ []) ⊎ Below (parent_of p)
parent_parts [] good = absurd (cc good)
parent_parts (b ∷ []) good = inl refl
parent_parts (b ∷ c ∷ bs) good = by (has_slash (c ∷ bs)) (before_last_slash (c ∷ bs))
  where
    first : (b == 47) ≡ true
    first = (and_parts (b == 47) _ good).0

    slash : b ≡ 47
    slash = grind (arith, nat_tests, first)

    by : (t : Bool) (w : List ℕ) → (path_of_stem (cond t (b ∷ w) []) ≡ 47 ∷ []) ⊎ Below (path_of_stem (cond t (b ∷ w) []))
    by false w = inl refl
    by true [] = inl (ap (λ (n : ℕ). n ∷ []) slash)
    by true (d ∷ ds) = inr (record { first = b; second = d; rest = ds; is = refl; slash = ap (λ (z : Bool). z || has_slash (d ∷ ds)) first })

parent_long : (p : List ℕ) → is_path p ≡ true → 0 < length (parent_of p)
parent_long p good = by (parent_parts p good)
  where
    by : (parent_of p ≡ 47 ∷ []) ⊎ Below (parent_of p) → 0 < length (parent_of p)
    by (inl e) = let size : length (parent_of p) ≡ 1 = ap (λ (q : List ℕ). length q) e in omega (arith, size)
    by (inr b) = let size : length (parent_of p) ≡ length (b.first ∷ b.second ∷ b.rest) = ap (λ (q : List ℕ). length q) b.is in omega (arith, size)

-- ## The last row
last_each : (P : List ℕ → Type 0) (xs : List Row) → 0 < length xs → Each (λ x. P x.path) xs → P (last_path xs)
last_each P [] some h = absurd (omega (arith, some))
last_each P (x ∷ []) some h = h.0
last_each P (x ∷ y ∷ xs) some h = last_each P (y ∷ xs) (omega arith) h.1

-- each row is the last one, or stands before it
up_to_last : (xs : List Row) → IsInWalkOrder xs → Each (λ x. (walk_cmp x.path (last_path xs) ≡ Less) ⊎ (x.path ≡ last_path xs)) xs
up_to_last [] h = tt
up_to_last (x ∷ []) h = (inr refl, tt)
up_to_last (x ∷ y ∷ xs) h = (inl (last_each (λ q. walk_cmp x.path q ≡ Less) (y ∷ xs) (omega arith) h.0), up_to_last (y ∷ xs) h.1)

last_under : (q : List ℕ) (xs : List Row) → 0 < length xs → is_under q (last_path xs) ≡ true → has_under q xs ≡ true
last_under q [] some h = absurd (omega (arith, some))
last_under q (x ∷ []) some h = ap (λ (z : Bool). z || false) h
last_under q (x ∷ y ∷ xs) some h = or_right (is_under q x.path) (has_under q (y ∷ xs)) (last_under q (y ∷ xs) (omega arith) h)

last_snoc : (xs : List Row) (x : Row) → last_path (xs ++ x ∷ []) ≡ x.path
last_snoc [] x = refl
last_snoc (y ∷ []) x = refl
last_snoc (y ∷ z ∷ xs) x = last_snoc (z ∷ xs) x

module _ (rows : List Row) (h : IsTree (record { pairs = rows; calls = [] })) (p : List ℕ) (good : is_path p ≡ true) (after : walk_cmp (last_path rows) p ≡ Less) where
  some : 0 < length rows
  some = some_rows (record { pairs = rows; calls = [] }) h

  below : is_root p ≡ false
  below = by (is_root p) refl
    where
      last_good : is_path (last_path rows) ≡ true
      last_good = last_each (λ q. is_path q ≡ true) rows some (each_imp (IsPair rows) (λ x. is_path x.path ≡ true) rows (λ x k. k.path) h.pairs)

      by : (b : Bool) → is_root p ≡ b → is_root p ≡ false
      by true is = absurd (only_root (last_path rows) last_good (subst (λ (q : List ℕ). walk_cmp (last_path rows) q ≡ Less) (same_text_is p (47 ∷ []) is) after))
      by false is = is

  -- a directory that is there, and isn't the last row, has the last row under it
  last_below : same_text (parent_of p) (last_path rows) ≡ false → is_dir_there (find (parent_of p) rows) ≡ true → is_under (parent_of p) (last_path rows) ≡ true
  last_below other there = by f.holds
    where
      q : List ℕ
      q = parent_of p

      f : Found q (λ x. (walk_cmp x.path (last_path rows) ≡ Less) ⊎ (x.path ≡ last_path rows))
      f = found_in q (λ x. (walk_cmp x.path (last_path rows) ≡ Less) ⊎ (x.path ≡ last_path rows)) rows there (up_to_last rows h.ordered)

      by : (walk_cmp f.row.path (last_path rows) ≡ Less) ⊎ (f.row.path ≡ last_path rows) → is_under q (last_path rows) ≡ true
      by (inl less) = under_between q (last_path rows) p (parent_long p good) (subst (λ (w : List ℕ). walk_cmp w (last_path rows) ≡ Less) f.here less) after (parent_above p good below)
      by (inr same) = absurd (cc (sym other ∙ ap (same_text q) (sym same ∙ f.here) ∙ same_text_self q))

  -- what the last row lies under is there
  above_there : is_under (parent_of p) (last_path rows) ≡ true → is_dir_there (find (parent_of p) rows) ≡ true
  above_there under = by (parent_parts p good)
    where
      q : List ℕ
      q = parent_of p

      by : (q ≡ 47 ∷ []) ⊎ Below q → is_dir_there (find q rows) ≡ true
      by (inl e) = ap (λ (w : List ℕ). is_dir_there (find w rows)) e ∙ h.root
      by (inr b) = there (is_dir_there (find q rows)) refl
        where
          there : (z : Bool) → is_dir_there (find q rows) ≡ z → is_dir_there (find q rows) ≡ true
          there true is = is
          there false is = absurd (cc (sym (no_dir_empty (record { pairs = rows; calls = [] }) q h b is) ∙ last_under q rows some under))

  same_bool : (a b : Bool) → (a ≡ true → b ≡ true) → (b ≡ true → a ≡ true) → a ≡ b
  same_bool true b f g = sym (f refl)
  same_bool false true f g = g refl
  same_bool false false f g = refl

  -- whether a path has its parent, by the last row alone
  pub parent_by_last : has_parent p rows ≡ is_above_last (parent_of p) (last_path rows) (is_dir_there (find (last_path rows) rows))
  parent_by_last = by (same_text (parent_of p) (last_path rows)) refl
    where
      by : (b : Bool) → same_text (parent_of p) (last_path rows) ≡ b → has_parent p rows ≡ cond b (is_dir_there (find (last_path rows) rows)) (is_under (parent_of p) (last_path rows))
      by true is = ap (λ (q : List ℕ). is_dir_there (find q rows)) (same_text_is (parent_of p) (last_path rows) is)
      by false is = same_bool (has_parent p rows) (is_under (parent_of p) (last_path rows)) (last_below is) above_there

-- ## One row more

pub ends_next : (rows : List Row) (path : List ℕ) (directory : Bool) (row : Row) → EndsAt rows path directory → MayStand rows row → EndsAt (rows ++ row ∷ []) row.path (is_dir row.inode)
ends_next rows path directory row ends may = record {
  tree = grown rows (row ∷ []) (may, tt) ends.tree;
  last = last_snoc rows row;
  kind = ap is_dir_there (find_append row.path rows (row ∷ []) ∙ ap (λ (o : Option Inode). or_in o (find row.path (row ∷ []))) none ∙ here);
}
  where
    none : find row.path rows ≡ None
    none = find_gap rows row.path (length rows) (gap_at_end row.path rows ends.tree.ordered may.last)

    here : find row.path (row ∷ []) ≡ Some row.inode
    here = ap (λ (b : Bool). cond b (Some row.inode) None) (same_text_self row.path)
