-- A branch: what stands at a path, and what takes its place.
use Rattle.std.proofs.Common.{◌≡◌, ℕ, ◌<◌, List, [], ◌∷◌, ◌++◌, length, map, refl, sym, ◌∙◌, ap, arith, true, false, Some, None, append_assoc, append-nil}
use Rattle.std.specs.Prelude.{not}
use Rattle.std.specs.Map.{lookup, set_value, remove_entry}
use Rattle.std.specs.BTreeMap.{insert_entry}
use Rattle.std.specs.Ordering.{nat_cmp}
use Rattle.std.specs.Cmp.Lexicographic.{slice_cmp}
use Rattle.std.proofs.lemmas.List.Elements.{filter-append}
use Rattle.ns_tree.specs.declared.inode.Inode.{Inode}
use Rattle.ns_tree.specs.declared.inode.Row.{Row}
use Rattle.ns_tree.specs.Path.{has_slash, is_at_or_under}
use Rattle.ns_tree.specs.Space.{Each, pair, without, subtree, put, put_at, change_at}
use Rattle.ns_tree.specs.Branches.{IsLed, IsFrom, IsBranch, below, from_path, is_named, grown, AreBranches}
use Rattle.ns_tree.proofs.Below.{led_more, rows_from, in_order}
use Rattle.ns_tree.proofs.BelowEdits.{made_in}
use Rattle.ns_tree.proofs.BelowCuts.{keep_all, outside_before, cut_in, cut_entry}
use Rattle.ns_tree.proofs.BelowParts.{all_below, entry_from, own_path, below_path, filter_all_from, filter_out, sub_in, without_all, settled_in}
use Rattle.ns_tree.proofs.Branched.{branch, AreSorted, change_own, put_first}

-- all of a branch is at or under the empty path
pub at_own : (xs : List Row) → IsBranch xs → subtree [] xs ≡ map (from_path []) xs
at_own xs b = filter_all_from xs (rows_from xs b) ∙ sym (own_path xs)

-- what takes the place of all of it
pub settle_own : (new xs : List Row) → IsBranch xs → put_at [] (map (from_path []) new) (without [] xs) ≡ new
settle_own new xs b = rw (without_all xs (rows_from xs b), own_path new) (append-nil new)

module _ {K X : Type 0} (name : K → List ℕ) (rows : X → List Row) (i : Inode) where
  pub branch_is : (es : List (K × X)) → AreBranches name rows es → IsBranch (branch name rows i es)
  branch_is es b = (i, grown name rows es, refl, all_below name rows es b)

  -- the branch itself is not at or under a path below it
  own_outside : (p : List ℕ) → 0 < length p → Each (λ x. not (is_at_or_under p x.path) ≡ true) (pair [] i ∷ [])
  own_outside [] h = absurd (omega arith)
  own_outside (b ∷ bs) h = outside_before (b ∷ bs) (pair [] i ∷ []) h (refl, tt)

  without_own : (p : List ℕ) (xs : List Row) → 0 < length p → without p (pair [] i ∷ xs) ≡ pair [] i ∷ without p xs
  without_own p xs h = keep_all (λ x. not (is_at_or_under p x.path)) (pair [] i ∷ []) xs (own_outside p h)

  sub_own : (p : List ℕ) (xs : List Row) → 0 < length p → subtree p (pair [] i ∷ xs) ≡ subtree p xs
  sub_own p xs h =
      filter-append (λ x. is_at_or_under p x.path) (pair [] i ∷ []) xs
      ∙ ap (λ (ys : List Row). ys ++ subtree p xs) (filter_out (λ x. is_at_or_under p x.path) (pair [] i ∷ []) (own_outside p h))

  module _ (p n r : List ℕ) (es : List (K × X)) (is : p ≡ 47 ∷ n ++ r) (plain : has_slash n ≡ false) (led : IsLed r) (b : AreBranches name rows es) (o : AreSorted name rows i es)
      (v : X) (there : lookup (λ k. is_named n (name k)) es ≡ Some v) where
    some : 0 < length n
    some = (entry_from name rows n es b v there).0

    entry_rows : Each (λ x. IsFrom x.path) (rows v)
    entry_rows = rows_from (rows v) (entry_from name rows n es b v there).1

    long : 0 < length (47 ∷ n ++ r)
    long = omega arith

    pub at_entry : (part : List Row) → IsFrom r → subtree r (rows v) ≡ map (from_path r) part → subtree p (branch name rows i es) ≡ map (from_path p) part
    at_entry part f inner =
        ap (λ (w : List ℕ). subtree w (branch name rows i es)) is
        ∙ sub_own (47 ∷ n ++ r) (grown name rows es) long
        ∙ sub_in name rows n r some plain led f es b (in_order name rows es o) v there
        ∙ ap (map (below n)) inner
        ∙ below_path n r part
        ∙ ap (λ (w : List ℕ). map (from_path w) part) (sym is)

    pub settle_entry : (new : List Row) (w : X) → IsFrom r → rows w ≡ put_at r (map (from_path r) new) (without r (rows v))
        → put_at p (map (from_path p) new) (without p (branch name rows i es)) ≡ branch name rows i (set_value (λ k. is_named n (name k)) es w)
    settle_entry new w f made =
        ap (λ (u : List ℕ). put_at u (map (from_path u) new) (without u (branch name rows i es))) is
        ∙ ap (put_at (47 ∷ n ++ r) (map (from_path (47 ∷ n ++ r)) new)) (without_own (47 ∷ n ++ r) (grown name rows es) long)
        ∙ ap (λ (ys : List Row). pair [] i ∷ ys)
        (ap (λ (ys : List Row). put_at (47 ∷ n ++ r) ys (without (47 ∷ n ++ r) (grown name rows es))) (sym (below_path n r new))
        ∙ settled_in name rows n r some plain led (map (from_path r) new) f es b (in_order name rows es o) v w entry_rows there made)

    pub cut_rest : (w : X) → 1 < length r → rows w ≡ without r (rows v) → without p (branch name rows i es) ≡ branch name rows i (set_value (λ k. is_named n (name k)) es w)
    cut_rest w long_rest made =
        ap (λ (u : List ℕ). without u (branch name rows i es)) is
        ∙ without_own (47 ∷ n ++ r) (grown name rows es) long
        ∙ ap (λ (ys : List Row). pair [] i ∷ ys) (cut_in name rows n r some plain led es b (in_order name rows es o) v w long_rest entry_rows there made)

    -- an inode that is put below a name, and the directory's mtime
    pub make_entry : (q : List ℕ) (f : Inode → Inode) (j : Inode) (w : X) → IsLed q → rows w ≡ change_at r f (put (r ++ q) j (rows v))
        → change_at p f (put (p ++ q) j (branch name rows i es)) ≡ branch name rows i (set_value (λ k. is_named n (name k)) es w)
    make_entry q f j w lq made =
        ap (λ (u : List ℕ). change_at u f (put (u ++ q) j (branch name rows i es))) is
        ∙ ap (λ (u : List ℕ). change_at (47 ∷ n ++ r) f (put u j (branch name rows i es))) (append_assoc (47 ∷ n) r q)
        ∙ ap (λ (ys : List Row). pair [] i ∷ ys) (made_in name rows n r (r ++ q) f (pair (r ++ q) j ∷ []) plain led (led_more r q led lq) es b (in_order name rows es o) v w there made)

  -- the entry of a name goes
  pub cut_own : (p n : List ℕ) (es : List (K × X)) → p ≡ 47 ∷ n ++ [] → has_slash n ≡ false → AreBranches name rows es → AreSorted name rows i es
      → (v : X) → lookup (λ k. is_named n (name k)) es ≡ Some v → without p (branch name rows i es) ≡ branch name rows i (remove_entry (λ k. is_named n (name k)) es)
  cut_own p n es is plain b o v there =
      ap (λ (u : List ℕ). without u (branch name rows i es)) is
      ∙ without_own (47 ∷ n ++ []) (grown name rows es) (omega arith)
      ∙ ap (λ (ys : List Row). pair [] i ∷ ys)
      (cut_entry name rows n (entry_from name rows n es b v there).0 plain es b (in_order name rows es o) v (rows_from (rows v) (entry_from name rows n es b v there).1) there)

  -- an inode that is put right below a branch, and the branch's mtime
  pub make_own : (n : List ℕ) (f : Inode → Inode) (j : Inode) (es : List (K × X)) → has_slash n ≡ false → AreBranches name rows es → AreSorted name rows i es
      → (k : K) (w : X) → name k ≡ n → lookup (λ k. is_named n (name k)) es ≡ None → rows w ≡ pair [] j ∷ []
      → change_at [] f (put (47 ∷ n) j (branch name rows i es)) ≡ branch name rows (f i) (insert_entry (λ a b. slice_cmp nat_cmp (name a) (name b)) es k w)
  make_own n f j es plain b o k w named absent made =
      ap (λ (u : List ℕ). change_at [] f (put (47 ∷ u) j (branch name rows i es))) (sym (append-nil n))
      ∙ ap (change_at [] f) (put_first name rows i n (pair [] j ∷ []) es plain b o k w named absent made)
      ∙ change_own name rows i f (insert_entry (λ a b. slice_cmp nat_cmp (name a) (name b)) es k w)
