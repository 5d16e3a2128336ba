-- A branch: its own row, and the rows of its entries.
use Rattle.std.proofs.Common.{◌≡◌, ℕ, List, [], ◌∷◌, ◌++◌, map, refl, sym, ◌∙◌, ap, false, Some, None}
use Rattle.std.specs.declared.cmp.Ordering.TheVariants.{Less}
use Rattle.std.specs.Cmp.Lexicographic.{slice_cmp}
use Rattle.std.specs.Ordering.{nat_cmp}
use Rattle.std.specs.List.Sorted.{IsStrictlySortedBy}
use Rattle.std.specs.Map.{keys_of, lookup, set_value}
use Rattle.std.specs.BTreeMap.{insert_entry}
use Rattle.ns_tree.specs.declared.inode.Inode.{Inode}
use Rattle.ns_tree.specs.declared.inode.Row.{Row}
use Rattle.ns_tree.specs.Path.{walk_cmp, has_slash}
use Rattle.ns_tree.specs.Space.{Each, pair, find, change_at, put_at}
use Rattle.ns_tree.specs.Branches.{IsLed, below, is_named, grown, AreBranches, found_in}
use Rattle.ns_tree.proofs.Below.{in_order, found}
use Rattle.ns_tree.proofs.BelowEdits.{changed_in, changed_none, put_new}
use Rattle.ns_tree.proofs.Place.{change_after}
use Rattle.ns_tree.proofs.Walks.{each_append}

own_below : (m : List ℕ) (xs : List Row) → Each (λ x. walk_cmp [] x.path ≡ Less) (map (below m) xs)
own_below m [] = tt
own_below m (x ∷ xs) = (refl, own_below m xs)

module _ {K X : Type 0} (name : K → List ℕ) (rows : X → List Row) (i : Inode) where
  -- the rows of a branch
  abbrev pub branch : List (K × X) → List Row
  branch es = pair [] i ∷ grown name rows es

  abbrev pub AreSorted : List (K × X) → Type 0
  AreSorted es = IsStrictlySortedBy (λ a b. slice_cmp nat_cmp (name a) (name b)) (keys_of es)

  -- a walk comes to the branch itself first
  pub own_first : (es : List (K × X)) → Each (λ x. walk_cmp [] x.path ≡ Less) (grown name rows es)
  own_first [] = tt
  own_first (e ∷ es) = each_append (λ x. walk_cmp [] x.path ≡ Less) (map (below (name e.0)) (rows e.1)) (grown name rows es) (own_below (name e.0) (rows e.1)) (own_first es)

  -- what is found below a branch
  pub find_in : (p n r : List ℕ) (es : List (K × X)) → p ≡ 47 ∷ n ++ r → has_slash n ≡ false → IsLed r → AreBranches name rows es → AreSorted es
      → found_in name rows r (lookup (λ k. is_named n (name k)) es) ≡ find p (branch es)
  find_in p n r es is plain led b o = sym (found name rows n r es plain led b (in_order name rows es o)) ∙ sym (ap (λ (w : List ℕ). find w (branch es)) is)

  -- another inode of the branch itself
  pub change_own : (f : Inode → Inode) (es : List (K × X)) → change_at [] f (branch es) ≡ pair [] (f i) ∷ grown name rows es
  change_own f es = ap (λ (ys : List Row). pair [] (f i) ∷ ys) (change_after [] f (grown name rows es) (own_first es))

  -- another inode below a branch
  pub change_entry : (p n r : List ℕ) (f : Inode → Inode) (es : List (K × X)) → p ≡ 47 ∷ n ++ r → has_slash n ≡ false → IsLed r → AreBranches name rows es → AreSorted es
      → (v w : X) → lookup (λ k. is_named n (name k)) es ≡ Some v → rows w ≡ change_at r f (rows v)
      → change_at p f (branch es) ≡ branch (set_value (λ k. is_named n (name k)) es w)
  change_entry p n r f es is plain led b o v w there made =
      ap (λ (w : List ℕ). change_at w f (branch es)) is ∙ (ap (λ (ys : List Row). pair [] i ∷ ys) (changed_in name rows n r f plain led es b (in_order name rows es o) v w there made))

  pub change_none : (p n r : List ℕ) (f : Inode → Inode) (es : List (K × X)) → p ≡ 47 ∷ n ++ r → has_slash n ≡ false → IsLed r → AreBranches name rows es → AreSorted es
      → lookup (λ k. is_named n (name k)) es ≡ None → change_at p f (branch es) ≡ branch es
  change_none p n r f es is plain led b o absent =
      ap (λ (w : List ℕ). change_at w f (branch es)) is ∙ (ap (λ (ys : List Row). pair [] i ∷ ys) (changed_none name rows n r f plain led es b (in_order name rows es o) absent))

  pub put_first : (n : List ℕ) (new : List Row) (es : List (K × X)) → has_slash n ≡ false → AreBranches name rows es → AreSorted es
      → (k : K) (w : X) → name k ≡ n → lookup (λ k. is_named n (name k)) es ≡ None → rows w ≡ new
      → put_at (47 ∷ n ++ []) (map (below n) new) (branch es) ≡ branch (insert_entry (λ a b. slice_cmp nat_cmp (name a) (name b)) es k w)
  put_first n new es plain b o k w named absent made =
      ap (λ (ys : List Row). pair [] i ∷ ys) (put_new name rows n [] new plain tt es b (in_order name rows es o) k w named absent made)
