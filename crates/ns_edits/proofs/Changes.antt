-- An inode that is found stands at one place alone, so what is changed at its path is that inode.
use Rattle.std.proofs.Common.{◌≡◌, ℕ, List, [], ◌∷◌, Bool, true, false, cond, refl, sym, ap, ◌∙◌, subst, Option, Some, None}
use Rattle.std.specs.declared.cmp.Ordering.TheVariants.{Less}
use Rattle.ns_tree.specs.declared.inode.Inode.{Inode}
use Rattle.ns_tree.specs.declared.inode.Row.{Row}
use Rattle.ns_tree.specs.Path.{same_text, walk_cmp}
use Rattle.ns_tree.specs.Space.{Space, pair, find, change_at, Each, IsInWalkOrder}
use Rattle.ns_tree.specs.Places.{set_at, IsTree}
use Rattle.ns_tree.proofs.Order.{same_text_is}
use Rattle.ns_tree.proofs.Place.{change_after}

pub change_found : (p : List ℕ) (f : Inode → Inode) (i : Inode) (xs : List Row) → IsInWalkOrder xs → find p xs ≡ Some i → change_at p f xs ≡ set_at p (f i) xs
change_found p f i [] o e = refl
change_found p f i (x ∷ xs) o e = by (same_text p x.path) refl e (λ g. change_found p f i xs o.1 g)
  where
    the_inode : (a b : Inode) → Some a ≡ Some b → a ≡ b
    the_inode a b e = ap (λ (q : Option Inode). or_this q) e
      where
        or_this : Option Inode → Inode
        or_this None = a
        or_this (Some z) = z

    by : (z : Bool) → same_text p x.path ≡ z → cond z (Some x.inode) (find p xs) ≡ Some i → (find p xs ≡ Some i → change_at p f xs ≡ set_at p (f i) xs)
        → cond z (pair x.path (f x.inode)) x ∷ change_at p f xs ≡ cond z (pair x.path (f i)) x ∷ set_at p (f i) xs
    by false s e go = ap (λ (ys : List Row). x ∷ ys) (go e)
    by true s e go =
        let later : Each (λ y. walk_cmp p y.path ≡ Less) xs = at_path (sym (same_text_is p x.path s)) in
        (λ k. pair x.path (f (the_inode x.inode i e k)) ∷ (change_after p f xs later ∙ sym (change_after p (λ _. f i) xs later)) k)
      where
        at_path : x.path ≡ p → Each (λ y. walk_cmp p y.path ≡ Less) xs
        at_path same = subst (λ (q : List ℕ). Each (λ y. walk_cmp q y.path ≡ Less) xs) same o.0

-- the inode that a change leaves at p is one that f makes
pub changed_by : (p : List ℕ) (f : Inode → Inode) (i j : Inode) (s : Space) → IsTree s → find p s.pairs ≡ Some i → j ≡ f i
    → record s { pairs = set_at p j s.pairs } ≡ record s { pairs = change_at p f s.pairs }
changed_by p f i j s h found made =
    ap (λ (xs : List Row). record s { pairs = xs }) (ap (λ (k : Inode). set_at p k s.pairs) made ∙ sym (change_found p f i s.pairs h.ordered found))
