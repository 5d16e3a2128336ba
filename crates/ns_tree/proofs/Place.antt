-- What is found among pairs in walk order, and what an edit at its place does.
use Rattle.std.proofs.Common.{◌≡◌, ℕ, List, [], ◌∷◌, ◌++◌, take, drop, refl, ◌∙◌, ap, subst}
use Rattle.std.proofs.Common.{cond, None, append_assoc, append-nil}
use Rattle.std.proofs.lemmas.List.{take-append-drop}
use Rattle.std.proofs.lemmas.List.Elements.{filter-append}
use Rattle.std.specs.List.{insert}
use Rattle.std.specs.declared.cmp.Ordering.TheVariants.{Less}
use Rattle.ns_tree.specs.declared.inode.Inode.{Inode}
use Rattle.ns_tree.specs.Path.{walk_cmp, same_text}
use Rattle.ns_tree.specs.declared.inode.Row.{Row}
use Rattle.ns_tree.specs.Space.{pair, Each, IsInWalkOrder, find, put, pairs_before, pairs_after, change_at}
use Rattle.ns_tree.specs.Places.{IsGapFor}
use Rattle.ns_tree.proofs.Order.{not_same_before, not_same_after, turned_less}

-- ---- `Each`, over parts

pub each_map : (P Q : Row → Type 0) → ((x : Row) → P x → Q x) → (xs : List Row) → Each P xs → Each Q xs
each_map P Q f [] e = tt
each_map P Q f (x ∷ xs) e = (f x e.0, each_map P Q f xs e.1)

pub each_right : (P : Row → Type 0) (xs ys : List Row) → Each P (xs ++ ys) → Each P ys
each_right P [] ys e = e
each_right P (x ∷ xs) ys e = each_right P xs ys e.1

-- ---- the order, over parts

pub order_right : (xs ys : List Row) → IsInWalkOrder (xs ++ ys) → IsInWalkOrder ys
order_right [] ys o = o
order_right (x ∷ xs) ys o = order_right xs ys o.1

-- ---- what is found

pub find_past : (p : List ℕ) (xs ys : List Row) → Each (λ x. walk_cmp x.path p ≡ Less) xs → find p (xs ++ ys) ≡ find p ys
find_past p [] ys e = refl
find_past p (x ∷ xs) ys e = rw (not_same_before p x.path e.0) (find_past p xs ys e.1)

pub find_none : (p : List ℕ) (xs : List Row) → Each (λ x. walk_cmp p x.path ≡ Less) xs → find p xs ≡ None
find_none p [] e = refl
find_none p (x ∷ xs) e = rw (not_same_after p x.path e.0) (find_none p xs e.1)

pub find_gap : (xs : List Row) (p : List ℕ) (i : ℕ) → IsGapFor xs p i → find p xs ≡ None
find_gap xs p i gap =
    subst (λ ys. find p ys ≡ None) (take-append-drop i xs) (find_past p (take i xs) _ gap.below ∙ find_none p (drop i xs) gap.above)

-- ---- an insert in a gap

pub before_kept : (p : List ℕ) (xs : List Row) → Each (λ x. walk_cmp x.path p ≡ Less) xs → pairs_before p xs ≡ xs
before_kept p [] e = refl
before_kept p (x ∷ xs) e = rw e.0 (ap (λ ys. x ∷ ys) (before_kept p xs e.1))

pub before_none : (p : List ℕ) (xs : List Row) → Each (λ x. walk_cmp p x.path ≡ Less) xs → pairs_before p xs ≡ []
before_none p [] e = refl
before_none p (x ∷ xs) e = rw (turned_less p x.path e.0) (before_none p xs e.1)

pub after_kept : (p : List ℕ) (xs : List Row) → Each (λ x. walk_cmp p x.path ≡ Less) xs → pairs_after p xs ≡ xs
after_kept p [] e = refl
after_kept p (x ∷ xs) e = rw e.0 (ap (λ ys. x ∷ ys) (after_kept p xs e.1))

pub after_none : (p : List ℕ) (xs : List Row) → Each (λ x. walk_cmp x.path p ≡ Less) xs → pairs_after p xs ≡ []
after_none p [] e = refl
after_none p (x ∷ xs) e = rw (turned_less x.path p e.0) (after_none p xs e.1)

pub put_gap : (xs : List Row) (p : List ℕ) (i : ℕ) (inode : Inode) → IsGapFor xs p i → put p inode xs ≡ insert xs i (pair p inode)
put_gap xs p i inode gap =
    let before : pairs_before p xs ≡ take i xs =
    subst (λ ys. pairs_before p ys ≡ take i xs) (take-append-drop i xs)
    (filter-append _ (take i xs) (drop i xs) ∙ rw (before_kept p (take i xs) gap.below, before_none p (drop i xs) gap.above) (append-nil (take i xs))) in
    let after : pairs_after p xs ≡ drop i xs =
    subst (λ ys. pairs_after p ys ≡ drop i xs) (take-append-drop i xs)
    (filter-append _ (take i xs) (drop i xs) ∙ rw (after_none p (take i xs) gap.below, after_kept p (drop i xs) gap.above) refl) in
    rw (before, after) (append_assoc (take i xs) (pair p inode ∷ []) (drop i xs))

-- ---- another inode at a path

pub change_before : (p : List ℕ) (f : Inode → Inode) (xs : List Row) → Each (λ x. walk_cmp x.path p ≡ Less) xs → change_at p f xs ≡ xs
change_before p f [] e = refl
change_before p f (x ∷ xs) e = rw (not_same_before p x.path e.0) (ap (λ ys. x ∷ ys) (change_before p f xs e.1))

pub change_after : (p : List ℕ) (f : Inode → Inode) (xs : List Row) → Each (λ x. walk_cmp p x.path ≡ Less) xs → change_at p f xs ≡ xs
change_after p f [] e = refl
change_after p f (x ∷ xs) e = rw (not_same_after p x.path e.0) (ap (λ ys. x ∷ ys) (change_after p f xs e.1))

pub change_parts : (p : List ℕ) (f : Inode → Inode) (xs ys : List Row) → change_at p f (xs ++ ys) ≡ change_at p f xs ++ change_at p f ys
change_parts p f [] ys = refl
change_parts p f (x ∷ xs) ys = ap (λ zs. cond (same_text p x.path) (pair x.path (f x.inode)) x ∷ zs) (change_parts p f xs ys)
