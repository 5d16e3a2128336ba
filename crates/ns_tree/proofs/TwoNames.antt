-- The names of what is right under a path are in the order of their bytes where the paths are in
-- the order of a walk.
use Rattle.std.proofs.Common.{◌≡◌, ℕ, ◌+◌, List, [], ◌∷◌, ◌++◌, length, drop, Bool, true, false, cond, refl, sym, ap, ◌∙◌, length-append, arith, ◌==◌}
use Rattle.std.specs.Prelude.{not}
use Rattle.std.specs.declared.cmp.Ordering.{Ordering}
use Rattle.std.specs.declared.cmp.Ordering.TheVariants.{Less}
use Rattle.std.specs.Ordering.{nat_cmp, ordering_then}
use Rattle.std.specs.Cmp.Lexicographic.{slice_cmp}
use Rattle.std.proofs.lemmas.Bool.Decides.{nat_tests}
use Rattle.ns_tree.specs.Path.{walk_cmp, rank_of, begins_with, stem, is_under, has_slash, part_under, is_right_under}
use Rattle.ns_tree.proofs.UnderPaths.{begins_short, prefix_cmp}
use Rattle.ns_tree.proofs.Tails.{begins_split}
use Rattle.std.proofs.lemmas.Bool.{and_parts, or_parts}

pub rank_cmp : (x y : ℕ) → (x == 47) ≡ false → (y == 47) ≡ false → nat_cmp (rank_of x) (rank_of y) ≡ nat_cmp x y
rank_cmp x y e f = rw (e, f) (grind (arith, nat_tests))

-- texts with no `/` are walked in the order of their bytes
plain_cmp : (a b : List ℕ) → has_slash a ≡ false → has_slash b ≡ false → walk_cmp a b ≡ slice_cmp nat_cmp a b
plain_cmp [] [] e f = refl
plain_cmp [] (y ∷ ys) e f = refl
plain_cmp (x ∷ xs) [] e f = refl
plain_cmp (x ∷ xs) (y ∷ ys) e f =
    let p : ((x == 47) ≡ false) × (has_slash xs ≡ false) = or_parts (x == 47) (has_slash xs) e in
    let q : ((y == 47) ≡ false) × (has_slash ys ≡ false) = or_parts (y == 47) (has_slash ys) f in
    ap (λ (r : Ordering). ordering_then r (walk_cmp xs ys)) (rank_cmp x y p.0 q.0) ∙ ap (ordering_then (nat_cmp x y)) (plain_cmp xs ys p.1 q.1)

whole_stem : (s q : List ℕ) → begins_with (s ++ 47 ∷ []) (stem q) ≡ true → begins_with (s ++ 47 ∷ []) q ≡ true
whole_stem s [] h = h
whole_stem s (b ∷ []) h = by (b == 47) h
  where
    by : (z : Bool) → begins_with (s ++ 47 ∷ []) (cond z [] (b ∷ [])) ≡ true → begins_with (s ++ 47 ∷ []) (b ∷ []) ≡ true
    by true h = let short : begins_with (s ++ 47 ∷ []) [] ≡ false = begins_short s [] (omega arith) in absurd (cc (sym short ∙ h))
    by false h = h
whole_stem s (b ∷ c ∷ bs) h = h

pub split_under : (p q : List ℕ) → is_under p q ≡ true → q ≡ (stem p ++ 47 ∷ []) ++ part_under p q
split_under p q h =
    let size : length (stem p ++ 47 ∷ []) ≡ length (stem p) + 1 = length-append (stem p) (47 ∷ []) in
    begins_split (stem p ++ 47 ∷ []) q (whole_stem (stem p) q h) ∙ ap (λ (k : ℕ). (stem p ++ 47 ∷ []) ++ drop k q) size

no_slash_in : (p q : List ℕ) → is_right_under p q ≡ true → (is_under p q ≡ true) × (has_slash (part_under p q) ≡ false)
no_slash_in p q h =
    let parts : (is_under p q ≡ true) × (not (has_slash (part_under p q)) ≡ true) = and_parts (is_under p q) (not (has_slash (part_under p q))) h in
    (parts.0, by (has_slash (part_under p q)) parts.1)
  where
    by : (z : Bool) → not z ≡ true → z ≡ false
    by true e = absurd (cc e)
    by false e = refl

pub name_less : (p q r : List ℕ) → is_right_under p q ≡ true → is_right_under p r ≡ true → walk_cmp q r ≡ Less → slice_cmp nat_cmp (part_under p q) (part_under p r) ≡ Less
name_less p q r h k less =
    let a : (is_under p q ≡ true) × (has_slash (part_under p q) ≡ false) = no_slash_in p q h in
    let b : (is_under p r ≡ true) × (has_slash (part_under p r) ≡ false) = no_slash_in p r k in
    sym (plain_cmp (part_under p q) (part_under p r) a.1 b.1)
    ∙ sym (prefix_cmp (stem p ++ 47 ∷ []) (part_under p q) (part_under p r))
    ∙ ap (λ (w : List ℕ). walk_cmp w ((stem p ++ 47 ∷ []) ++ part_under p r)) (sym (split_under p q a.0))
    ∙ ap (walk_cmp q) (sym (split_under p r b.0))
    ∙ less
