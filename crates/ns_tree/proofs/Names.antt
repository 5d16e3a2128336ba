-- The names right under a directory are in the order of their bytes.
use Rattle.std.proofs.Common.{◌≡◌, ℕ, List, [], ◌∷◌, map, Bool, true, false, cond, refl, sym, subst, arith}
use Rattle.std.specs.Prelude.{filter, All, AllPairs}
use Rattle.std.specs.declared.cmp.Ordering.TheVariants.{Less}
use Rattle.std.specs.Ordering.{nat_cmp}
use Rattle.std.specs.Cmp.Lexicographic.{slice_cmp}
use Rattle.std.proofs.lemmas.List.Elements.{All-cons}
use Rattle.std.proofs.lemmas.List.Kept.{AllPairs-cons}
use Rattle.ns_tree.specs.declared.inode.Row.{Row}
use Rattle.ns_tree.specs.Path.{walk_cmp, part_under, is_right_under}
use Rattle.ns_tree.specs.Space.{Each, IsInWalkOrder, find, is_dir_there, names_under, children_of, AreInByteOrder}
use Rattle.ns_tree.proofs.TwoNames.{name_less}

abbrev IsBefore : List ℕ → List ℕ → Type 0
IsBefore a b = slice_cmp nat_cmp a b ≡ Less

none_after : (a : List ℕ) → All (IsBefore a) []
none_after a = λ i d h. absurd (omega arith)

all_after : (p : List ℕ) (x : Row) (ys : List Row) → is_right_under p x.path ≡ true → Each (λ y. walk_cmp x.path y.path ≡ Less) ys → All (IsBefore (part_under p x.path)) (names_under p ys)
all_after p x [] h e = none_after (part_under p x.path)
all_after p x (y ∷ ys) h e = by (is_right_under p y.path) refl (all_after p x ys h e.1)
  where
    by : (z : Bool) → is_right_under p y.path ≡ z → All (IsBefore (part_under p x.path)) (names_under p ys)
        → All (IsBefore (part_under p x.path)) (map (λ (w : Row). part_under p w.path)
        (cond z (y ∷ filter (λ (w : Row). is_right_under p w.path) ys) (filter (λ (w : Row). is_right_under p w.path) ys)))
    by true k rest = All-cons (IsBefore (part_under p x.path)) (part_under p y.path) (names_under p ys) (name_less p x.path y.path h k e.0) rest
    by false k rest = rest

names_ordered : (p : List ℕ) (xs : List Row) → IsInWalkOrder xs → AreInByteOrder (names_under p xs)
names_ordered p [] h = λ i j d lt most. absurd (omega arith)
names_ordered p (x ∷ xs) h = by (is_right_under p x.path) refl (names_ordered p xs h.1)
  where
    by : (z : Bool) → is_right_under p x.path ≡ z → AllPairs IsBefore (names_under p xs)
        → AllPairs IsBefore (map (λ (w : Row). part_under p w.path) (cond z (x ∷ filter (λ (w : Row). is_right_under p w.path) xs)
        (filter (λ (w : Row). is_right_under p w.path) xs)))
    by true k rest = AllPairs-cons IsBefore (part_under p x.path) (names_under p xs) (all_after p x xs k h.0) rest
    by false k rest = rest

pub children_ordered : (p : List ℕ) (xs : List Row) (names : List (List ℕ)) → names ≡ children_of p xs → IsInWalkOrder xs → AreInByteOrder names
children_ordered p xs names e h = subst AreInByteOrder (sym e) (by (is_dir_there (find p xs)))
  where
    by : (z : Bool) → AreInByteOrder (cond z (names_under p xs) [])
    by true = names_ordered p xs h
    by false = λ i j d lt most. absurd (omega arith)
