-- The order of a walk is the order of the lists of components, and what is under a directory comes
-- right after it.
use Rattle.std.proofs.Common.{◌≡◌, ℕ, ◌+◌, List, [], ◌∷◌, Bool, true, false, refl, sym, ap, ◌∙◌, arith, ◌==◌, ◌&&◌}
use Rattle.std.proofs.lemmas.Bool.Decides.{nat_tests}
use Rattle.std.specs.declared.cmp.Ordering.{Ordering}
use Rattle.std.specs.declared.cmp.Ordering.TheVariants.{Less, Equal, Greater}
use Rattle.std.specs.Ordering.{nat_cmp, ordering_then}
use Rattle.std.specs.Cmp.Lexicographic.{slice_cmp}
use Rattle.ns_tree.specs.Path.{walk_cmp}
use Rattle.ns_tree.specs.Components.{first_part, later_parts, by_components, WalkIsByComponents, UnderComesRightAfter}
use Rattle.ns_tree.proofs.UnderPaths.{under_after, under_between}
use Rattle.ns_tree.proofs.Parents.{path_long}

then_assoc : (a b c : Ordering) → ordering_then (ordering_then a b) c ≡ ordering_then a (ordering_then b c)
then_assoc Less b c = refl
then_assoc Equal b c = refl
then_assoc Greater b c = refl

next_cmp : (x y : ℕ) → nat_cmp (x + 1) (y + 1) ≡ nat_cmp x y
next_cmp x y = grind (arith, nat_tests)

zero_less : (n : ℕ) → nat_cmp 0 (n + 1) ≡ Less
zero_less n = grind (arith, nat_tests)

more_zero : (n : ℕ) → nat_cmp (n + 1) 0 ≡ Greater
more_zero n = grind (arith, nat_tests)

-- two texts, by what stands between their `/`
parts_cmp : (xs ys : List ℕ) → walk_cmp xs ys ≡ ordering_then (slice_cmp nat_cmp (first_part xs) (first_part ys)) (by_components (later_parts xs) (later_parts ys))
parts_cmp [] [] = refl
parts_cmp [] (y ∷ ys) = by (y == 47) refl
  where
    by : (b : Bool) → (y == 47) ≡ b → Less ≡ ordering_then (slice_cmp nat_cmp [] (first_part (y ∷ ys))) (by_components [] (later_parts (y ∷ ys)))
    by true e = rw e refl
    by false e = rw e refl
parts_cmp (x ∷ xs) [] = by (x == 47) refl
  where
    by : (b : Bool) → (x == 47) ≡ b → Greater ≡ ordering_then (slice_cmp nat_cmp (first_part (x ∷ xs)) []) (by_components (later_parts (x ∷ xs)) [])
    by true e = rw e refl
    by false e = rw e refl
parts_cmp (x ∷ xs) (y ∷ ys) = by (x == 47) refl (y == 47) refl (parts_cmp xs ys)
  where
    by : (b : Bool) → (x == 47) ≡ b → (c : Bool) → (y == 47) ≡ c
        → walk_cmp xs ys ≡ ordering_then (slice_cmp nat_cmp (first_part xs) (first_part ys)) (by_components (later_parts xs) (later_parts ys))
        → walk_cmp (x ∷ xs) (y ∷ ys) ≡ ordering_then (slice_cmp nat_cmp (first_part (x ∷ xs)) (first_part (y ∷ ys))) (by_components (later_parts (x ∷ xs)) (later_parts (y ∷ ys)))
    by true e true f rest = rw (e, f) rest
    by true e false f rest = rw (e, f, zero_less y) refl
    by false e true f rest = rw (e, f, more_zero x) refl
    by false e false f rest =
        rw (e, f, next_cmp x y)
        (ap (ordering_then (nat_cmp x y)) rest ∙ sym (then_assoc (nat_cmp x y) (slice_cmp nat_cmp (first_part xs) (first_part ys)) (by_components (later_parts xs) (later_parts ys))))

slash_first : (b : ℕ) (c : Bool) → ((b == 47) && c) ≡ true → b ≡ 47
slash_first b true e = grind (arith, nat_tests, e)
slash_first b false e = absurd (off (b == 47) e)
  where
    off : (x : Bool) → (x && false) ≡ true → ⊥
    off true e = cc e
    off false e = cc e

pub walk_by_components : WalkIsByComponents
walk_by_components [] q g h = absurd (cc g)
walk_by_components (b ∷ []) [] g h = absurd (cc h)
walk_by_components (b ∷ []) (d ∷ []) g h = let x : b ≡ 47 = grind (arith, nat_tests, g) in let y : d ≡ 47 = grind (arith, nat_tests, h) in rw (x, y) refl
walk_by_components (b ∷ []) (d ∷ e ∷ ds) g h = let x : b ≡ 47 = grind (arith, nat_tests, g) in let y : d ≡ 47 = slash_first d _ h in rw (x, y) refl
walk_by_components (b ∷ c ∷ bs) [] g h = absurd (cc h)
walk_by_components (b ∷ c ∷ bs) (d ∷ []) g h = let x : b ≡ 47 = slash_first b _ g in let y : d ≡ 47 = grind (arith, nat_tests, h) in rw (x, y) refl
walk_by_components (b ∷ c ∷ bs) (d ∷ e ∷ ds) g h =
    let x : b ≡ 47 = slash_first b _ g in
    let y : d ≡ 47 = slash_first d _ h in
    rw (x, y) (parts_cmp (c ∷ bs) (e ∷ ds))

pub under_right_after : UnderComesRightAfter
under_right_after p q path under =
    let long = path_long p path in
    (under_after p q long under, λ x before after. under_between p x q long before after under)
