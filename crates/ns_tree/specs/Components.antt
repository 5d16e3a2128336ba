-- A path as the list of its components, and the order of a walk in these words.
use Rattle.std.specs.Prelude.{◌≡◌, ℕ, ◌==◌, true, List, [], ◌∷◌, if◌then◌else◌}
use Rattle.std.specs.declared.cmp.Ordering.{Ordering}
use Rattle.std.specs.declared.cmp.Ordering.TheVariants.{Less}
use Rattle.std.specs.Ordering.{nat_cmp}
use Rattle.std.specs.Cmp.Lexicographic.{slice_cmp}
use Rattle.ns_tree.specs.Path.{is_path, is_under, walk_cmp}

-- what stands before the first `/` of a text, and what stands after each
abbrev pub first_part : List ℕ → List ℕ
first_part [] = []
first_part (b ∷ bs) = if b == 47 then [] else b ∷ first_part bs

abbrev pub later_parts : List ℕ → List (List ℕ)
later_parts [] = []
later_parts (b ∷ bs) = if b == 47 then first_part bs ∷ later_parts bs else later_parts bs

-- the components of a path: the root has none
abbrev pub components : List ℕ → List (List ℕ)
components [] = []
components (b ∷ []) = []
components (b ∷ c ∷ bs) = later_parts (b ∷ c ∷ bs)

-- component by component, each byte by byte
abbrev pub by_components : List (List ℕ) → List (List ℕ) → Ordering
by_components = slice_cmp (slice_cmp nat_cmp)

-- the order of a walk is the order of the lists of components
abbrev pub WalkIsByComponents : Type 0
WalkIsByComponents = (p q : List ℕ) → is_path p ≡ true → is_path q ≡ true → walk_cmp p q ≡ by_components (components p) (components q)

-- what is under a directory comes after it, and nothing else comes between: so the directory stands
-- right before it
abbrev pub UnderComesRightAfter : Type 0
UnderComesRightAfter =
    (p q : List ℕ) → is_path p ≡ true → is_under p q ≡ true
    → (walk_cmp p q ≡ Less) × ((x : List ℕ) → walk_cmp p x ≡ Less → walk_cmp x q ≡ Less → is_under p x ≡ true)
