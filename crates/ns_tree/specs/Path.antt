-- Paths: their grammar, what is under what, and the order of a walk.
use Rattle.std.specs.Prelude.{ℕ, ◌+◌, Bool, true, false, not, ◌&&◌, ◌||◌, ◌==◌, nat_lt, nat_le, nat_eq, List, [], ◌∷◌, ◌++◌, length, drop, if◌then◌else◌}
use Rattle.std.specs.declared.cmp.Ordering.{Ordering}
use Rattle.std.specs.Ordering.{nat_cmp}
use Rattle.std.specs.Cmp.Lexicographic.{slice_cmp, pointwise}

-- whether two texts are the same bytes
abbrev pub same_text : List ℕ → List ℕ → Bool
same_text = pointwise nat_eq

-- whether a text begins with another
abbrev pub begins_with : List ℕ → List ℕ → Bool
begins_with [] xs = true
begins_with (n ∷ ns) [] = false
begins_with (n ∷ ns) (x ∷ xs) = (n == x) && begins_with ns xs

-- a path without a last `/`: the root's stem is empty, and each other path is its own stem
abbrev pub stem : List ℕ → List ℕ
stem [] = []
stem (b ∷ []) = if b == 47 then [] else b ∷ []
stem (b ∷ c ∷ bs) = b ∷ c ∷ bs

-- the path of a stem
abbrev pub path_of_stem : List ℕ → List ℕ
path_of_stem [] = 47 ∷ []
path_of_stem (b ∷ bs) = b ∷ bs

-- whether q lies under the directory p
abbrev pub is_under : List ℕ → List ℕ → Bool
is_under p q = begins_with (stem p ++ 47 ∷ []) (stem q)

abbrev pub is_at_or_under : List ℕ → List ℕ → Bool
is_at_or_under p q = same_text p q || is_under p q

-- a byte's place in the order of a walk: the `/` that ends a component comes before each byte of
-- one
abbrev pub rank_of : ℕ → ℕ
rank_of b = if b == 47 then 0 else b + 1

-- the order in which a walk comes to two paths: by their lists of components
abbrev pub walk_cmp : List ℕ → List ℕ → Ordering
walk_cmp = slice_cmp (λ a b. nat_cmp (rank_of a) (rank_of b))

-- the text up to the last `/`, and what comes after it
abbrev pub has_slash : List ℕ → Bool
has_slash [] = false
has_slash (b ∷ bs) = (b == 47) || has_slash bs

abbrev pub before_last_slash : List ℕ → List ℕ
before_last_slash [] = []
before_last_slash (b ∷ bs) = if has_slash bs then b ∷ before_last_slash bs else []

abbrev pub parent_of : List ℕ → List ℕ
parent_of p = path_of_stem (before_last_slash p)

abbrev pub is_root : List ℕ → Bool
is_root p = same_text p (47 ∷ [])

-- the part of q after the directory p
abbrev pub part_under : List ℕ → List ℕ → List ℕ
part_under p q = drop (length (stem p) + 1) q

-- whether q is right under p
abbrev pub is_right_under : List ℕ → List ℕ → Bool
is_right_under p q = is_under p q && not (has_slash (part_under p q))

-- a path at or under src, at or under dst instead
abbrev pub moved_path : List ℕ → List ℕ → List ℕ → List ℕ
moved_path src dst q = dst ++ drop (length src) q

-- a byte of a component
abbrev pub is_component_byte : ℕ → Bool
is_component_byte b = nat_le 33 b && nat_le b 126 && not (b == 47) && not (b == 59)

-- a component: 1 to 255 such bytes, and neither `.` nor `..`
abbrev pub all_component_bytes : List ℕ → Bool
all_component_bytes [] = true
all_component_bytes (b ∷ bs) = is_component_byte b && all_component_bytes bs

abbrev pub is_dot_name : List ℕ → Bool
is_dot_name c = same_text c (46 ∷ []) || same_text c (46 ∷ 46 ∷ [])

abbrev pub is_component : List ℕ → Bool
is_component c = nat_lt 0 (length c) && nat_le (length c) 255 && not (is_dot_name c) && all_component_bytes c

-- what a path is after its first `/`: components with a `/` between them; `c` is the component so
-- far
abbrev pub are_components : List ℕ → List ℕ → Bool
are_components c [] = is_component c
are_components c (b ∷ bs) = if b == 47 then is_component c && are_components [] bs else are_components (c ++ b ∷ []) bs

abbrev pub is_path : List ℕ → Bool
is_path [] = false
is_path (b ∷ []) = b == 47
is_path (b ∷ c ∷ bs) = (b == 47) && are_components [] (c ∷ bs)

-- a user or a group
abbrev pub is_letter : ℕ → Bool
is_letter b = (nat_le 65 b && nat_le b 90) || (nat_le 97 b && nat_le b 122)

abbrev pub is_owner_byte : ℕ → Bool
is_owner_byte b = is_letter b || (nat_le 48 b && nat_le b 57) || (b == 95) || (b == 46) || (b == 45)

abbrev pub all_owner_bytes : List ℕ → Bool
all_owner_bytes [] = true
all_owner_bytes (b ∷ bs) = is_owner_byte b && all_owner_bytes bs

-- 1 to 32 such bytes, the first a letter or `_`
abbrev pub is_owner : List ℕ → Bool
is_owner [] = false
is_owner (b ∷ bs) = (is_letter b || (b == 95)) && nat_le (length (b ∷ bs)) 32 && all_owner_bytes bs
