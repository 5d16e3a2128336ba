-- A branch: a directory or a file with all that stands below it, as rows whose paths go from there.
use Rattle.std.specs.Prelude.{◌≡◌, ◌==◌, ℕ, ◌<◌, Bool, true, false, not, List, [], ◌∷◌, ◌++◌, length, map, Option, Some, None}
use Rattle.std.specs.Ordering.{is_eq, nat_cmp}
use Rattle.std.specs.Cmp.Lexicographic.{slice_cmp}
use Rattle.ns_tree.specs.declared.inode.Inode.{Inode}
use Rattle.ns_tree.specs.declared.inode.Row.{Row}
use Rattle.ns_tree.specs.Path.{has_slash, path_of_stem}
use Rattle.ns_tree.specs.Space.{Each, pair, find}

-- a path from a branch: empty for the branch itself, and else it begins with a `/`
abbrev pub IsLed : List ℕ → Type 0
IsLed [] = Unit {0}
IsLed (b ∷ bs) = b ≡ 47

-- the path of a row of a branch: empty for the branch itself, and else a `/` and more
abbrev pub IsFrom : List ℕ → Type 0
IsFrom [] = Unit {0}
IsFrom (b ∷ bs) = (b ≡ 47) × (0 < length bs)

-- the path of a row below a branch: a `/` and more
abbrev pub IsBelow : List ℕ → Type 0
IsBelow path = (rest : List ℕ) × (path ≡ 47 ∷ rest) × (0 < length rest)

-- the rows of a branch: its own, and those below it
abbrev pub IsBranch : List Row → Type 0
IsBranch xs = (inode : Inode) × (rest : List Row) × (xs ≡ pair [] inode ∷ rest) × Each (λ x. IsBelow x.path) rest

-- a row of what stands under a name, by its path from the directory of that name
abbrev pub below : List ℕ → Row → Row
below name x = pair (47 ∷ name ++ x.path) x.inode

-- a row of a branch, by its path from where the path of the branch goes from
abbrev pub from_path : List ℕ → Row → Row
from_path path x = pair (path ++ x.path) x.inode

-- whether a name is another, by the order of their bytes
abbrev pub is_named : List ℕ → List ℕ → Bool
is_named name other = is_eq (slice_cmp nat_cmp name other)

module _ {K X : Type 0} (name : K → List ℕ) (rows : X → List Row) where
  -- the rows of the entries of a directory, each a name and a branch
  abbrev pub grown : List (K × X) → List Row
  grown [] = []
  grown (e ∷ es) = map (below (name e.0)) (rows e.1) ++ grown es

  -- names have no `/`, and are not empty, and each entry is a branch
  abbrev pub AreBranches : List (K × X) → Type 0
  AreBranches [] = Unit {0}
  AreBranches (e ∷ es) = (0 < length (name e.0)) × (has_slash (name e.0) ≡ false) × IsBranch (rows e.1) × AreBranches es

  -- what is found in an entry
  abbrev pub found_in : List ℕ → Option X → Option Inode
  found_in path None = None
  found_in path (Some x) = find path (rows x)

-- a row of the root's branch, by its path
abbrev pub at_root : Row → Row
at_root x = pair (path_of_stem x.path) x.inode

-- the pairs of a namespace whose root is a branch of these rows
abbrev pub rooted : List Row → List Row
rooted xs = map at_root xs

-- whether a path does not go from the root
abbrev pub is_relative : List ℕ → Bool
is_relative [] = true
is_relative (b ∷ bs) = not (b == 47)
