-- The end of a walk: where one more row may be appended.
use Rattle.std.specs.Prelude.{ℕ, Bool, List, [], ◌∷◌}
use Rattle.std.specs.Ordering.{is_lt}
use Rattle.ns_tree.specs.declared.inode.Row.{Row}
use Rattle.ns_tree.specs.Path.{walk_cmp, parent_of}
use Rattle.ns_tree.specs.Space.{find, is_dir_there}

-- the path of the last row
abbrev pub last_path : List Row → List ℕ
last_path [] = []
last_path (x ∷ []) = x.path
last_path (x ∷ y ∷ xs) = last_path (y ∷ xs)

-- whether a walk comes to a path after the last of the rows
abbrev pub is_after_last : List ℕ → List Row → Bool
is_after_last path rows = is_lt (walk_cmp (last_path rows) path)

-- whether the directory that a path stands in is there
abbrev pub has_parent : List ℕ → List Row → Bool
has_parent path rows = is_dir_there (find (parent_of path) rows)
