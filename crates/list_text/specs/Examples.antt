-- Known rows.
use Rattle.std.specs.Prelude.{ℕ, Bool, true, false, List, [], ◌∷◌, codes}
use Rattle.ns_tree.specs.declared.inode.Inode.TheVariants.{Dir, File}
use Rattle.ns_tree.specs.declared.inode.Row.{Row}
use Rattle.ns_tree.specs.Space.{pair}

-- a file of two blocks
abbrev pub file_row : Row
file_row = pair (codes "/f") (File 3 10 11 1048576 420 (codes "u") (codes "g") (1048576 ∷ 24 ∷ []) false)

-- a directory with a quota of names, in which only owners remove what is theirs
abbrev pub shared_row : Row
shared_row = pair (codes "/t") (Dir 7 1023 (codes "u") (codes "g") 5 0)
