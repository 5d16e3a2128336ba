-- A small tree: the directories `/u`, `/u/x`, `/u/x/f` and `/u-`.
use Rattle.std.specs.Prelude.{ℕ, List, [], ◌∷◌, map, codes}
use Rattle.ns_tree.specs.declared.inode.Inode.{Inode}
use Rattle.ns_tree.specs.declared.inode.Inode.TheVariants.{Dir}
use Rattle.ns_tree.specs.declared.inode.Row.{Row}
use Rattle.ns_tree.specs.Space.{pair, root_pair}

abbrev pub plain_dir : Inode
plain_dir = Dir 10 493 (codes "ann") (codes "ops") 0 0

abbrev pub small_rows : List Row
small_rows =
    root_pair ∷ pair (codes "/u") plain_dir ∷ pair (codes "/u/x") plain_dir ∷ pair (codes "/u/x/f") plain_dir ∷ pair (codes "/u-") plain_dir ∷ []

abbrev pub paths : List Row → List (List ℕ)
paths xs = map (λ x. x.path) xs
