-- Known rows.
use Rattle.std.specs.Prelude.{List, [], ◌∷◌}
use Rattle.ns_tree.specs.declared.inode.Row.{Row}
use Rattle.ns_tree.specs.Space.{root_pair}
use Rattle.list_text.specs.Examples.{file_row, shared_row}

abbrev pub known_rows : List Row
known_rows = root_pair ∷ file_row ∷ shared_row ∷ []
