-- The lines of an image's inodes.
use Rattle.std.specs.Prelude.{ℕ, List, [], ◌∷◌, ◌++◌}
use Rattle.std.specs.List.{flat_map}
use Rattle.ns_tree.specs.declared.inode.Row.{Row}
use Rattle.list_text.specs.Texts.{row_text, header}

abbrev pub row_line : Row → List ℕ
row_line row = row_text row ++ 10 ∷ []

-- the names of the columns, and a line for each row
abbrev pub delimited : List Row → List ℕ
delimited rows = (header ++ 10 ∷ []) ++ flat_map row_line rows
