-- The listing of a path of an image: of a directory what stands right in it, of a file its own line.
use Rattle.std.specs.Prelude.{◌≡◌, ℕ, zero, suc, List, [], ◌∷◌, ◌++◌, length, filter, codes, decimal, Option, Some, None, option_map}
use Rattle.std.specs.List.{flat_map}
use Rattle.ns_tree.specs.declared.inode.Inode.{Inode}
use Rattle.ns_tree.specs.declared.inode.Inode.TheVariants.{Dir, File}
use Rattle.ns_tree.specs.declared.inode.Row.{Row}
use Rattle.ns_tree.specs.Path.{stem, is_right_under}
use Rattle.ns_tree.specs.Space.{pair, find}
use Rattle.ns_image.specs.declared.answer.ReadImage.{ReadImage}
use Rattle.ns_image.specs.declared.answer.ReadImage.TheVariants.{Image, BadImage}
use Rattle.ns_image.specs.Reading.{reading_of}
use Rattle.list_text.specs.Columns.{ColumnsView, columns_of}
use Rattle.list_oiv.specs.Listed.{cause_of}
use Rattle.list_oiv.specs.declared.image_listing.PathListing.{PathListing}
use Rattle.list_oiv.specs.declared.image_listing.PathListing.TheVariants.{Text, NoPath, BadBytes, OutOfMemory}

-- ## A line
-- a directory, whose replication is 0, has `-`
abbrev pub replication_text : ℕ → List ℕ
replication_text zero = codes "-"
replication_text (suc n) = decimal (suc n)

abbrev pub spaced : List ℕ → List ℕ
spaced text = 32 ∷ text

-- the columns after the permission: replication, user, group, size, time of modification, path
abbrev pub later_texts : ColumnsView → List (List ℕ)
later_texts c = replication_text c.replication ∷ c.user ∷ c.group ∷ decimal c.size ∷ decimal c.mtime ∷ c.path ∷ []

abbrev pub columns_line : ColumnsView → List ℕ
columns_line c = c.permission ++ (flat_map spaced (later_texts c) ++ 10 ∷ [])

abbrev pub entry_line : Row → List ℕ
entry_line row = columns_line (columns_of row)

-- ## A listing
-- the rows right under a directory, in the order of a walk, which is that of their names
abbrev pub rows_in : List ℕ → List Row → List Row
rows_in path rows = filter (λ row. is_right_under path row.path) rows

-- how many there are, where there are some
abbrev pub found_line : ℕ → List ℕ
found_line zero = []
found_line (suc n) = codes "Found " ++ (decimal (suc n) ++ codes " items\n")

abbrev pub directory_text : List ℕ → List Row → List ℕ
directory_text path rows = found_line (length (rows_in path rows)) ++ flat_map entry_line (rows_in path rows)

-- by what stands at the path
abbrev pub text_at : List ℕ → List Row → Inode → List ℕ
text_at path rows (Dir mtime permission user group names space) = directory_text path rows
text_at path rows (File replication mtime atime block_size permission user group lengths under_construction) =
    entry_line (pair path (File replication mtime atime block_size permission user group lengths under_construction))

-- none where nothing stands at the path
abbrev pub path_listing : List ℕ → List Row → Option (List ℕ)
path_listing path rows = option_map (text_at path rows) (find path rows)

-- ## The right answer
-- by what the bytes are read as; lack of memory is one everywhere
abbrev pub IsPathAnswer : List ℕ → ReadImage → PathListing → Type 0
IsPathAnswer path (Image space txid) (Text text) = path_listing path space.pairs ≡ Some text.items
IsPathAnswer path (Image space txid) NoPath = find path space.pairs ≡ None
IsPathAnswer path (Image space txid) (BadBytes place cause) = ⊥
IsPathAnswer path (Image space txid) OutOfMemory = Unit {0}
IsPathAnswer path (BadImage place cause) (Text text) = ⊥
IsPathAnswer path (BadImage place cause) NoPath = ⊥
IsPathAnswer path (BadImage place cause) (BadBytes at of) = (at ≡ place) × (cause_of cause ≡ Some of)
IsPathAnswer path (BadImage place cause) OutOfMemory = Unit {0}

-- what is told of a path of the image that the bytes are, or their first fault
abbrev pub IsPathListed : List ℕ → List ℕ → PathListing → Type 0
IsPathListed path bytes listing = IsPathAnswer path (reading_of bytes) listing

-- ## What the code appends
-- the path of a name in a directory, and the line of what stands at a path
abbrev pub path_in : List ℕ → List ℕ → List ℕ
path_in directory name = stem directory ++ 47 ∷ name

abbrev pub line_of : List ℕ → Option Inode → List ℕ
line_of path None = []
line_of path (Some inode) = entry_line (pair path inode)

abbrev pub line_at : List Row → List ℕ → List ℕ
line_at rows path = line_of path (find path rows)
