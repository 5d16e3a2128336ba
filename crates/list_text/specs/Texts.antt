-- The text of a row: its columns in their order, between tabs.
use Rattle.std.specs.Prelude.{ℕ, List, [], ◌∷◌, ◌++◌, codes, decimal, Option, Some, None}
use Rattle.std.specs.List.{flat_map}
use Rattle.ns_tree.specs.declared.inode.Row.{Row}
use Rattle.list_text.specs.declared.row_text.Column.{Column}
use Rattle.list_text.specs.declared.row_text.Column.TheVariants as lent
use Rattle.list_text.specs.Columns.{ColumnsView, columns_of}

-- no quota is -1
abbrev pub quota_text : Option ℕ → List ℕ
quota_text None = codes "-1"
quota_text (Some n) = decimal n

abbrev pub tabbed : List ℕ → List ℕ
tabbed text = 9 ∷ text

-- the columns after the path
abbrev pub texts : ColumnsView → List (List ℕ)
texts c =
    decimal c.replication ∷ decimal c.mtime ∷ decimal c.atime ∷ decimal c.block_size ∷ decimal c.block_count ∷ decimal c.size
    ∷ quota_text c.names ∷ quota_text c.space ∷ c.permission ∷ c.user ∷ c.group ∷ []

abbrev pub row_text : Row → List ℕ
row_text row = let c = columns_of row in c.path ++ flat_map tabbed (texts c)

-- the names of the columns, as a line
abbrev pub column_names : List (List ℕ)
column_names =
    codes "Replication" ∷ codes "ModificationTime" ∷ codes "AccessTime" ∷ codes "PreferredBlockSize" ∷ codes "BlocksCount" ∷ codes "FileSize"
    ∷ codes "NSQUOTA" ∷ codes "DSQUOTA" ∷ codes "Permission" ∷ codes "UserName" ∷ codes "GroupName" ∷ []

abbrev pub header : List ℕ
header = codes "Path" ++ flat_map tabbed column_names

-- a column as the code lends it
abbrev pub column_text : Column → List ℕ
column_text (lent.Number n) = decimal n
column_text (lent.Size n) = decimal n
column_text (lent.Quota q) = quota_text q
column_text (lent.Text bytes) = bytes.now
