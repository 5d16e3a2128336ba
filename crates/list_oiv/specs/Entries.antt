-- The inodes of an image as JSON: for each row an object, its keys in the order of their bytes.
use Rattle.std.specs.Prelude.{◌≡◌, ℕ, ◌^◌, ◌<◌, List, [], ◌∷◌, map, codes, IsAscii}
use Rattle.std.specs.List.{flat_map}
use Rattle.json.specs.Json.{Json, string}
use Rattle.json.specs.Token.{Token}
use Rattle.json.specs.Tree.{json_tokens}
use Rattle.json.specs.Written.{Written}
use Rattle.ns_tree.specs.declared.inode.Row.{Row}
use Rattle.list_text.specs.Columns.{ColumnsView, columns_of}
use Rattle.list_text.specs.Values.{number_of, limit_of, array_of, object_of, json_line}

abbrev pub members : ColumnsView → List (List ℕ × Json)
members c =
    (codes "AccessTime", number_of c.atime)
    ∷ (codes "BlocksCount", number_of c.block_count)
    ∷ (codes "DSQUOTA", limit_of c.space)
    ∷ (codes "FileSize", number_of c.size)
    ∷ (codes "GroupName", string c.group)
    ∷ (codes "ModificationTime", number_of c.mtime)
    ∷ (codes "NSQUOTA", limit_of c.names)
    ∷ (codes "Path", string c.path)
    ∷ (codes "Permission", string c.permission)
    ∷ (codes "PreferredBlockSize", number_of c.block_size)
    ∷ (codes "Replication", number_of c.replication)
    ∷ (codes "UserName", string c.user) ∷ []

abbrev pub row_json : Row → Json
row_json row = object_of (members (columns_of row))

abbrev pub rows_json : List Row → List ℕ
rows_json rows = json_line (array_of (map row_json rows))

-- columns that fit JSON as it is written: texts of ASCII, and a size of 64 bits
pub record FitsJson (c : ColumnsView) : Type 0 where
  pub path : IsAscii c.path
  pub permission : IsAscii c.permission
  pub user : IsAscii c.user
  pub group : IsAscii c.group
  pub size : c.size < 2 ^ 64

-- an array was begun, and these rows have their objects in it
pub record HasEntries (w : Written) (rows : List Row) : Type 0 where
  pub before : w.before ≡ []
  pub tokens : w.tokens ≡ Token.begin_array ∷ flat_map json_tokens (map row_json rows)
