-- The members of an edit's object, each a key with its value, in the order of the edit's fields.
use Rattle.std.specs.Prelude.{◌≡◌, ℕ, List, [], ◌∷◌, ◌++◌, map, Option, Some, None, codes, unwrap_or}
use Rattle.std.specs.List.{AllByRecursion}
use Rattle.hex.specs.Hex.{encode_lower}
use Rattle.json.specs.Json.{Json, boolean, string}
use Rattle.list_text.specs.Values.{number_of, array_of}
use Rattle.serde_json.specs.Data as datum
use Rattle.serde_json.specs.Data.{Data}
use Rattle.serde_json.specs.Find.{get}
use Rattle.serde_json.specs.Read.{of_json}
use Rattle.edit_ops.specs.declared.call.Call.{Call}
use Rattle.edit_ops.specs.declared.op.Op.{Op}
use Rattle.edit_ops.specs.Fields.{Field, replication, permission, numbers, paths, Text_, Small_, Number_, Flag_, Client_, Call_}
use Rattle.edit_ops.specs.Records.{EditView, kind_of, fields_of, call_fields}
use Rattle.edit_ops.specs.Keys.{keys, call_keys, op_name}

-- a key with its value
abbrev pub Row : Type 0
Row = List ℕ × Json

-- the value of a field that counts no others
abbrev pub field_json : Field → Json
field_json (Text_ t s) = string s
field_json (Small_ s n) = number_of n
field_json (Number_ n) = number_of n
field_json (Flag_ b) = boolean b
field_json (Client_ bytes) = string (encode_lower bytes)
field_json (Call_ n) = number_of n

-- the values of fields; a count stands for the array of all fields after it
abbrev pub field_jsons : List Field → List Json
field_jsons [] = []
field_jsons (Text_ t s ∷ fs) = field_json (Text_ t s) ∷ field_jsons fs
field_jsons (Small_ replication n ∷ fs) = field_json (Small_ replication n) ∷ field_jsons fs
field_jsons (Small_ permission n ∷ fs) = field_json (Small_ permission n) ∷ field_jsons fs
field_jsons (Small_ numbers n ∷ fs) = array_of (map field_json fs) ∷ []
field_jsons (Small_ paths n ∷ fs) = array_of (map field_json fs) ∷ []
field_jsons (Number_ n ∷ fs) = field_json (Number_ n) ∷ field_jsons fs
field_jsons (Flag_ b ∷ fs) = field_json (Flag_ b) ∷ field_jsons fs
field_jsons (Client_ bytes ∷ fs) = field_json (Client_ bytes) ∷ field_jsons fs
field_jsons (Call_ n ∷ fs) = field_json (Call_ n) ∷ field_jsons fs

-- keys with their values
abbrev pub rows_of : List (List ℕ) → List Json → List Row
rows_of [] js = []
rows_of (k ∷ ks) [] = []
rows_of (k ∷ ks) (j ∷ js) = (k, j) ∷ rows_of ks js

abbrev pub op_rows : Op → List Row
op_rows op = rows_of (keys (kind_of op)) (field_jsons (fields_of op))

abbrev pub call_rows : Option Call → List Row
call_rows None = []
call_rows (Some call) = rows_of call_keys (field_jsons (call_fields (Some call)))

abbrev pub edit_rows : ℕ → EditView → List Row
edit_rows txid e = (codes "op", string (op_name (kind_of e.op))) ∷ (codes "txid", number_of txid) ∷ (call_rows e.call ++ op_rows e.op)

-- the value that JSON is read as
abbrev pub as_data : Json → Data
as_data j = unwrap_or (of_json j) datum.null

-- the object has these members
abbrev pub HasRows : Data → List Row → Type 0
HasRows d rows = AllByRecursion (λ row. get row.0 d ≡ Some (as_data row.1)) rows
