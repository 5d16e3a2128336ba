-- The fields at the front of bytes, with the first fault, as a source of bytes gives them.
use Rattle.std.specs.Prelude.{ℕ, ◌-◌, List, [], ◌∷◌, length, take, drop, slice_index, Option, Some, None, Result, Ok, Err, nat_lt, ◌==◌, if◌then◌else◌}
use Rattle.std.specs.Int.{w16, w32, w64, from_be_bytes}
use Rattle.edit_ops.specs.declared.field_fault.FieldFault.{FieldFault}
use Rattle.edit_ops.specs.declared.field_fault.FieldFault.TheVariants.{Short, Bad}
use Rattle.edit_ops.specs.Fields.{Kind, Field, text, small, number, flag, client, call_number, Text_, Small_, Number_, Flag_, Client_, Call_, follow}
use Rattle.edit_ops.specs.Rules.{told_length, least, broken_rule}
use Rattle.edit_ops.specs.Sources.{◌>>=◌, fields_read}

-- the field of this kind at the front, where it is whole and good
abbrev pub value_at : Kind → List ℕ → Field
value_at (text t) bytes = Text_ t (take (told_length bytes) (drop 2 bytes))
value_at (small s) bytes = Small_ s (from_be_bytes w16 (take 2 bytes))
value_at number bytes = Number_ (from_be_bytes w64 (take 8 bytes))
value_at flag bytes = Flag_ (slice_index bytes 0 == 1)
value_at client bytes = Client_ (take 16 bytes)
value_at call_number bytes = Call_ (from_be_bytes w32 (take 4 bytes))

abbrev pub judged : Kind → List ℕ → Option ℕ → Result (Field × List ℕ) FieldFault
judged kind bytes None = Ok (value_at kind bytes, drop (least kind bytes) bytes)
judged kind bytes (Some rule) = Err (Bad (length bytes) rule)

unfoldable pub field_at : Kind → List ℕ → Result (Field × List ℕ) FieldFault
field_at kind bytes = if nat_lt (length bytes) (least kind bytes) then Err (Short (least kind bytes - length bytes)) else judged kind bytes (broken_rule kind bytes)

-- fields that ask for no others
abbrev pub items_at : List Kind → List ℕ → Result (List Field × List ℕ) FieldFault
items_at [] bytes = Ok ([], bytes)
items_at (kind ∷ kinds) bytes = do
  item ← field_at kind bytes
  items ← items_at kinds item.1
  Ok (item.0 ∷ items.0, items.1)

-- a field, with those that it asks for
abbrev pub group_at : Kind → List ℕ → Result (List Field × List ℕ) FieldFault
group_at kind bytes = do
  field ← field_at kind bytes
  items ← items_at (follow field.0) field.1
  Ok (field.0 ∷ items.0, items.1)

abbrev pub fields_at : List Kind → List ℕ → Result (List Field × List ℕ) FieldFault
fields_at = fields_read group_at
