-- The fields that a value of JSON holds, and how the members of an object give the fields of an
-- edit.
use Rattle.std.specs.Prelude.{ℕ, ◌-◌, ◌^◌, List, [], ◌∷◌, length, map, ◌&&◌, Option, Some, None, Result, Ok, Err, ok_or, option_map, option_and_then, nat_le, if◌then◌else◌}
use Rattle.std.specs.List.{list_all}
use Rattle.std.specs.Char.{is_ascii_graphic}
use Rattle.serde_json.specs.Data.{Data, Items, no_items, item}
use Rattle.serde_json.specs.Events.{items_len}
use Rattle.serde_json.specs.Find.{get, as_bool, as_number, as_str, as_array, as_u64}
use Rattle.edit_ops.specs.Fields.{Kind, Field, Text, path, replication, permission, numbers, paths, text, small, number, flag, client, call_number}
use Rattle.edit_ops.specs.Fields.{Text_, Small_, Number_, Flag_, Client_, Call_, limit}
use Rattle.edit_ops.specs.Sources.{◌>>=◌}
use Rattle.edit_codec.specs.Saying.{client_said}
use Rattle.list_back.specs.declared.bad_object.BadObject.{BadObject}

-- what is left to read of an object: its members of these keys
pub record Left : Type 0 where
  pub value : Data
  pub keys : List (List ℕ)

-- a number of digits alone, of at most so much
abbrev pub within : ℕ → ℕ → Option ℕ
within most n = if nat_le n most then Some n else None

abbrev pub number_in : ℕ → Data → Option ℕ
number_in most d = option_and_then (within most) (option_and_then as_u64 (as_number d))

-- a text that is short enough and printable
abbrev pub good_text : Text → List ℕ → Option (List ℕ)
good_text t s = if nat_le (length s) (limit t) && list_all is_ascii_graphic s then Some s else None

abbrev pub text_in : Text → Data → Option (List ℕ)
text_in t d = option_and_then (good_text t) (as_str d)

-- an array of these, of at most 65,535
abbrev pub list_in : {A : Type 0} → (Data → Option A) → Items → Option (List A)
list_in f no_items = Some []
list_in f (item d ds) = option_and_then (λ x. option_map (λ xs. x ∷ xs) (list_in f ds)) (f d)

abbrev pub few : Items → Option Items
few ds = if nat_le (items_len ds) 65535 then Some ds else None

abbrev pub items_in : {A : Type 0} → (Data → Option A) → Data → Option (List A)
items_in f d = option_and_then (list_in f) (option_and_then few (as_array d))

-- the field of this kind that a value holds, with those that it counts
unfoldable pub fields_in : Kind → Data → Option (List Field)
fields_in (text t) d = option_map (λ s. Text_ t s ∷ []) (text_in t d)
fields_in (small replication) d = option_map (λ n. Small_ replication n ∷ []) (number_in 65535 d)
fields_in (small permission) d = option_map (λ n. Small_ permission n ∷ []) (number_in 65535 d)
fields_in (small numbers) d = option_map (λ ns. Small_ numbers (length ns) ∷ map Number_ ns) (items_in (number_in (2 ^ 62)) d)
fields_in (small paths) d = option_map (λ ps. Small_ paths (length ps) ∷ map (Text_ path) ps) (items_in (text_in path) d)
fields_in number d = option_map (λ n. Number_ n ∷ []) (number_in (2 ^ 62) d)
fields_in flag d = option_map (λ b. Flag_ b ∷ []) (as_bool d)
fields_in client d = option_map (λ bytes. Client_ bytes ∷ []) (option_and_then client_said (as_str d))
fields_in call_number d = option_map (λ n. Call_ n ∷ []) (number_in (2 ^ 32 - 1) d)

-- what is wrong with all other values
abbrev pub bad_object : BadObject
bad_object = record {}

abbrev pub value_read : Kind → Data → Result (List Field) BadObject
value_read kind d = ok_or (fields_in kind d) bad_object

-- the value at the next key, and the keys after it
abbrev pub next_value : Data → List (List ℕ) → Result (Data × List (List ℕ)) BadObject
next_value d [] = Err bad_object
next_value d (key ∷ keys) = ok_or (option_map (λ v. (v, keys)) (get key d)) bad_object

-- as a source of an object's members gives them
abbrev pub object_group : Kind → Left → Result (List Field × Left) BadObject
object_group kind left = do
  next ← next_value left.value left.keys
  fields ← value_read kind next.0
  Ok (fields, record { value = left.value; keys = next.1 })
