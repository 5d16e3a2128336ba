-- How long a field is, which rule it breaks first, and which fields are of some kinds.
use Rattle.std.specs.Prelude.{◌≡◌, ℕ, ◌+◌, ◌^◌, List, [], ◌∷◌, ◌++◌, length, take, drop, slice_index, Option, Some, None, nat_lt, if◌then◌else◌}
use Rattle.std.specs.List.{list_all}
use Rattle.std.specs.Char.{is_ascii_graphic}
use Rattle.std.specs.Int.{w16, w64, from_be_bytes}
use Rattle.edit_ops.specs.Fields.{Kind, Field, text, small, number, flag, client, call_number, kind_of_field, limit, IsGood, follow}

-- the length that the first two bytes of a text tell
abbrev pub told_length : List ℕ → ℕ
told_length bytes = from_be_bytes w16 (take 2 bytes)

-- the least length of a field of this kind that begins as these bytes do
abbrev pub least : Kind → List ℕ → ℕ
least (text t) bytes = if nat_lt (length bytes) 2 then 2 else 2 + told_length bytes
least (small s) bytes = 2
least number bytes = 8
least flag bytes = 1
least client bytes = 16
least call_number bytes = 4

-- The first rule that the field at the front breaks. 1: no text is longer than its limit. 2: each
-- byte of a text is from 0x21 to 0x7E. 3: a flag is 0 or 1. 4: no number is above 2^62.
abbrev pub broken_rule : Kind → List ℕ → Option ℕ
broken_rule (text t) bytes = if nat_lt (limit t) (told_length bytes) then Some 1 else (if list_all is_ascii_graphic (take (told_length bytes) (drop 2 bytes)) then None else Some 2)
broken_rule (small s) bytes = None
broken_rule number bytes = if nat_lt (2 ^ 62) (from_be_bytes w64 (take 8 bytes)) then Some 4 else None
broken_rule flag bytes = if nat_lt 1 (slice_index bytes 0) then Some 3 else None
broken_rule client bytes = None
broken_rule call_number bytes = None

-- The fields are good ones of these kinds, one after the other, where a count asks for as many
-- more; what is left of the kinds is still to come.
abbrev pub Matches : List Kind → List Field → List Kind → Type 0
Matches kinds [] left = kinds ≡ left
Matches [] (field ∷ fields) left = ⊥
Matches (kind ∷ kinds) (field ∷ fields) left = (kind_of_field field ≡ kind) × IsGood field × Matches (follow field ++ kinds) fields left
