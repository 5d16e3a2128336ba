-- Which values of JSON are the objects of edits that a segment may hold.
use Rattle.std.specs.Prelude.{◌≡◌, ℕ, ◌+◌, ◌≤◌, List, [], ◌∷◌, length, Result, Ok, Err}
use Rattle.serde_json.specs.Data.{Data}
use Rattle.edit_ops.specs.declared.field_fault.ReadError.{ReadError}
use Rattle.edit_ops.specs.declared.field_fault.ReadError.TheVariants as errors
use Rattle.edit_ops.specs.Records.{EditView, record_of}
use Rattle.journal_core.specs.Limits.{max_number, max_body}
use Rattle.list_back.specs.declared.bad_object.BadObject.{BadObject}
use Rattle.list_back.specs.Objects.{IsObject}

-- the value is the object of the edit at the txid, which is at most 2^62, and the edit's record is
-- short enough
pub record IsEntry (txid : ℕ) (e : EditView) (d : Data) : Type 0 where
  pub object : IsObject txid e d
  pub small : length (record_of e) ≤ max_body
  pub within : txid ≤ max_number

-- each value is the object of the edit in its place
abbrev pub AreEntries : ℕ → List EditView → List Data → Type 0
AreEntries txid [] [] = Unit {0}
AreEntries txid [] (d ∷ ds) = ⊥
AreEntries txid (e ∷ es) [] = ⊥
AreEntries txid (e ∷ es) (d ∷ ds) = IsEntry txid e d × AreEntries (txid + 1) es ds

-- a right answer for the body of the edit whose object a value is; lack of memory is one everywhere
abbrev pub IsReadBody : ℕ → Data → Result (List ℕ) (ReadError BadObject) → Type 0
IsReadBody txid d (Ok body) = (e : EditView) × IsEntry txid e d × (body ≡ record_of e)
IsReadBody txid d (Err errors.Memory) = Unit {0}
IsReadBody txid d (Err (errors.Fault f)) = (e : EditView) → IsEntry txid e d → ⊥
