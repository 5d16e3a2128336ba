-- Which edits have a record, and which bytes are the record of an edit.
use Rattle.std.specs.Prelude.{◌≡◌, ℕ, List, Bool, true, false}
use Rattle.std.specs.List.{AllByRecursion}
use Rattle.edit_ops.specs.declared.kind.OpKind.{OpKind}
use Rattle.edit_ops.specs.Kinds.{is_mark}
use Rattle.edit_ops.specs.Fields.{IsGood}
use Rattle.edit_ops.specs.Records.{EditView, kind_of, called, edit_fields, record_of}

-- no client asks for a mark
abbrev pub MayCall : OpKind → Bool → Type 0
MayCall kind false = Unit {0}
MayCall kind true = is_mark kind ≡ false

-- an edit that has a record
pub record IsEdit (e : EditView) : Type 0 where
  pub fields : AllByRecursion IsGood (edit_fields e)
  pub call : MayCall (kind_of e.op) (called e)

-- the bytes are the record of the edit, all of them
pub record IsRecord (body : List ℕ) (e : EditView) : Type 0 where
  pub edit : IsEdit e
  pub spelled : body ≡ record_of e
