-- What a text is the script's text of.
use Rattle.std.specs.Prelude.{◌≡◌, ℕ, List, ◌++◌, false, Result, Ok, Err}
use Rattle.std.specs.List.{flat_map, AllByRecursion}
use Rattle.edit_ops.specs.declared.op.Op.{Op}
use Rattle.edit_codec.specs.declared.bad_text.BadText.{BadText}
use Rattle.edit_ops.specs.declared.field_fault.ReadError.{ReadError}
use Rattle.edit_ops.specs.declared.field_fault.ReadError.TheVariants as errors
use Rattle.edit_codec.specs.declared.said_text.ReadText.{ReadText}
use Rattle.edit_codec.specs.declared.said_text.ReadText.TheVariants as answers
use Rattle.edit_ops.specs.Kinds.{is_mark}
use Rattle.edit_ops.specs.Words.{verb}
use Rattle.edit_ops.specs.Fields.{IsGood}
use Rattle.edit_ops.specs.Records.{EditView, kind_of, fields_of}
use Rattle.edit_codec.specs.Spaced.{spaced, CanSay}
use Rattle.edit_codec.specs.EditTexts.{IsText}

-- the words are those of what an edit does
pub record IsLine (words : List ℕ) (op : Op) : Type 0 where
  pub good : AllByRecursion IsGood (fields_of op)
  pub said : AllByRecursion CanSay (fields_of op)
  pub no_mark : is_mark (kind_of op) ≡ false
  pub spelled : words ≡ verb (kind_of op) ++ flat_map (spaced false) (fields_of op)

abbrev pub IsReadLine : List ℕ → Result Op (ReadError BadText) → Type 0
IsReadLine words (Ok op) = IsLine words op
IsReadLine words (Err (errors.Fault f)) = (op : Op) → IsLine words op → ⊥
IsReadLine words (Err errors.Memory) = Unit {0}

abbrev pub IsReadEdit : List ℕ → Result EditView (ReadError BadText) → Type 0
IsReadEdit text (Ok e) = IsText text e
IsReadEdit text (Err (errors.Fault f)) = (e : EditView) → IsText text e → ⊥
IsReadEdit text (Err errors.Memory) = Unit {0}

-- the right answer for a text; lack of memory is one everywhere
abbrev pub IsReadText : List ℕ → ReadText → Type 0
IsReadText text (answers.Edit e) = IsText text e
IsReadText text answers.BadText = (e : EditView) → IsText text e → ⊥
IsReadText text answers.OutOfMemory = Unit {0}
