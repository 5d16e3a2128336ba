-- Edits as texts: a line of a script, or of the listing of edits.
use Rattle.std.specs.Prelude.{◌≡◌, ℕ, List, [], ◌∷◌, ◌++◌, Bool, true, false, Option, Some, None, codes}
use Rattle.std.specs.List.{flat_map, AllByRecursion}
use Rattle.edit_ops.specs.declared.kind.OpKind.{OpKind}
use Rattle.edit_ops.specs.declared.call.Call.{Call}
use Rattle.edit_ops.specs.Kinds.{is_mark}
use Rattle.edit_ops.specs.Words.{verb, name}
use Rattle.edit_ops.specs.Records.{EditView, kind_of, fields_of, call_fields}
use Rattle.edit_ops.specs.Grammar.{IsEdit}
use Rattle.edit_codec.specs.Spaced.{spaced, CanSay}

abbrev pub first_word : Bool → OpKind → List ℕ
first_word true kind = name kind
first_word false kind = verb kind

-- what stands before an edit that a client's call asked for
abbrev pub call_text : Option Call → List ℕ
call_text None = []
call_text (Some call) = codes "call" ++ (flat_map (spaced false) (call_fields (Some call)) ++ 32 ∷ [])

-- the text of an edit, in a script or (true) in a listing
abbrev pub text_of : Bool → EditView → List ℕ
text_of listing e = call_text e.call ++ (first_word listing (kind_of e.op) ++ flat_map (spaced listing) (fields_of e.op))

-- the text is that of the edit in a script
pub record IsText (text : List ℕ) (e : EditView) : Type 0 where
  pub edit : IsEdit e
  pub no_mark : is_mark (kind_of e.op) ≡ false
  pub said : AllByRecursion CanSay (fields_of e.op)
  pub spelled : text ≡ text_of false e
