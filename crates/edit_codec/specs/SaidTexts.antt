-- Which texts are those of edits, by a test; and the words of such a text.
use Rattle.std.specs.Prelude.{◌≡◌, ℕ, ◌<◌, List, [], ◌∷◌, ◌++◌, length, Bool, true, false, Option, Some, None, Result, Ok, Err, ◌==◌, ◌&&◌, if◌then◌else◌, codes}
use Rattle.std.specs.List.{find, flat_map, list_all, AllByRecursion}
use Rattle.std.specs.Char.{is_ascii_graphic}
use Rattle.std.specs.Str.{bytes_eq}
use Rattle.edit_codec.specs.declared.bad_text.BadText.{BadText}
use Rattle.edit_ops.specs.declared.kind.OpKind.{OpKind}
use Rattle.edit_ops.specs.declared.kind.OpKind.TheVariants as kinds
use Rattle.edit_ops.specs.Words.{verb}
use Rattle.edit_ops.specs.Fields.{Field, client, call_number}
use Rattle.edit_ops.specs.Records.{EditView, layout}
use Rattle.edit_codec.specs.EditTexts.{IsText}
use Rattle.edit_codec.specs.Saying.{split_word, fields_said}

-- ## The test
-- the kinds of which a script has edits: all but the marks
abbrev pub said_kinds : List OpKind
said_kinds =
    kinds.Add ∷ kinds.RenameOld ∷ kinds.Delete ∷ kinds.Mkdir ∷ kinds.SetReplication ∷ kinds.SetPermissions ∷ kinds.SetOwner ∷ kinds.Close ∷
    kinds.Times ∷ kinds.SetQuota ∷ kinds.Rename ∷ kinds.ConcatDelete ∷ []

-- the kind that a first word tells
unfoldable pub kind_said : List ℕ → Option OpKind
kind_said word = find (λ kind. bytes_eq word (verb kind)) said_kinds

-- fields were said, and no word is left
abbrev pub says_all : Result (List Field × List ℕ) BadText → Bool
says_all (Err f) = false
says_all (Ok x) = length x.1 == 0

abbrev pub says_fields : Option OpKind → List ℕ → Bool
says_fields None words = false
says_fields (Some kind) words = says_all (fields_said (layout kind) words)

-- the words are those of what an edit does
unfoldable pub is_line_text : List ℕ → Bool
is_line_text words = says_fields (kind_said (split_word words).0) (split_word words).1

-- a space, and such words after it
abbrev pub is_line_after : List ℕ → Bool
is_line_after [] = false
is_line_after (b ∷ words) = (b == 32) && is_line_text words

-- a call was said, and what it asked for stands after it
abbrev pub is_called_text : Result (List Field × List ℕ) BadText → Bool
is_called_text (Err f) = false
is_called_text (Ok x) = is_line_after x.1

-- the text is that of an edit in a script
unfoldable pub is_edit_text : List ℕ → Bool
is_edit_text text = if bytes_eq (split_word text).0 (codes "call") then is_called_text (fields_said (client ∷ call_number ∷ []) (split_word text).1) else is_line_text text

-- ## Words
-- bytes from 0x21 to 0x7E, one or more
pub record IsGraphic (word : List ℕ) : Type 0 where
  pub some : 0 < length word
  pub graphic : list_all is_ascii_graphic word ≡ true

-- a first word, and the others each after one space
pub record IsWorded (text : List ℕ) : Type 0 where
  pub first : List ℕ
  pub others : List (List ℕ)
  pub words : AllByRecursion IsGraphic (first ∷ others)
  pub spelled : text ≡ first ++ flat_map (λ word. 32 ∷ word) others

-- ## What holds of every text
abbrev pub EditsPassTheTest : Type 0
EditsPassTheTest = (text : List ℕ) (e : EditView) → IsText text e → is_edit_text text ≡ true

abbrev pub WhatPassesIsOfAnEdit : Type 0
WhatPassesIsOfAnEdit = (text : List ℕ) → is_edit_text text ≡ true → (e : EditView) × IsText text e

abbrev pub TextsOfEditsAreWords : Type 0
TextsOfEditsAreWords = (text : List ℕ) (e : EditView) → IsText text e → IsWorded text
