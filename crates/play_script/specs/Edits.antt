-- Edits in a line: their texts stand between words `;`.
use Rattle.std.specs.Prelude.{ℕ, ◌≡◌, List, [], ◌∷◌, ◌++◌, Bool, false, codes, map}
use Rattle.std.specs.List.{list_all, list_any, flat_map, slice_split}
use Rattle.std.specs.Str.{bytes_eq}
use Rattle.edit_ops.specs.Records.{EditView}
use Rattle.edit_codec.specs.EditTexts.{text_of, IsText}
use Rattle.edit_codec.specs.SaidTexts.{is_edit_text}
use Rattle.base_words.specs.Words.{joined, words_of}

-- the word between two edits
abbrev pub separator : List ℕ
separator = codes ";"

abbrev pub is_separator : List ℕ → Bool
is_separator word = bytes_eq word separator

-- the texts before, between and after the words `;`
unfoldable pub texts_between : List (List ℕ) → List (List ℕ)
texts_between words = map joined (slice_split is_separator words)

-- the words are one edit or more, with a word `;` between two
abbrev pub are_edits : List (List ℕ) → Bool
are_edits words = list_all is_edit_text (texts_between words)

-- the texts of edits, each after ` ; `
abbrev pub others_text : List EditView → List ℕ
others_text edits = flat_map (λ e. codes " ; " ++ text_of false e) edits

-- the texts of edits, with ` ; ` between two
abbrev pub edits_text : List EditView → List ℕ
edits_text [] = []
edits_text (e ∷ es) = text_of false e ++ others_text es

-- the edit's words in a script
abbrev pub edit_words : EditView → List (List ℕ)
edit_words e = words_of (text_of false e)

-- an edit that a script can say: it has a text, and none of its words is `;`
pub record IsSayable (e : EditView) : Type 0 where
  pub text : IsText (text_of false e) e
  pub apart : list_any is_separator (edit_words e) ≡ false
