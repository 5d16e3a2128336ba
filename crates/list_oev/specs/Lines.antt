-- The lines of a listing of edits.
use Rattle.std.specs.Prelude.{ℕ, ◌+◌, List, [], ◌∷◌, ◌++◌, true, decimal}
use Rattle.edit_ops.specs.Records.{EditView}
use Rattle.edit_codec.specs.EditTexts.{text_of}

-- the txid of an edit, and its text
abbrev pub line : ℕ → EditView → List ℕ
line txid edit = decimal txid ++ 32 ∷ (text_of true edit ++ 10 ∷ [])

-- edits at consecutive txids, a line each
abbrev pub lines : ℕ → List EditView → List ℕ
lines txid [] = []
lines txid (edit ∷ edits) = line txid edit ++ lines (txid + 1) edits
