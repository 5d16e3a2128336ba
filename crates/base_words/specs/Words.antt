-- The words of a line.
use Rattle.std.specs.Prelude.{ℕ, List, [], ◌∷◌, Bool, true, false, ◌==◌}
use Rattle.std.specs.List.{join_with_byte, slice_split}

-- words, with one space between two
abbrev pub joined : List (List ℕ) → List ℕ
joined words = join_with_byte 32 words

abbrev pub is_space : ℕ → Bool
is_space b = b == 32

-- what stands before, between and after the spaces; a double, leading or trailing space makes an
-- empty word
unfoldable pub words_of : List ℕ → List (List ℕ)
words_of line = slice_split is_space line

abbrev pub is_empty : List ℕ → Bool
is_empty [] = true
is_empty (b ∷ bs) = false

-- the first run of bytes that aren't spaces
abbrev pub first_word : List (List ℕ) → List ℕ
first_word [] = []
first_word ([] ∷ words) = first_word words
first_word ((b ∷ bs) ∷ words) = b ∷ bs
