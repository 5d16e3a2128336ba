-- How the text of an array begins.
use Rattle.std.specs.Prelude.{ℕ, List, [], ◌∷◌, Bool, false, ◌==◌, if◌then◌else◌}
use Rattle.json.specs.Ascii.{open_bracket}
use Rattle.json.specs.Word.{is_space}

-- the first byte that is no space of JSON opens an array
abbrev pub opens_array : List ℕ → Bool
opens_array [] = false
opens_array (x ∷ xs) = if is_space x then opens_array xs else x == open_bracket
