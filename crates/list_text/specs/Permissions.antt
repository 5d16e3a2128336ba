-- Permissions as letters.
use Rattle.std.specs.Prelude.{ℕ, ◌/◌, ◌%◌, Bool, true, false, ◌==◌, List, [], ◌∷◌, if◌then◌else◌}

-- whether a bit is set, by its weight
abbrev pub has_bit : ℕ → ℕ → Bool
has_bit permission weight = permission / weight % 2 == 1

-- a letter where its bit is set, else `-`
abbrev pub letter : ℕ → ℕ → ℕ → ℕ
letter permission weight glyph = if has_bit permission weight then glyph else 45

-- The last letter. Where the sticky bit (1000 octal) is set it is `t` in the place of `x`, and `T`
-- in that of `-`.
abbrev pub last_letter : ℕ → ℕ
last_letter permission =
    if has_bit permission 512 then (if has_bit permission 1 then 116 else 84) else letter permission 1 120

-- `d` for a directory
abbrev pub kind_letter : Bool → ℕ
kind_letter true = 100
kind_letter false = 45

-- whether it is a directory, and what its user, its group and others may: read, write and execute
abbrev pub letters : Bool → ℕ → List ℕ
letters is_directory permission =
    kind_letter is_directory
    ∷ letter permission 256 114 ∷ letter permission 128 119 ∷ letter permission 64 120
    ∷ letter permission 32 114 ∷ letter permission 16 119 ∷ letter permission 8 120
    ∷ letter permission 4 114 ∷ letter permission 2 119 ∷ last_letter permission ∷ []
