-- Lines of an input, and their limits.
use Rattle.std.specs.Prelude.{ℕ, ◌≢◌, ◌≤◌, List, [], ◌∷◌, ◌++◌, length}
use Rattle.std.specs.List.{flat_map}

-- the most bytes of a line, its LF not counted, and of all lines, the LFs counted
abbrev pub longest_line : ℕ
longest_line = 1048576

abbrev pub longest_input : ℕ
longest_input = 1073741824

-- no byte of it is an LF
abbrev pub IsLine : List ℕ → Type 0
IsLine [] = Unit {0}
IsLine (byte ∷ bytes) = (byte ≢ 10) × IsLine bytes

-- lines within the limit
abbrev pub AreLines : List (List ℕ) → Type 0
AreLines [] = Unit {0}
AreLines (line ∷ lines) = IsLine line × (length line ≤ longest_line) × AreLines lines

-- whole lines, each with its LF
abbrev pub lines_text : List (List ℕ) → List ℕ
lines_text lines = flat_map (λ line. line ++ 10 ∷ []) lines
