-- A text, line by line.
use Rattle.std.specs.Prelude.{ℕ, ◌≢◌, List, [], ◌∷◌, ◌++◌, Bool, false, ◌==◌, ◌&&◌, nat_le, if◌then◌else◌, length}
use Rattle.std.specs.List.{list_all, flat_map}

-- a line, and whether its LF is there
pub data Line : Type 0 where
  Ended : (bytes : List ℕ) → Line
  Open : (bytes : List ℕ) → Line

abbrev pub last_line : List ℕ → List Line
last_line [] = []
last_line (b ∷ bs) = Open (b ∷ bs) ∷ []

abbrev pub lines_from : List ℕ → List ℕ → List Line
lines_from [] sofar = last_line sofar
lines_from (b ∷ bs) sofar = if b == 10 then Ended sofar ∷ lines_from bs [] else lines_from bs (sofar ++ b ∷ [])

-- the lines of a text; only the last may lack its LF
unfoldable pub lines_of : List ℕ → List Line
lines_of bytes = lines_from bytes []

-- the text of lines that each have their LF
unfoldable pub ended : List (List ℕ) → List ℕ
ended lines = flat_map (λ line. line ++ 10 ∷ []) lines

-- that byte is not among them
abbrev pub Lacks : ℕ → List ℕ → Type 0
Lacks c [] = Unit {0}
Lacks c (b ∷ bs) = (b ≢ c) × Lacks c bs

-- a byte that may stand in a line: 0x20 to 0x7E
abbrev pub is_plain : ℕ → Bool
is_plain b = nat_le 32 b && nat_le b 126

-- the most bytes of a line, its LF not counted
abbrev pub longest_line : ℕ
longest_line = 16384

-- the bytes that a line may have
unfoldable pub is_line : List ℕ → Bool
is_line line = list_all is_plain line && nat_le (length line) longest_line

-- the line ended with its LF, and has bytes that a line may have
abbrev pub is_whole : Line → Bool
is_whole (Ended line) = is_line line
is_whole (Open line) = false
