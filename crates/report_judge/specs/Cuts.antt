-- A text at its first byte of a kind, and at its arrow.
use Rattle.std.specs.Prelude.{ℕ, ◌+◌, ◌-◌, ◌==◌, ◌||◌, nat_lt, Bool, List, length, take, drop, Option, Some, None, if◌then◌else◌, codes}
use Rattle.std.specs.List.{position_or_len}
use Rattle.std.specs.Str.{bytes_eq}

-- the place of the first byte of this kind, or how many bytes there are
abbrev pub place_in : ℕ → List ℕ → ℕ
place_in c text = position_or_len (λ b. b == c) text

abbrev pub cut_to : List ℕ → ℕ → Option (List ℕ × List ℕ)
cut_to text at = if nat_lt at (length text) then Some (take at text, drop (at + 1) text) else None

-- what stands before and after the first byte of this kind
unfoldable pub cut_in : ℕ → List ℕ → Option (List ℕ × List ℕ)
cut_in c text = cut_to text (place_in c text)

-- a byte `>` stands in the line
unfoldable pub has_arrow : List ℕ → Bool
has_arrow line = nat_lt (place_in 62 line) (length line)

abbrev pub arrow_at : List ℕ → ℕ → Option (List ℕ × List ℕ)
arrow_at line at =
    if nat_lt at 2 || nat_lt (length line) (at + 2) then None
    else (if bytes_eq (take 4 (drop (at - 2) line)) (codes " -> ") then Some (take (at - 2) line, drop 4 (drop (at - 2) line)) else None)

-- what stands before and after the arrow, whose `>` is the line's first
unfoldable pub arrow_in : List ℕ → Option (List ℕ × List ℕ)
arrow_in line = arrow_at line (place_in 62 line)
