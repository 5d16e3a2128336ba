-- Fields of a fixed width: numbers as bytes, the greatest byte first.
use Rattle.std.specs.Prelude.{◌≡◌, ℕ, ◌+◌, ◌<◌, ◌≤◌, List, ◌++◌, length, take, drop, slice_index, Option, Some, None, nat_le, if◌then◌else◌}
use Rattle.std.specs.Int.{Width, byte_len, from_be_bytes, to_be_bytes}

-- numbers that are bytes
abbrev pub IsBytes : List ℕ → Type 0
IsBytes bytes = (i : ℕ) → slice_index bytes i < 256

-- the number in a field that begins at a place; none where the bytes end before the field does
abbrev pub number_at : Width → List ℕ → ℕ → Option ℕ
number_at w bytes at = if nat_le (at + byte_len w) (length bytes) then Some (from_be_bytes w (take (byte_len w) (drop at bytes))) else None

-- the bytes, with this text in place of as many from a place on
abbrev pub overwritten : List ℕ → ℕ → List ℕ → List ℕ
overwritten bytes at text = take at bytes ++ (text ++ drop (at + length text) bytes)

-- a number that is put into a field of this width is got back from it
abbrev pub IsGotBack : Width → ℕ → Type 0
IsGotBack w limit = (bytes : List ℕ) (at n : ℕ) → at + byte_len w ≤ length bytes → n < limit
    → number_at w (overwritten bytes at (to_be_bytes w n)) at ≡ Some n
