-- Bytes as hexadecimal digits in lower case, two for each byte.
use Rattle.std.specs.Prelude.{ℕ, ◌+◌, ◌-◌, ◌*◌, ◌/◌, ◌%◌, ◌<◌, ◌&&◌, nat_lt, nat_le, List, [], ◌∷◌, Option, Some, None, if◌then◌else◌}

abbrev pub IsByte : ℕ → Type 0
IsByte b = b < 256

-- a digit of base 16
abbrev pub hex_digit : ℕ → ℕ
hex_digit d = if nat_lt d 10 then 48 + d else 87 + d

unfoldable pub hex_text : List ℕ → List ℕ
hex_text [] = []
hex_text (b ∷ bs) = hex_digit (b / 16) ∷ hex_digit (b % 16) ∷ hex_text bs

-- the value of a digit
abbrev pub digit_in : ℕ → Option ℕ
digit_in c = if nat_le 48 c && nat_le c 57 then Some (c - 48) else if nat_le 97 c && nat_le c 102 then Some (c - 87) else None

abbrev pub byte_on : Option ℕ → Option ℕ → Option (List ℕ) → Option (List ℕ)
byte_on (Some x) (Some y) (Some bs) = Some ((16 * x + y) ∷ bs)
byte_on (Some x) (Some y) None = None
byte_on (Some x) None bs = None
byte_on None y bs = None

-- the bytes that pairs of digits write; none where a byte is no digit, or stands alone
abbrev pub bytes_in : List ℕ → Option (List ℕ)
bytes_in [] = Some []
bytes_in (a ∷ []) = None
bytes_in (a ∷ b ∷ cs) = byte_on (digit_in a) (digit_in b) (bytes_in cs)
