-- Members of objects as JSON writes them, each after a comma.
use Rattle.std.specs.Prelude.{ℕ, ◌||◌, ◌&&◌, not, ◌==◌, nat_le, Bool, true, false, List, [], ◌∷◌, ◌++◌, map, codes, decimal, Option, Some, None, if◌then◌else◌}
use Rattle.std.specs.List.{flat_map}

-- ,"KEY":
unfoldable pub key_text : List ℕ → List ℕ
key_text key = codes ",\"" ++ (key ++ codes "\":")

unfoldable pub number_text : List ℕ → ℕ → List ℕ
number_text key n = key_text key ++ decimal n

-- an object's begin, whose first member is a number
unfoldable pub first_text : List ℕ → ℕ → List ℕ
first_text key n = codes "{\"" ++ (key ++ (codes "\":" ++ decimal n))

abbrev pub limit_digits : Option ℕ → List ℕ
limit_digits None = codes "-1"
limit_digits (Some n) = decimal n

-- a number, -1 for none
unfoldable pub limit_text : List ℕ → Option ℕ → List ℕ
limit_text key limit = key_text key ++ limit_digits limit

abbrev pub flag_word : Bool → List ℕ
flag_word true = codes "true"
flag_word false = codes "false"

unfoldable pub flag_text : List ℕ → Bool → List ℕ
flag_text key set = key_text key ++ flag_word set

unfoldable pub quoted : List ℕ → List ℕ
quoted text = codes "\"" ++ (text ++ codes "\"")

unfoldable pub word_text : List ℕ → List ℕ → List ℕ
word_text key word = key_text key ++ quoted word

-- ## Texts of any bytes: a byte that isn't printable, a quote and a backslash stand as a question mark
abbrev pub is_plain : ℕ → Bool
is_plain b = (nat_le 32 b && nat_le b 126) && not ((b == 34) || (b == 92))

abbrev pub plain_byte : ℕ → ℕ
plain_byte b = if is_plain b then b else 63

unfoldable pub plain : List ℕ → List ℕ
plain text = map plain_byte text

-- ## Arrays
abbrev pub array_text : List (List ℕ) → List ℕ
array_text [] = codes "[]"
array_text (item ∷ items) = codes "[" ++ (item ++ (flat_map (λ other. codes "," ++ other) items ++ codes "]"))

-- an object's begin, whose first member tells its kind
unfoldable pub kind_text : List ℕ → List ℕ
kind_text word = codes "{\"is\":" ++ quoted word

unfoldable pub closed : List ℕ
closed = codes "}"
