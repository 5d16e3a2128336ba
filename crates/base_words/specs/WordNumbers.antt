-- Words that are numbers, in decimal without a leading zero.
use Rattle.std.specs.Prelude.{ℕ, ◌≡◌, ◌≤◌, ◌&&◌, nat_le, Bool, true, List, decimal}
use Rattle.std.specs.Str.{bytes_eq}
use Rattle.std.specs.Str.Parse.{digits_value}

-- a word that is a number of that range
unfoldable pub is_number : ℕ → ℕ → List ℕ → Bool
is_number least most word = nat_le least (digits_value 10 word) && nat_le (digits_value 10 word) most && bytes_eq word (decimal (digits_value 10 word))

-- the word is that number, of that range
abbrev pub Tells : ℕ → ℕ → List ℕ → ℕ → Type 0
Tells least most word n = (is_number least most word ≡ true) × (decimal n ≡ word) × (least ≤ n) × (n ≤ most)
