-- Texts that are ASCII.
use Rattle.std.proofs.Common.{◌≡◌, ℕ, zero, suc, ◌<◌, Bool, true, false, ◌&&◌, List, [], ◌∷◌, length, map, get_or, IsAscii, arith, lit<}
use Rattle.std.specs.List.{list_all, AllByRecursion}
use Rattle.std.specs.Char.{is_ascii_graphic}
use Rattle.json.specs.Json.{string}
use Rattle.list_text.specs.Values.{items_of, AreAsciiTexts}
use Rattle.std.proofs.lemmas.Bool.{and_parts}
use Rattle.std.proofs.lemmas.Bool.Decides.{nat_tests}

abbrev pub AreSmall : List ℕ → Type 0
AreSmall bs = AllByRecursion (λ b. b < 128) bs

pub ascii_of : (bs : List ℕ) → AreSmall bs → IsAscii bs
ascii_of [] h i = lit< tt
ascii_of (b ∷ bs) h zero = h.0
ascii_of (b ∷ bs) h (suc i) = ascii_of bs h.1 i

graphic_small : (b : ℕ) → is_ascii_graphic b ≡ true → b < 128
graphic_small b g = grind (arith, nat_tests)

all_small : (bs : List ℕ) → list_all is_ascii_graphic bs ≡ true → AreSmall bs
all_small [] g = tt
all_small (b ∷ bs) g = let p = and_parts (is_ascii_graphic b) (list_all is_ascii_graphic bs) g in (graphic_small b p.0, all_small bs p.1)

-- texts of printable bytes
pub graphic_ascii : (bs : List ℕ) → list_all is_ascii_graphic bs ≡ true → IsAscii bs
graphic_ascii bs g = ascii_of bs (all_small bs g)

-- what holds of each item, as it is seen, holds of the one at a place
pub each_at : {X Y : Type 0} (P : Y → Type 0) (f : X → Y) (xs : List X) (i : ℕ) (d : X) → AllByRecursion P (map f xs) → i < length xs → P (f (get_or xs i d))
each_at P f [] i d all lt = absurd (omega arith)
each_at P f (x ∷ xs) zero d all lt = all.0
each_at P f (x ∷ xs) (suc i) d all lt = each_at P f xs i d all.1 (omega arith)

-- the texts of an array
pub array_ascii : (ts : List (List ℕ)) → AreAsciiTexts (items_of (map string ts)) → AllByRecursion IsAscii ts
array_ascii [] h = tt
array_ascii (t ∷ ts) h = (h.0, array_ascii ts h.1)

pub texts_ascii : (ts : List (List ℕ)) → AllByRecursion IsAscii ts → AreAsciiTexts (items_of (map string ts))
texts_ascii [] h = tt
texts_ascii (t ∷ ts) h = (h.0, texts_ascii ts h.1)
