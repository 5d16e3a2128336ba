-- A source that is read to its end, and a text that is written whole.
use Rattle.std.specs.Prelude.{ℕ, ◌≡◌, List, [], Option, Some, None, take}
use Rattle.std.specs.Io.KnownBytes.{Consumes, Appends}

-- where the source told its bytes, these are all that it had left, and it tells that none is left
abbrev pub GivesAll : Option (List ℕ) → Option (List ℕ) → List ℕ → Type 0
GivesAll None now bytes = Unit {0}
GivesAll (Some told) now bytes = (bytes ≡ told) × (now ≡ Some [])

-- where the source told its bytes, it lost some of them from the front, or none
abbrev pub GivesFront : Option (List ℕ) → Option (List ℕ) → Type 0
GivesFront before now = (bytes : List ℕ) × Consumes before now bytes

-- where the sink told its bytes, it took a prefix of these
abbrev pub TakesFront : Option (List ℕ) → Option (List ℕ) → List ℕ → Type 0
TakesFront before now bytes = (n : ℕ) × Appends before now (take n bytes)
