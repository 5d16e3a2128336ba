-- The bytes of number files and of paxos records.
use Rattle.std.specs.Prelude.{◌≡◌, ℕ, ◌≤◌, ◌^◌, List, [], ◌∷◌, ◌++◌, Option, Some, None, codes}
use Rattle.base_words.specs.Padded.{padded}

-- 19 digits and a line feed
abbrev pub number_bytes : ℕ → List ℕ
number_bytes n = padded 19 n ++ 10 ∷ []

-- the number that a file holds; an absent one holds 0
abbrev pub IsNumber : Option (List ℕ) → ℕ → Type 0
IsNumber None n = n ≡ 0
IsNumber (Some bytes) n = (n ≤ 2 ^ 62) × (bytes ≡ number_bytes n)

-- an accepted recovery: its epoch and the end of its segment
pub record Record : Type 0 where
  pub epoch : ℕ
  pub end : ℕ

-- both of 19 digits, with a space between and a line feed after
abbrev pub record_bytes : Record → List ℕ
record_bytes r = padded 19 r.epoch ++ 32 ∷ (padded 19 r.end ++ 10 ∷ [])

-- the record that a file holds
pub record IsRecord (bytes : List ℕ) (r : Record) : Type 0 where
  pub epoch : r.epoch ≤ 2 ^ 62
  pub end : r.end ≤ 2 ^ 62
  pub spelled : bytes ≡ record_bytes r

-- the name of the record of a segment
abbrev pub paxos_name : ℕ → List ℕ
paxos_name start = codes "paxos/" ++ padded 19 start
