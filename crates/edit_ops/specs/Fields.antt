-- The fields of an edit's record, which of them are good, and how each is spelled.
use Rattle.std.specs.Prelude.{◌≡◌, ℕ, ◌^◌, ◌<◌, ◌≤◌, List, [], ◌∷◌, ◌++◌, length, Bool, replicate, IsTrue, if◌then◌else◌}
use Rattle.std.specs.List.{list_all, AllByRecursion}
use Rattle.std.specs.Char.{is_ascii_graphic}
use Rattle.std.specs.Int.{w16, w32, w64, to_be_bytes}

-- texts: a path; a user or a group; a user or a group that may be left as it is
pub data Text : Type 0 where
  path : Text
  owner : Text
  new_owner : Text

-- numbers of 16 bits: a replication, a permission, and how many numbers or paths follow
pub data Small : Type 0 where
  replication : Small
  permission : Small
  numbers : Small
  paths : Small

-- what kind of field stands in a place
pub data Kind : Type 0 where
  text : Text → Kind
  small : Small → Kind
  number : Kind
  flag : Kind
  client : Kind
  call_number : Kind

-- a field with its value
pub data Field : Type 0 where
  Text_ : Text → List ℕ → Field
  Small_ : Small → ℕ → Field
  Number_ : ℕ → Field
  Flag_ : Bool → Field
  Client_ : List ℕ → Field
  Call_ : ℕ → Field

abbrev pub kind_of_field : Field → Kind
kind_of_field (Text_ t bytes) = text t
kind_of_field (Small_ s n) = small s
kind_of_field (Number_ n) = number
kind_of_field (Flag_ b) = flag
kind_of_field (Client_ bytes) = client
kind_of_field (Call_ n) = call_number

-- how long a text may be
abbrev pub limit : Text → ℕ
limit path = 1000
limit owner = 32
limit new_owner = 32

-- a field that a record may have: no text is too long or has a byte outside 0x21 to 0x7E, no number
-- is above 2^62
abbrev pub IsGood : Field → Type 0
IsGood (Text_ t bytes) = (length bytes ≤ limit t) × IsTrue (list_all is_ascii_graphic bytes)
IsGood (Small_ s n) = n < 2 ^ 16
IsGood (Number_ n) = n ≤ 2 ^ 62
IsGood (Flag_ b) = Unit {0}
IsGood (Client_ bytes) = (length bytes ≡ 16) × AllByRecursion (λ b. b < 256) bytes
IsGood (Call_ n) = n < 2 ^ 32

-- a field as bytes: numbers with their greatest byte first, a text after its length of two bytes
abbrev pub field_bytes : Field → List ℕ
field_bytes (Text_ t bytes) = to_be_bytes w16 (length bytes) ++ bytes
field_bytes (Small_ s n) = to_be_bytes w16 n
field_bytes (Number_ n) = to_be_bytes w64 n
field_bytes (Flag_ b) = (if b then 1 else 0) ∷ []
field_bytes (Client_ bytes) = bytes
field_bytes (Call_ n) = to_be_bytes w32 n

-- what a count asks for: so many fields more
abbrev pub follow : Field → List Kind
follow (Small_ numbers n) = replicate n number
follow (Small_ paths n) = replicate n (text path)
follow field = []
