-- The file of an image's digest.
use Rattle.std.specs.Prelude.{◌≡◌, ◌⊎◌, ℕ, List, [], ◌∷◌, ◌++◌, length, codes}
use Rattle.hex.specs.Hex.{encode_lower, IsBytes}
use Rattle.ns_store.specs.Names.{Itself, name_of}

-- the digest as 32 digits, a space, a star, the image's name and a line feed
unfoldable pub digest_line : ℕ → List ℕ → List ℕ
digest_line txid digest = encode_lower digest ++ (codes " *" ++ (name_of txid Itself ++ 10 ∷ []))

-- the digits of this digest, in lower case
pub record IsDigits (digits digest : List ℕ) : Type 0 where
  pub bytes : IsBytes digest
  pub long : length digest ≡ 16
  pub spelled : digits ≡ encode_lower digest

-- the digest that the file holds: such a line, or the digits alone
pub record IsStored (txid : ℕ) (file digest : List ℕ) : Type 0 where
  pub bytes : IsBytes digest
  pub long : length digest ≡ 16
  pub spelled : (file ≡ encode_lower digest) ⊎ (file ≡ digest_line txid digest)
