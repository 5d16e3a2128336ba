-- Which images count in a folder.
use Rattle.std.specs.Prelude.{◌↔◌, ℕ, ◌≤◌, ◌^◌, List, Option, Some, None, IsSome, Contains}
use Rattle.std.specs.Ordering.{nat_cmp}
use Rattle.std.specs.List.Sorted.{IsStrictlySortedBy}
use Rattle.base_disk.specs.Files.{Files}
use Rattle.ns_store.specs.Names.{Itself, Digest, name_of}

-- the bytes of an image, and those of the file of its digest
pub record Image : Type 0 where
  pub bytes : List ℕ
  pub digest : List ℕ

abbrev pub image_of : Option (List ℕ) → Option (List ℕ) → Option Image
image_of (Some bytes) (Some digest) = Some record { bytes = bytes; digest = digest }
image_of (Some bytes) None = None
image_of None digest = None

-- the image of this txid that counts: both of its files are there
abbrev pub image_in : Files → ℕ → Option Image
image_in files txid = image_of (files (name_of txid Itself)) (files (name_of txid Digest))

abbrev pub Counts : Files → ℕ → Type 0
Counts files txid = (txid ≤ 2 ^ 62) × IsSome (image_in files txid)

-- these are the txids of the images that count, in order and each once
pub record ListsImages (txids : List ℕ) (files : Files) : Type 0 where
  pub each : (txid : ℕ) → Contains txids txid ↔ Counts files txid
  pub sorted : IsStrictlySortedBy nat_cmp txids
