-- What a save of a namespace makes of the files, and what a load answers of them.
use Rattle.std.specs.Prelude.{◌≡◌, ◌⊎◌, ◌↔◌, ℕ, ◌≤◌, ◌^◌, true, List, Option, Some, None, is_ok}
use Rattle.base_disk.specs.Files.{Files}
use Rattle.md5.specs.Md5.{md5}
use Rattle.ns_tree.specs.Space.{Space, AreRising}
use Rattle.ns_image.specs.Layouts.{image_bytes}
use Rattle.ns_image.specs.Reading.{head_at, reading_of}
use Rattle.ns_image.specs.declared.answer.ReadImage.{ReadImage}
use Rattle.ns_image.specs.declared.answer.ReadImage.TheVariants as read
use Rattle.ns_image.specs.declared.image_cause.ImageCause.TheVariants as causes
use Rattle.ns_store.specs.Images.{Image, image_in}
use Rattle.ns_store.specs.Digests.{IsStored, digest_line}
use Rattle.ns_store.specs.Saves.{Saves}
use Rattle.ns_store.specs.Answers.{IsLoadedOf}
use Rattle.ns_store.specs.declared.loaded_bytes.LoadedBytes.{LoadedBytes}
use Rattle.ns_store.specs.declared.loaded_bytes.LoadedBytes.TheVariants as bytes
use Rattle.ns_store.specs.declared.loaded.Loaded.{Loaded}
use Rattle.ns_store.specs.declared.loaded.Loaded.TheVariants as loaded

-- The namespace is saved: its image with the digest of that, and the image is read as this
-- namespace and txid.
pub record SavesImage (txid : ℕ) (namespace : Space) (old new : Files) : Type 0 where
  pub saves : Saves txid (image_bytes 2 namespace txid) (digest_line txid (md5 (image_bytes 2 namespace txid))) old new
  pub read_back : reading_of (image_bytes 2 namespace txid) ≡ read.Image namespace txid

-- its bytes are these, and their digest is the stored one
pub record HasBytes (txid : ℕ) (image : Option Image) (bytes : List ℕ) : Type 0 where
  pub digest : List ℕ
  pub there : image ≡ Some record { bytes = bytes; digest = digest }
  pub stored : IsStored txid digest (md5 bytes)

-- what is answered of this image
abbrev pub IsAnswerOf : ℕ → Option Image → Loaded → Type 0
IsAnswerOf txid image (loaded.Image namespace told) = (found : List ℕ) × HasBytes txid image found × (reading_of found ≡ read.Image namespace told)
IsAnswerOf txid image loaded.NoImage = image ≡ None
IsAnswerOf txid image (loaded.DigestDiffers stored computed) = IsLoadedOf txid image (bytes.DigestDiffers stored computed)
IsAnswerOf txid image (loaded.BadImage place cause) =
    ((found : List ℕ) × HasBytes txid image found × (reading_of found ≡ read.BadImage place cause))
    ⊎ (IsLoadedOf txid image bytes.BadDigest × (place ≡ 0) × (cause ≡ causes.Digest))

-- a txid above 2^62 is that of no image
abbrev pub IsAnswer : Files → ℕ → Loaded → Type 0
IsAnswer files txid answer = (txid ≤ 2 ^ 62 → IsAnswerOf txid (image_in files txid) answer) × ((txid ≤ 2 ^ 62 → ⊥) → answer ≡ loaded.NoImage)

-- what is loaded of this txid is this namespace, and the same txid
abbrev pub LoadsAs : ℕ → Space → Files → Type 0
LoadsAs txid namespace files = (answer : Loaded) → IsAnswer files txid answer ↔ (answer ≡ loaded.Image namespace txid)

-- the txid that an image's bytes tell is within its limit, and no call that its namespace remembers
-- is above it
abbrev pub IsWithin : Loaded → Type 0
IsWithin (loaded.Image namespace txid) = (txid ≤ 2 ^ 62) × AreRising 0 txid namespace.calls
IsWithin loaded.NoImage = Unit {0}
IsWithin (loaded.DigestDiffers stored computed) = Unit {0}
IsWithin (loaded.BadImage place cause) = Unit {0}

-- the answer of bytes by how they are read, and of what was read of the files
abbrev pub answer_of : ReadImage → Loaded
answer_of (read.Image namespace txid) = loaded.Image namespace txid
answer_of (read.BadImage place cause) = loaded.BadImage place cause

abbrev pub answer_to : LoadedBytes → Loaded
answer_to (bytes.Bytes found) = answer_of (reading_of found.items)
answer_to bytes.NoImage = loaded.NoImage
answer_to (bytes.DigestDiffers stored computed) = loaded.DigestDiffers stored computed
answer_to bytes.BadDigest = loaded.BadImage 0 causes.Digest

-- bytes were read that begin with the head of an image
abbrev pub HasHead : LoadedBytes → Type 0
HasHead (bytes.Bytes found) = is_ok (head_at found.items) ≡ true
HasHead bytes.NoImage = ⊥
HasHead (bytes.DigestDiffers stored computed) = ⊥
HasHead bytes.BadDigest = ⊥
