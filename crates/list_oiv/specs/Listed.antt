-- The right answer to a question on the inodes of an image.
use Rattle.std.specs.Prelude.{◌≡◌, ℕ, List, Option, Some, None}
use Rattle.ns_tree.specs.declared.inode.Row.{Row}
use Rattle.ns_image.specs.declared.image_cause.ImageCause.{ImageCause}
use Rattle.ns_image.specs.declared.image_cause.ImageCause.TheVariants as image
use Rattle.ns_image.specs.declared.answer.ReadImage.{ReadImage}
use Rattle.ns_image.specs.declared.answer.ReadImage.TheVariants.{Image, BadImage}
use Rattle.ns_image.specs.Reading.{reading_of}
use Rattle.list_oiv.specs.declared.image_listing.ImageByteCause.{ImageByteCause}
use Rattle.list_oiv.specs.declared.image_listing.ImageByteCause.TheVariants as causes
use Rattle.list_oiv.specs.declared.image_listing.ImageListing.{ImageListing}
use Rattle.list_oiv.specs.declared.image_listing.ImageListing.TheVariants.{Text, BadBytes, OutOfMemory}

-- the cause of a fault of an image; no bytes have a wrong digest
abbrev pub cause_of : ImageCause → Option ImageByteCause
cause_of image.Short = Some causes.Short
cause_of image.Magic = Some causes.Magic
cause_of image.Layout = Some causes.Layout
cause_of image.Field = Some causes.Field
cause_of image.Order = Some causes.Order
cause_of image.NoParent = Some causes.NoParent
cause_of image.Trailing = Some causes.Trailing
cause_of image.Digest = None

-- the right answer, by what the bytes are read as; lack of memory is one everywhere
abbrev pub IsAnswer : (List Row → List ℕ) → ReadImage → ImageListing → Type 0
IsAnswer tell (Image space txid) (Text text) = text.items ≡ tell space.pairs
IsAnswer tell (Image space txid) (BadBytes place cause) = ⊥
IsAnswer tell (Image space txid) OutOfMemory = Unit {0}
IsAnswer tell (BadImage place cause) (Text text) = ⊥
IsAnswer tell (BadImage place cause) (BadBytes at of) = (at ≡ place) × (cause_of cause ≡ Some of)
IsAnswer tell (BadImage place cause) OutOfMemory = Unit {0}

-- what is told of the rows of the image that the bytes are, or their first fault
abbrev pub IsListed : (List Row → List ℕ) → List ℕ → ImageListing → Type 0
IsListed tell bytes listing = IsAnswer tell (reading_of bytes) listing

-- the answer is this text, unless memory ran out
abbrev pub GivesText : List ℕ → ImageListing → Type 0
GivesText text (Text given) = given.items ≡ text
GivesText text (BadBytes place cause) = ⊥
GivesText text OutOfMemory = Unit {0}

-- the answer is this fault, unless memory ran out
abbrev pub GivesFault : ℕ → ImageCause → ImageListing → Type 0
GivesFault place cause (Text given) = ⊥
GivesFault place cause (BadBytes at of) = (at ≡ place) × (cause_of cause ≡ Some of)
GivesFault place cause OutOfMemory = Unit {0}
