-- Which rules a file breaks, and which of them is told.
use Rattle.std.specs.Prelude.{◌≡◌, ◌≢◌, ◌⊎◌, ℕ, ◌+◌, ◌<◌, ◌≤◌, List, [], ◌∷◌, take, Option, Some, None}
use Rattle.std.specs.Int.{w64, from_be_bytes}
use Rattle.md5.specs.Md5.{md5}
use Rattle.base_disk.specs.Files.{Files, bytes_of}
use Rattle.base_files.specs.Records.{IsNumber}
use Rattle.disk_segment.specs.Stands.{IsRecordFile}
use Rattle.disk_files.specs.Durable.{number_name}
use Rattle.disk_files.specs.declared.node_number.NodeNumber.TheVariants.{Promised, Writer}
use Rattle.ns_image.specs.declared.image_cause.ImageCause.{ImageCause}
use Rattle.ns_image.specs.declared.answer.ReadImage.TheVariants.{BadImage}
use Rattle.ns_image.specs.Reading.{reading_of}
use Rattle.ns_store.specs.Names.{Itself, Digest, name_of}
use Rattle.ns_store.specs.Images.{Image, image_in}
use Rattle.ns_store.specs.Digests.{IsStored}
use Rattle.list_fsck.specs.declared.rule.Rule.{Rule}
use Rattle.list_fsck.specs.declared.rule.Rule.TheVariants as rule
use Rattle.list_fsck.specs.declared.finding.Finding.{Finding}
use Rattle.list_fsck.specs.declared.file_role.FileRole.{FileRole}
use Rattle.list_fsck.specs.declared.file_role.FileRole.TheVariants as role
use Rattle.list_fsck.specs.Segments.{TellsSegment, IsBadSegment}

abbrev pub number_of : Rule → ℕ
number_of rule.KnownName = 1
number_of rule.SegmentBytes = 2
number_of rule.Last = 3
number_of rule.Apart = 4
number_of rule.Grammar = 5
number_of rule.Digest = 6
number_of rule.Paired = 7
number_of rule.WriterPromised = 8
number_of rule.Start = 9
number_of rule.ImageBytes = 10

-- the order in which they are tried: 1, 5, 8, 2, 9, 3, 4, 7, 6, 10
abbrev pub in_order : List Rule
in_order =
    rule.KnownName ∷ rule.Grammar ∷ rule.WriterPromised ∷ rule.SegmentBytes ∷ rule.Start ∷ rule.Last ∷ rule.Apart ∷ rule.Paired ∷ rule.Digest ∷ rule.ImageBytes ∷ []

-- where nothing more is to be told of a file
abbrev pub AreZero : ℕ → ℕ → Type 0
AreZero v w = (v ≡ 0) × (w ≡ 0)

-- the first eight bytes of a digest as a number
abbrev pub front_number : List ℕ → ℕ
front_number digest = from_be_bytes w64 (take 8 digest)

-- the content begins at another txid than that of the name
pub record StartDiffers (file : Option (List ℕ)) (named told : ℕ) : Type 0 where
  pub next : ℕ
  pub content : TellsSegment (bytes_of file) told next
  pub differs : named ≢ told

-- the content ends at another txid than that of the name
pub record LastDiffers (file : Option (List ℕ)) (named told : ℕ) : Type 0 where
  pub start : ℕ
  pub next : ℕ
  pub content : TellsSegment (bytes_of file) start next
  pub told_is : told + 1 ≡ next
  pub differs : named ≢ told

-- the stored digest of an image isn't that of its bytes
pub record DigestDiffers (txid : ℕ) (found : Option Image) (v w : ℕ) : Type 0 where
  pub image : Image
  pub there : found ≡ Some image
  pub stored : List ℕ
  pub told : IsStored txid image.digest stored
  pub differs : stored ≢ md5 image.bytes
  pub first : v ≡ front_number stored
  pub second : w ≡ front_number (md5 image.bytes)

-- the file of an image's digest holds none, or else the image's bytes have their first fault at
-- this place
pub data IsBadImage (txid : ℕ) (found : Option Image) (v w : ℕ) : Type 0 where
  no_digest : (image : Image) → found ≡ Some image → ((digest : List ℕ) → IsStored txid image.digest digest → ⊥) → AreZero v w → IsBadImage txid found v w
  bad_bytes : (image : Image) (digest : List ℕ) (cause : ImageCause) → found ≡ Some image → IsStored txid image.digest digest
      → reading_of image.bytes ≡ BadImage v cause → w ≡ 0 → IsBadImage txid found v w

-- The file of this name and role breaks the rule, and these are the two numbers that are told.
-- Before it ends the last final segment, by the names.
abbrev pub Breaks : Files → ℕ → List ℕ → FileRole → Rule → ℕ → ℕ → Type 0
Breaks files before name role.Unknown rule.KnownName v w = AreZero v w
Breaks files before name (role.Number n) rule.Grammar v w = ((held : ℕ) → IsNumber (files (number_name n)) held → ⊥) × AreZero v w
Breaks files before name (role.Record start) rule.Grammar v w = (IsRecordFile (files name) → ⊥) × AreZero v w
Breaks files before name (role.Number Writer) rule.WriterPromised v w = IsNumber (files (number_name Writer)) v × IsNumber (files (number_name Promised)) w × (w < v)
Breaks files before name (role.InProgress start) rule.SegmentBytes v w = IsBadSegment (bytes_of (files name)) v × (w ≡ 0)
Breaks files before name (role.Final start last) rule.SegmentBytes v w = IsBadSegment (bytes_of (files name)) v × (w ≡ 0)
Breaks files before name (role.InProgress start) rule.Start v w = (v ≡ start) × StartDiffers (files name) v w
Breaks files before name (role.Final start last) rule.Start v w = (v ≡ start) × StartDiffers (files name) v w
Breaks files before name (role.Final start last) rule.Last v w = (v ≡ last) × LastDiffers (files name) v w
Breaks files before name (role.Final start last) rule.Apart v w = (v ≡ start) × (w ≡ before) × (start ≤ before)
Breaks files before name (role.Image txid) rule.Paired v w = (files (name_of txid Digest) ≡ None) × AreZero v w
Breaks files before name (role.Digest txid) rule.Paired v w = (files (name_of txid Itself) ≡ None) × AreZero v w
Breaks files before name (role.Image txid) rule.Digest v w = DigestDiffers txid (image_in files txid) v w
Breaks files before name (role.Image txid) rule.ImageBytes v w = IsBadImage txid (image_in files txid) v w
Breaks files before name _ _ v w = ⊥

-- the first of these rules that is broken, or none of them is
abbrev pub IsFirstBroken : (Rule → ℕ → ℕ → Type 0) → List Rule → Option Finding → Type 0
IsFirstBroken breaks [] found = found ≡ None
IsFirstBroken breaks (r ∷ rules) found =
    ((v : ℕ) × (w : ℕ) × breaks r v w × (found ≡ Some record { rule = r; first = v; second = w }))
    ⊎ (((v w : ℕ) → breaks r v w → ⊥) × IsFirstBroken breaks rules found)

-- what is told of the file of this name and role
abbrev pub IsVerdict : Files → ℕ → List ℕ → FileRole → Option Finding → Type 0
IsVerdict files before name role found = IsFirstBroken (Breaks files before name role) in_order found
