-- The right answer, by what the bytes are read as.
use Rattle.std.proofs.Common.{◌≡◌, ℕ, true, List, Ok, Err, refl, subst}
use Rattle.std.specs.Prelude.{is_ok}
use Rattle.ns_tree.specs.declared.inode.Row.{Row}
use Rattle.ns_tree.specs.Space.{Space}
use Rattle.ns_image.specs.declared.image_cause.ImageCause.{ImageCause}
use Rattle.ns_image.specs.declared.answer.ReadImage.{ReadImage}
use Rattle.ns_image.specs.declared.answer.ReadImage.TheVariants.{Image, BadImage}
use Rattle.ns_image.specs.declared.answer.Unread.TheVariants.{BadBytes as Wrong}
use Rattle.ns_image.specs.Reading.{head_at, reading_of}
use Rattle.ns_image.specs.Rows.{HasRead}
use Rattle.list_oiv.specs.declared.image_listing.ImageListing.{ImageListing}
use Rattle.list_oiv.specs.declared.image_listing.ImageListing.TheVariants.{Text, BadBytes, OutOfMemory}
use Rattle.list_oiv.specs.Listed.{IsAnswer, IsListed, GivesText, GivesFault}
use Rattle.list_oiv.proofs.NoDigest.{image_begun}

text_given : (tell : List Row → List ℕ) (space : Space) (txid : ℕ) (given : ImageListing) → IsAnswer tell (Image space txid) given → GivesText (tell space.pairs) given
text_given tell space txid (Text text) h = h
text_given tell space txid (BadBytes place cause) h = h
text_given tell space txid OutOfMemory h = h

fault_given : (tell : List Row → List ℕ) (place : ℕ) (cause : ImageCause) (given : ImageListing) → IsAnswer tell (BadImage place cause) given → GivesFault place cause given
fault_given tell place cause (Text text) h = h
fault_given tell place cause (BadBytes at of) h = h
fault_given tell place cause OutOfMemory h = h

pub gives_text : (tell : List Row → List ℕ) (bytes : List ℕ) (given : ImageListing) → IsListed tell bytes given → (space : Space) (txid : ℕ) → reading_of bytes ≡ Image space txid
    → GivesText (tell space.pairs) given
gives_text tell bytes given h space txid e = text_given tell space txid given (subst (λ (r : ReadImage). IsAnswer tell r given) e h)

pub gives_fault : (tell : List Row → List ℕ) (bytes : List ℕ) (given : ImageListing) → IsListed tell bytes given → (place : ℕ) (cause : ImageCause) → reading_of bytes ≡ BadImage place cause
    → GivesFault place cause given
gives_fault tell bytes given h place cause e = fault_given tell place cause given (subst (λ (r : ReadImage). IsAnswer tell r given) e h)

-- the answer is right for what the bytes are read as
pub listed : (tell : List Row → List ℕ) (bytes : List ℕ) (read : ReadImage) (given : ImageListing) → read ≡ reading_of bytes → IsAnswer tell read given → IsListed tell bytes given
listed tell bytes read given e h = subst (λ (r : ReadImage). IsAnswer tell r given) e h

out_of_memory : (tell : List Row → List ℕ) (read : ReadImage) → IsAnswer tell read OutOfMemory
out_of_memory tell (Image space txid) = tt
out_of_memory tell (BadImage place cause) = tt

pub no_memory : (tell : List Row → List ℕ) (bytes : List ℕ) → IsListed tell bytes OutOfMemory
no_memory tell bytes = out_of_memory tell (reading_of bytes)

-- ## What has taken the rows
module _ {S : Type 0} (has_taken : S → List Row → Type 0) where
  pub some_taken : (read : ReadImage) (sink : S) → HasRead has_taken read (Ok sink) → (rows : List Row) × has_taken sink rows
  some_taken (Image space txid) sink h = (space.pairs, h)
  some_taken (BadImage place cause) sink h = absurd h

  pub rows_begun : (bytes : List ℕ) (sink : S) → HasRead has_taken (reading_of bytes) (Ok sink) → is_ok (head_at bytes) ≡ true
  rows_begun bytes sink h = by (reading_of bytes) refl h
    where
      by : (read : ReadImage) → reading_of bytes ≡ read → HasRead has_taken read (Ok sink) → is_ok (head_at bytes) ≡ true
      by (Image space txid) e given = image_begun bytes space txid e
      by (BadImage place cause) e given = absurd given

  pub rows_told : (tell : List Row → List ℕ) (read : ReadImage) (sink : S) (given : ImageListing) → HasRead has_taken read (Ok sink)
      → ((space : Space) (txid : ℕ) → has_taken sink space.pairs → IsAnswer tell (Image space txid) given) → IsAnswer tell read given
  rows_told tell (Image space txid) sink given h f = f space txid h
  rows_told tell (BadImage place cause) sink given h f = absurd h

  pub fault_is : (read : ReadImage) (place : ℕ) (cause : ImageCause) → HasRead has_taken read (Err (Wrong place cause)) → BadImage place cause ≡ read
  fault_is (Image space txid) place cause h = absurd h
  fault_is (BadImage at of) place cause h = λ i. BadImage (h.0 i) (h.1 i)
