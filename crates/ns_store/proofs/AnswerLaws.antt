-- What is answered of the files of an image, and that a saved namespace is what is loaded.
use Rattle.std.proofs.Common.{inl, inr, ⊎_elim, ◌⊎◌, ◌≡◌, ◌≢◌, ℕ, zero, suc, ◌≤◌, ◌<◌, ◌^◌, List, [], ◌++◌, ap, sym, ◌∙◌, refl, subst, arith, length}
use Rattle.std.proofs.lemmas.Bool.{cases_lt}
use Rattle.std.proofs.Math.ListN.{get_or-append}
use Rattle.std.proofs.Math.Seq.{get_or-append_right}
use Rattle.std.specs.Prelude.{Option, Some, None, Result, Ok, Err, OnOk, slice_index}
use Rattle.std.specs.Int.{w32, to_le_bytes}
use Rattle.hex.specs.Hex.{IsBytes}
use Rattle.md5.specs.Md5.{md5, digest_bytes}
use Rattle.md5.proofs.StandardFacts.{length-md5}
use Rattle.base_disk.specs.Files.{Files}
use Rattle.base_disk.specs.View.{View, AllLeave}
use Rattle.base_disk.specs.Calls.{Happens}
use Rattle.ns_tree.specs.Space.{Space}
use Rattle.ns_image.specs.Layouts.{image_bytes}
use Rattle.ns_image.specs.Reading.{reading_of}
use Rattle.ns_image.specs.declared.answer.ReadImage.{ReadImage}
use Rattle.ns_image.specs.declared.answer.ReadImage.TheVariants as read
use Rattle.ns_store.specs.Images.{Image, image_in}
use Rattle.ns_store.specs.Digests.{IsStored, digest_line}
use Rattle.ns_store.specs.Saves.{Prepares, Saves}
use Rattle.ns_store.specs.Answers.{IsLoadedOf, IsLoaded}
use Rattle.ns_store.specs.Loads.{SavesImage, HasBytes, IsAnswerOf, IsAnswer, LoadsAs, answer_of, answer_to}
use Rattle.ns_store.specs.declared.loaded_bytes.LoadedBytes.{LoadedBytes}
use Rattle.ns_store.specs.declared.loaded_bytes.LoadedBytes.TheVariants as bytes
use Rattle.ns_store.specs.declared.loaded.Loaded.{Loaded}
use Rattle.ns_store.specs.declared.loaded.Loaded.TheVariants as loaded
use Rattle.ns_store.proofs.DigestLaws.{digits_of, one_digest}
use Rattle.ns_store.proofs.CountLaws.{before_it, after_it, only_others}

-- ## Answers
read_as : (t : ℕ) (image : Option Image) (found : List ℕ) → HasBytes t image found → (r : ReadImage) → reading_of found ≡ r → IsAnswerOf t image (answer_of r)
read_as t image found has (read.Image space told) e = (found, has, e)
read_as t image found has (read.BadImage place cause) e = inl (found, has, e)

answered_of : (t : ℕ) (image : Option Image) (found : LoadedBytes) → IsLoadedOf t image found → IsAnswerOf t image (answer_to found)
answered_of t image (bytes.Bytes found) is = read_as t image found.items (record { digest = is.0; there = is.1; stored = is.2 }) (reading_of found.items) refl
answered_of t image bytes.NoImage is = is
answered_of t image (bytes.DigestDiffers stored computed) is = is
answered_of t image bytes.BadDigest is = inr (is, refl, refl)

-- what is told of what was read is the answer
pub answered : (files : Files) (t : ℕ) (found : LoadedBytes) → IsLoaded files t found → IsAnswer files t (answer_to found)
answered files t found is = (λ small. answered_of t (image_in files t) found (is.0 small), λ large. ap answer_to (is.1 large))

-- ## Saves
-- these bytes are the image, and are read so
pub saves_image : (t : ℕ) (space : Space) (image : List ℕ) → image ≡ image_bytes 2 space t → reading_of image ≡ read.Image space t
    → (old new : Files) → Saves t image (digest_line t (md5 image)) old new → SavesImage t space old new
saves_image t space image same back old new saves = record {
  saves = subst (λ (l : List ℕ). Saves t l (digest_line t (md5 l)) old new) same saves;
  read_back = ap reading_of (sym same) ∙ back;
}

-- ## Digests are bytes
word_bytes : (n i : ℕ) → slice_index (to_le_bytes w32 n) i < 256
word_bytes n zero = omega arith
word_bytes n (suc zero) = omega arith
word_bytes n (suc (suc zero)) = omega arith
word_bytes n (suc (suc (suc zero))) = omega arith
word_bytes n (suc (suc (suc (suc i)))) = omega arith

both_bytes : (a b : List ℕ) → IsBytes a → IsBytes b → IsBytes (a ++ b)
both_bytes a b is_a is_b i =
    elim (cases_lt i (length a)) [
      | inl lt ↦ rw (get_or-append a b 0 i lt) (is_a i)
      | inr le ↦ rw (get_or-append_right a b i 0 le) (is_b _)
    ]

words_bytes : (h : List ℕ) (n : ℕ) → IsBytes (digest_bytes h n)
unfolding digest_bytes
words_bytes h zero = λ i. omega arith
words_bytes h (suc n) = both_bytes (digest_bytes h n) (to_le_bytes w32 (slice_index h n)) (words_bytes h n) (word_bytes (slice_index h n))

md5_bytes : (m : List ℕ) → IsBytes (md5 m)
unfolding md5
md5_bytes m = words_bytes _ 4

-- ## What is loaded of a saved image
abbrev bytes_in : Option Image → List ℕ
bytes_in None = []
bytes_in (Some image) = image.bytes

abbrev digest_in : Option Image → List ℕ
digest_in None = []
digest_in (Some image) = image.digest

module _ (t : ℕ) (space : Space) (image : Option Image) (there : image ≡ Some record { bytes = image_bytes 2 space t; digest = digest_line t (md5 (image_bytes 2 space t)) })
    (back : reading_of (image_bytes 2 space t) ≡ read.Image space t) where
  abbrev line : List ℕ
  line = digest_line t (md5 (image_bytes 2 space t))

  stored : IsStored t line (md5 (image_bytes 2 space t))
  stored = record { bytes = md5_bytes _; long = length-md5 _; spelled = inr refl }

  same_bytes : (found : Image) → image ≡ Some found → found.bytes ≡ image_bytes 2 space t
  same_bytes found is = ap bytes_in (sym is ∙ there)

  same_digest : (found : Image) → image ≡ Some found → found.digest ≡ line
  same_digest found is = ap digest_in (sym is ∙ there)

  same_read : (found : List ℕ) (r : ReadImage) → HasBytes t image found → reading_of found ≡ r → r ≡ read.Image space t
  same_read found r has e = sym e ∙ ap reading_of (same_bytes _ has.there) ∙ back

  one_stored : (found : Image) (digest : List ℕ) → image ≡ Some found → IsStored t found.digest digest → digest ≡ md5 (image_bytes 2 space t)
  one_stored found digest is held =
      one_digest _ digest (md5 (image_bytes 2 space t)) (digits_of t line digest (subst (λ (l : List ℕ). IsStored t l digest) (same_digest found is) held)) (digits_of t line _ stored)

  is_stored : (found : Image) → image ≡ Some found → IsStored t found.digest (md5 (image_bytes 2 space t))
  is_stored found is = subst (λ (l : List ℕ). IsStored t l (md5 (image_bytes 2 space t))) (sym (same_digest found is)) stored

  of_saved : (answer : Loaded) → IsAnswerOf t image answer → answer ≡ loaded.Image space t
  of_saved (loaded.Image other told) is = ap answer_of (same_read is.0 (read.Image other told) is.1 is.2)
  of_saved loaded.NoImage is = let e = sym is ∙ there in absurd (cc)
  of_saved (loaded.DigestDiffers held computed) is = absurd (is.4 (one_stored is.0 held is.1 is.2 ∙ sym (is.3 ∙ ap md5 (same_bytes is.0 is.1))))
  of_saved (loaded.BadImage place cause) (inl is) = let e = same_read is.0 (read.BadImage place cause) is.1 is.2 in absurd (cc)
  of_saved (loaded.BadImage place cause) (inr is) = absurd (is.0.2 _ (is_stored is.0.0 is.0.1))

  as_saved : IsAnswerOf t image (loaded.Image space t)
  as_saved = (image_bytes 2 space t, record { digest = line; there = there; stored = stored }, back)

pub loads_as : (t : ℕ) (space : Space) (old new : Files) → t ≤ 2 ^ 62 → SavesImage t space old new → LoadsAs t space new
loads_as t space old new small saved answer =
    let there = after_it t (image_bytes 2 space t) (digest_line t (md5 (image_bytes 2 space t))) old new saved.saves in (
      λ is. of_saved t space (image_in new t) there saved.read_back answer (is.0 small),
      λ same. subst (IsAnswer new t) (sym same) (λ _. as_saved t space (image_in new t) there saved.read_back, λ large. absurd (large small)),
    )

-- once the save is done, also after a crash
pub loads_after : (t : ℕ) (space : Space) {T E : Type 0} (result : Result T E) (old new : View) → t ≤ 2 ^ 62
    → OnOk result (Happens (SavesImage t space) old new) → OnOk result (AllLeave new (LoadsAs t space))
loads_after t space (Ok x) old new small done = λ files left. let from = done.crash files left in loads_as t space from.0 files small from.2
loads_after t space (Err e) old new small done = tt

-- ## While an image is saved
no_image : (t : ℕ) (image : Option Image) (answer : Loaded) → image ≡ None → IsAnswerOf t image answer → answer ≡ loaded.NoImage
no_image t image (loaded.Image space told) none is = let e = sym none ∙ is.1.there in absurd (cc)
no_image t image loaded.NoImage none is = refl
no_image t image (loaded.DigestDiffers held computed) none is = let e = sym none ∙ is.1 in absurd (cc)
no_image t image (loaded.BadImage place cause) none (inl is) = let e = sym none ∙ is.1.there in absurd (cc)
no_image t image (loaded.BadImage place cause) none (inr is) = let e = sym none ∙ is.0.1 in absurd (cc)

same_answer : (t : ℕ) (old new : Files) (answer : Loaded) → t ≤ 2 ^ 62 → image_in new t ≡ image_in old t → IsAnswer new t answer → IsAnswer old t answer
same_answer t old new answer small same is = (λ _. subst (λ (image : Option Image). IsAnswerOf t image answer) same (is.0 small), λ large. absurd (large small))

pub load_in_save : (t : ℕ) (old new : Files) (answer : Loaded) → t ≤ 2 ^ 62 → Prepares t old new → IsAnswer new t answer → IsAnswer old t answer ⊎ (answer ≡ loaded.NoImage)
load_in_save t old new answer small prepares is =
    ⊎_elim (λ same. inl (same_answer t old new answer small same is)) (λ none. inr (no_image t (image_in new t) answer none (is.0 small))) (before_it t old new prepares)

pub other_load : (t u : ℕ) (old new : Files) (answer : Loaded) → t ≤ 2 ^ 62 → u ≤ 2 ^ 62 → u ≢ t → Prepares t old new → IsAnswer new u answer → IsAnswer old u answer
other_load t u old new answer small_t small_u ne prepares = same_answer u old new answer small_u (only_others t u small_t small_u ne old new prepares.only)
