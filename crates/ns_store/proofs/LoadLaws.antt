-- What is answered of the files of an image.
use Rattle.std.proofs.Common.{◌≡◌, ℕ, List, ap, sym, ◌∙◌, refl, subst, length}
use Rattle.std.specs.Prelude.{Option, Some, None, option_map}
use Rattle.md5.specs.Md5.{md5}
use Rattle.ns_store.specs.Images.{image_of}
use Rattle.ns_store.specs.Digests.{IsStored}
use Rattle.ns_store.specs.Answers.{IsJudged, IsLoadedOf}
use Rattle.ns_store.specs.declared.loaded_bytes.LoadedBytes.{LoadedBytes}
use Rattle.ns_store.specs.declared.loaded_bytes.LoadedBytes.TheVariants.{Bytes, NoImage, DigestDiffers, BadDigest}

-- both files are there
both : (image digest : Option (List ℕ)) (bytes line : List ℕ) → image ≡ Some bytes → digest ≡ Some line → image_of image digest ≡ Some record { bytes = bytes; digest = line }
both image digest bytes line one two = λ i. image_of (one i) (two i)

pub judged : (t : ℕ) (image digest : Option (List ℕ)) (bytes line stored : List ℕ) (answer : LoadedBytes) → image ≡ Some bytes → digest ≡ Some line
    → IsStored t line stored → IsJudged bytes stored answer
    → IsLoadedOf t (image_of image digest) answer
judged t image digest bytes line stored (Bytes found) one two is told =
    (line, both image digest found.items line (one ∙ ap (λ (l : List ℕ). Some l) (sym told.0)) two, subst (λ (d : List ℕ). IsStored t line d) (told.1 ∙ ap md5 (sym told.0)) is)
judged t image digest bytes line stored NoImage one two is told = absurd told
judged t image digest bytes line stored (DigestDiffers s c) one two is told =
    (record { bytes = bytes; digest = line }, both image digest bytes line one two, subst (λ (d : List ℕ). IsStored t line d) (sym told.0) is, told.1, told.2)
judged t image digest bytes line stored BadDigest one two is told = absurd told

pub bad_digest : (t : ℕ) (image digest : Option (List ℕ)) (size : ℕ) (line : List ℕ) → Some size ≡ option_map (λ (l : List ℕ). length l) image
    → digest ≡ Some line → ((other : List ℕ) → IsStored t line other → ⊥)
    → IsLoadedOf t (image_of image digest) BadDigest
bad_digest t None digest size line there two none = absurd (cc)
bad_digest t (Some bytes) digest size line there two none = (record { bytes = bytes; digest = line }, both (Some bytes) digest bytes line refl two, none)

pub no_digest : (t : ℕ) (image digest : Option (List ℕ)) → digest ≡ None → IsLoadedOf t (image_of image digest) NoImage
no_digest t None digest none = refl
no_digest t (Some bytes) digest none = ap (image_of (Some bytes)) none
