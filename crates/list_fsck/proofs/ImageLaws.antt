-- What is told of images and of the files of their digests.
use Rattle.std.proofs.Common.{◌≡◌, ℕ, ◌≤◌, ◌^◌, List, [], ◌∷◌, refl, sym, ap, subst, ◌∙◌, inl, inr, take}
use Rattle.std.specs.Prelude.{Option, Some, None, IsSome}
use Rattle.std.proofs.lemmas.Option.{same_Some}
use Rattle.md5.specs.Md5.{md5}
use Rattle.base_disk.specs.Files.{Files}
use Rattle.ns_image.specs.declared.image_cause.ImageCause.{ImageCause}
use Rattle.ns_image.specs.declared.answer.ReadImage.TheVariants as read
use Rattle.ns_image.specs.Reading.{reading_of}
use Rattle.ns_store.specs.Names.{Itself, Digest, name_of}
use Rattle.ns_store.specs.Images.{Image, image_of, image_in}
use Rattle.ns_store.specs.Digests.{IsStored}
use Rattle.ns_store.specs.Loads.{IsAnswerOf, IsAnswer}
use Rattle.ns_store.specs.declared.loaded.Loaded.{Loaded}
use Rattle.ns_store.specs.declared.loaded.Loaded.TheVariants as loaded
use Rattle.ns_store.proofs.DigestLaws.{digits_of, one_digest}
use Rattle.list_fsck.specs.declared.finding.Finding.{Finding}
use Rattle.list_fsck.specs.declared.rule.Rule.TheVariants as rule
use Rattle.list_fsck.specs.declared.file_role.FileRole.TheVariants as role
use Rattle.list_fsck.specs.Rules.{front_number, DigestDiffers, IsBadImage, no_digest, bad_bytes, Breaks, IsFirstBroken, IsVerdict}
use Rattle.list_fsck.specs.Steps.{finding_of}

-- a file holds one digest
pub one_stored : (txid : ℕ) (file a b : List ℕ) → IsStored txid file a → IsStored txid file b → a ≡ b
one_stored txid file a b one two = one_digest (take 32 file) a b (digits_of txid file a one) (digits_of txid file b two)

alone : (bytes : Option (List ℕ)) → image_of bytes None ≡ None
alone None = refl
alone (Some bytes) = refl

absent_digest : (itself digest : Option (List ℕ)) → IsSome itself → image_of itself digest ≡ None → digest ≡ None
absent_digest (Some bytes) None there none = refl
absent_digest (Some bytes) (Some digest) there none = absurd (cc)
absent_digest None digest there none = absurd (cc)

module _ (txid : ℕ) (found : Option Image) (image : Image) (there : found ≡ Some image) where
  pub the_image : (other : Image) → found ≡ Some other → other ≡ image
  the_image other is = same_Some other image (sym is ∙ there)

  module _ (stored : List ℕ) (told : IsStored txid image.digest stored) where
    stored_in : (other : Image) (digest : List ℕ) → found ≡ Some other → IsStored txid other.digest digest → digest ≡ stored
    stored_in other digest is other_told = one_stored txid image.digest digest stored (subst (λ (x : Image). IsStored txid x.digest digest) (the_image other is) other_told) told

    -- its digest is the stored one
    pub same_digest : stored ≡ md5 image.bytes → (v w : ℕ) → DigestDiffers txid found v w → ⊥
    same_digest same v w differs = differs.differs (stored_in differs.image differs.stored differs.there differs.told ∙ same
        ∙ ap (λ (x : Image). md5 x.bytes) (sym (the_image differs.image differs.there)))

    -- it is read
    pub good_image : ((place : ℕ) (cause : ImageCause) → reading_of image.bytes ≡ read.BadImage place cause → ⊥) → (v w : ℕ) → IsBadImage txid found v w → ⊥
    good_image good v w (no_digest other is none zero) = none stored (subst (λ (x : Image). IsStored txid x.digest stored) (sym (the_image other is)) told)
    good_image good v w (bad_bytes other digest cause is other_told reading zero) = good v cause (subst (λ (x : Image). reading_of x.bytes ≡ read.BadImage v cause) (the_image other is) reading)

  -- its digest isn't told
  pub no_stored : ((digest : List ℕ) → IsStored txid image.digest digest → ⊥) → (v w : ℕ) → DigestDiffers txid found v w → ⊥
  no_stored none v w differs = none differs.stored (subst (λ (x : Image). IsStored txid x.digest differs.stored) (the_image differs.image differs.there) differs.told)

module _ (files : Files) (before : ℕ) (name : List ℕ) (txid : ℕ) where
  paired : (image : Image) → image_in files txid ≡ Some image → files (name_of txid Digest) ≡ None → ⊥
  paired image there none = let p = sym there ∙ ap (λ (d : Option (List ℕ)). image_of (files (name_of txid Itself)) d) none ∙ alone (files (name_of txid Itself)) in absurd (cc)

  both_there : (image : Image) → image_in files txid ≡ Some image → (f : Option Finding)
      → IsFirstBroken (Breaks files before name (role.Image txid)) (rule.Digest ∷ rule.ImageBytes ∷ []) f
      → IsVerdict files before name (role.Image txid) f
  both_there image there f rest =
      inr (λ v w h. h, inr (λ v w h. h, inr (λ v w h. h, inr (λ v w h. h, inr (λ v w h. h, inr (λ v w h. h, inr (λ v w h. h, inr (λ v w h. paired image there h.0, rest))))))))

  told_of : (answer : Loaded) → IsSome (files (name_of txid Itself)) → IsAnswerOf txid (image_in files txid) answer → IsVerdict files before name (role.Image txid) (finding_of answer)
  told_of (loaded.Image space told) some (bytes, has, reading) =
      let image : Image = record { bytes = bytes; digest = has.digest } in
      both_there image has.there None (inr (
        same_digest txid (image_in files txid) image has.there (md5 bytes) has.stored refl,
        inr (good_image txid (image_in files txid) image has.there (md5 bytes) has.stored (λ place cause bad. let p = sym reading ∙ bad in absurd (cc)), refl),
      ))
  told_of loaded.NoImage some none =
      inr (
        λ v w h. h,
        inr (
          λ v w h. h,
          inr (
            λ v w h. h,
            inr (
              λ v w h. h,
              inr (
                λ v w h. h,
                inr (
                  λ v w h. h,
                  inr (
                    λ v w h. h,
                    inl (0, 0, (absent_digest (files (name_of txid Itself)) (files (name_of txid Digest)) some none, (refl, refl)), refl),
                  ),
                ),
              ),
            ),
          ),
        ),
      )
  told_of (loaded.DigestDiffers stored computed) some (image, there, is_stored, is_computed, differs) =
      both_there image there _ (inl (
        front_number stored,
        front_number computed,
        record {
          image = image;
          there = there;
          stored = stored;
          told = is_stored;
          differs = λ same. differs (same ∙ sym is_computed);
          first = refl;
          second = ap front_number is_computed;
        },
        refl,
      ))
  told_of (loaded.BadImage place cause) some (inl (bytes, has, reading)) =
      let image : Image = record { bytes = bytes; digest = has.digest } in
      both_there image has.there _ (inr (
        same_digest txid (image_in files txid) image has.there (md5 bytes) has.stored refl,
        inl (place, 0, bad_bytes image (md5 bytes) cause has.there has.stored reading refl, refl),
      ))
  told_of (loaded.BadImage place cause) some (inr ((image, there, none), is_place, is_cause)) =
      both_there image there _ (inr (no_stored txid (image_in files txid) image there none, inl (place, 0, no_digest image there none (is_place, refl), refl)))

  pub image_told : (answer : Loaded) → txid ≤ 2 ^ 62 → IsSome (files (name_of txid Itself)) → IsAnswer files txid answer → IsVerdict files before name (role.Image txid) (finding_of answer)
  image_told answer small some is = told_of answer some (is.0 small)

  pub digest_alone : files (name_of txid Itself) ≡ None → IsVerdict files before name (role.Digest txid) (Some record { rule = rule.Paired; first = 0; second = 0 })
  digest_alone none =
      inr (λ v w h. h, inr (λ v w h. h, inr (λ v w h. h, inr (λ v w h. h, inr (λ v w h. h, inr (λ v w h. h, inr (λ v w h. h, inl (0, 0, (none, (refl, refl)), refl))))))))

  pub digest_fine : (files (name_of txid Itself) ≡ None → ⊥) → IsVerdict files before name (role.Digest txid) None
  digest_fine there =
      inr (λ v w h. h, inr (λ v w h. h, inr (λ v w h. h, inr (λ v w h. h, inr (λ v w h. h, inr (λ v w h. h, inr (λ v w h. h, inr (λ v w h. there h.0, inr (λ v w h. h, inr (λ v w h. h, refl))))))))))
