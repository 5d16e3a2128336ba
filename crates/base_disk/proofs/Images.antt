-- What a crash may leave of a file: what is stable and what is seen, and what one change more
-- allows.
use Rattle.std.proofs.Common.{◌≡◌, ℕ, ◌≤◌, List, [], ◌∷◌, ◌++◌, refl, sym, subst, inl, inr, length}
use Rattle.std.specs.Prelude.{Option, Some, None}
use Rattle.base_disk.specs.Files.{Torn, Cut}
use Rattle.base_disk.specs.FileView.{FileView, Step, Wrote, CutTo, Allows, Image, IsImage, at_rest, created, written, shortened}
use Rattle.base_disk.proofs.Bytes.{done_is_torn, done_is_cut, all_torn}

-- the steps of a file, with one more
image-push : (first : Option (List ℕ)) (steps : List Step) (step : Step) (x : Option (List ℕ)) → Image first (steps ++ step ∷ []) x → (y : Option (List ℕ)) × Image first steps y × Allows step y x
image-push first [] step x image = (first, refl, subst (λ (z : Option (List ℕ)). Allows step first z) (sym image.2) image.1)
image-push first (s ∷ steps) step x image = let rest = image-push image.0 steps step x image.2 in (rest.0, (image.0, image.1, rest.1), rest.2)

-- an image after a write is one before it, torn
pub written_back : (at : ℕ) (bytes : List ℕ) (f : FileView) → at ≤ length f.now → (x : Option (List ℕ)) → IsImage (written at bytes f) x
    → (y : Option (List ℕ)) × IsImage f y × Torn at (length bytes) y x
written_back at bytes f le x (inl image) = let from = image-push f.stable f.steps (Wrote at (length bytes)) x image in (from.0, inl from.1, from.2)
written_back at bytes f le x (inr image) =
    (Some f.now, inr refl, subst (λ (z : Option (List ℕ)). Torn at (length bytes) (Some f.now) z) (sym image) (done_is_torn at bytes f.now le))

pub created_back : (bytes : List ℕ) (x : Option (List ℕ)) → IsImage (created bytes) x → Torn 0 (length bytes) None x
created_back bytes x (inl image) = subst (λ (z : Option (List ℕ)). Torn 0 (length bytes) None z) (sym image.2) image.1
created_back bytes x (inr image) = subst (λ (z : Option (List ℕ)). Torn 0 (length bytes) None z) (sym image) (all_torn bytes)

pub shortened_back : (to : ℕ) (f : FileView) (x : Option (List ℕ)) → IsImage (shortened to f) x → (y : Option (List ℕ)) × IsImage f y × Cut to y x
shortened_back to f x (inl image) = let from = image-push f.stable f.steps (CutTo to) x image in (from.0, inl from.1, from.2)
shortened_back to f x (inr image) = (Some f.now, inr refl, subst (λ (z : Option (List ℕ)). Cut to (Some f.now) z) (sym image) (done_is_cut to f.now))

pub at_rest_image : (bytes : List ℕ) (x : Option (List ℕ)) → IsImage (at_rest bytes) x → x ≡ Some bytes
at_rest_image bytes x (inl image) = image
at_rest_image bytes x (inr image) = image
