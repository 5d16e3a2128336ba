-- What is stable of a file is one of its images: each change may have been stopped before its first
-- byte.
use Rattle.std.specs.Prelude.{ℕ, List, [], ◌∷◌, length, Option, Some, None, refl}
use Rattle.std.proofs.Common.{inl, arith}
use Rattle.std.proofs.lemmas.List.{take_all}
use Rattle.base_disk.specs.Files.{Torn, Cut}
use Rattle.base_disk.specs.FileView.{FileView, Step, Wrote, CutTo, Allows, Image, IsImage}

pub torn_same : (at n : ℕ) (file : Option (List ℕ)) → Torn at n file file
torn_same at n None = tt
torn_same at n (Some f) = record { before = refl; after = refl; no_shorter = omega arith; no_longer = omega arith }

pub cut_same : (to : ℕ) (file : Option (List ℕ)) → Cut to file file
cut_same to None = tt
cut_same to (Some f) = record { no_shorter = omega arith; front = take_all (length f) f (omega arith) }

same_allowed : (step : Step) (x : Option (List ℕ)) → Allows step x x
same_allowed (Wrote at len) x = torn_same at len x
same_allowed (CutTo to) x = cut_same to x

same_image : (first : Option (List ℕ)) (steps : List Step) → Image first steps first
same_image first [] = refl
same_image first (step ∷ steps) = (first, same_allowed step first, same_image first steps)

pub stable_image : (f : FileView) → IsImage f f.stable
stable_image f = inl (same_image f.stable f.steps)
