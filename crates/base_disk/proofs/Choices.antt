-- What each choice of a crash makes of a file.
use Rattle.std.proofs.Common.{◌≡◌, ◌⊎◌, ⊎_elim, inl, inr, ◌∙◌, ℕ, zero, suc, List, [], ◌∷◌, get_or, refl, sym, subst}
use Rattle.std.specs.Prelude.{Option, Some, None}
use Rattle.base_disk.specs.declared.disk.Choice.{Choice}
use Rattle.base_disk.specs.declared.disk.Choice.TheVariants.{Old, New, Fill}
use Rattle.base_disk.specs.FileView.{FileView, Step, Wrote, CutTo, filled, filled_by}
use Rattle.base_disk.specs.FileMap.{now_of, stable_of, crashed_in}
use Rattle.base_disk.specs.Crash.{IsFilled, FilledFile, Chosen}
use Rattle.base_disk.proofs.Fills.{length-filled}

each_filled : (byte at len : ℕ) (xs : List ℕ) (k : ℕ) → (get_or (filled byte at len xs) k 0 ≡ get_or xs k 0) ⊎ (get_or (filled byte at len xs) k 0 ≡ byte)
each_filled byte at len [] k = inl refl
each_filled byte zero zero (x ∷ xs) k = inl refl
each_filled byte zero (suc len) (x ∷ xs) zero = inr refl
each_filled byte zero (suc len) (x ∷ xs) (suc k) = each_filled byte zero len xs k
each_filled byte (suc at) len (x ∷ xs) zero = inl refl
each_filled byte (suc at) len (x ∷ xs) (suc k) = each_filled byte at len xs k

is_filled : (byte : ℕ) (steps : List Step) (xs : List ℕ) → IsFilled byte xs (filled_by byte steps xs)
is_filled byte [] xs = record { long = refl; each = λ k. inl refl }
is_filled byte (CutTo to ∷ steps) xs = is_filled byte steps xs
is_filled byte (Wrote at len ∷ steps) xs =
    let rest = is_filled byte steps (filled byte at len xs) in
    record {
      long = rest.long ∙ length-filled byte at len xs;
      each = λ k. ⊎_elim (λ same. ⊎_elim (λ was. inl (same ∙ was)) (λ is. inr (same ∙ is)) (each_filled byte at len xs k)) (λ is. inr is) (rest.each k);
    }

pub chosen_by : (choice : Choice) (f : Option FileView) (x : Option (List ℕ)) → x ≡ crashed_in choice f → Chosen choice (stable_of f) (now_of f) x
chosen_by Old None x is = is
chosen_by Old (Some f) x is = is
chosen_by New None x is = is
chosen_by New (Some f) x is = is
chosen_by (Fill byte) None x is = is
chosen_by (Fill byte) (Some f) x is = subst (λ (y : Option (List ℕ)). FilledFile byte (Some f.now) y) (sym is) (is_filled byte f.steps f.now)
