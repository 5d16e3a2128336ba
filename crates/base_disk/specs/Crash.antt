-- What a choice of a crash makes of a file that was so stable and so seen.
use Rattle.std.specs.Prelude.{◌≡◌, ◌⊎◌, ℕ, List, length, get_or, Option, Some, None}
use Rattle.base_disk.specs.declared.disk.Choice.{Choice}
use Rattle.base_disk.specs.declared.disk.Choice.TheVariants.{Old, New, Fill}

-- each byte is as it was, or this one
pub record IsFilled (byte : ℕ) (old new : List ℕ) : Type 0 where
  pub long : length new ≡ length old
  pub each : (k : ℕ) → (get_or new k 0 ≡ get_or old k 0) ⊎ (get_or new k 0 ≡ byte)

abbrev pub FilledFile : ℕ → Option (List ℕ) → Option (List ℕ) → Type 0
FilledFile byte None new = new ≡ None
FilledFile byte (Some old) None = ⊥
FilledFile byte (Some old) (Some new) = IsFilled byte old new

abbrev pub Chosen : Choice → Option (List ℕ) → Option (List ℕ) → Option (List ℕ) → Type 0
Chosen Old synced seen new = new ≡ synced
Chosen New synced seen new = new ≡ seen
Chosen (Fill byte) synced seen new = FilledFile byte seen new
