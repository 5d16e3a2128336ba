-- What is known of a file that was to be read whole.
use Rattle.std.specs.Prelude.{◌≡◌, ◌≢◌, ℕ, List, length, Option, Some, None}
use Rattle.base_files.specs.declared.whole.Whole.{Whole}
use Rattle.base_files.specs.declared.whole.Whole.TheVariants.{Absent, Read, OtherLength}

abbrev pub IsWhole : Option (List ℕ) → List ℕ → Whole → Type 0
IsWhole file into Absent = file ≡ None
IsWhole file into Read = file ≡ Some into
IsWhole file into OtherLength = (bytes : List ℕ) × (file ≡ Some bytes) × (length bytes ≢ length into)
