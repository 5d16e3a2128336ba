-- The meaning of a disk in memory: its files now, and what they were before each call that changed
-- them.
use Rattle.std.specs.Prelude.{◌≡◌, ◌⊎◌, ℕ, ◌≤◌, List, [], ◌∷◌, ◌++◌, length, slice_get, Some}
use Rattle.std.specs.declared.snapshot.Snapshot.{Snapshot}
use Rattle.base_disk.specs.Files.{Files}
use Rattle.base_disk.specs.View.{View}
use Rattle.base_disk.specs.FileMap.{Map, file_in, now_of, stable_of, MayBe}

abbrev pub Past : Type 0
Past = List (Snapshot Map)

-- what a crash may leave of these files
abbrev pub Leaves : Map → Files → Type 0
Leaves m c = (name : List ℕ) → MayBe (file_in m name) (c name)

-- the files were such, at this moment or a later one, that a crash might have left these
pub record LeftSince (past : Past) (t : ℕ) (c : Files) : Type 0 where
  pub moment : ℕ
  pub was : Snapshot Map
  pub later : t ≤ moment
  pub there : slice_get past moment ≡ Some was
  pub leaves : Leaves was.value c

abbrev pub view_of : Past → Map → View
view_of past m = record {
  seen = λ name. now_of (file_in m name);
  synced = λ name. stable_of (file_in m name);
  may_leave = Leaves m;
  moment = length past;
  left_since = λ t c. Leaves m c ⊎ LeftSince past t c;
}

-- what the files were is kept
pub record Remembers (m : Map) (old new : Past) : Type 0 where
  pub snapshot : Snapshot Map
  pub items : new ≡ old ++ snapshot ∷ []
  pub value : snapshot.value ≡ m
