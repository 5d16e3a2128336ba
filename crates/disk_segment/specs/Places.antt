-- A new content stands in the place of a file: written to a temporary one, which may be there,
-- synced and renamed.
use Rattle.std.specs.Prelude.{◌≡◌, ◌≢◌, ℕ, List, ◌++◌, Some, None}
use Rattle.base_disk.specs.Files.{Files}
use Rattle.base_disk.specs.View.{View, IsStable}

-- the file begins with these bytes, and the temporary one is gone
pub record Places (name tmp bytes : List ℕ) (old new : Files) : Type 0 where
  pub behind : List ℕ
  pub here : new name ≡ Some (bytes ++ behind)
  pub gone : new tmp ≡ None
  pub others : (other : List ℕ) → other ≢ name → other ≢ tmp → new other ≡ old other

-- the file begins with these bytes, and each crash leaves it as it is
pub record IsStaged (name bytes : List ℕ) (v : View) : Type 0 where
  pub behind : List ℕ
  pub there : v.seen name ≡ Some (bytes ++ behind)
  pub stable : IsStable name v
