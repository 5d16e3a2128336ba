-- The paths of a folder's names.
use Rattle.std.specs.Prelude.{◌==◌, ◌≤◌, ◌++◌, ℕ, Bool, false, List, [], ◌∷◌, length, if◌then◌else◌}
use Rattle.std.specs.String.{string_capacity}
use Rattle.base_outside.specs.declared.path_buffer.PathBuffer.TheInside.{Inside}

-- what names are put behind, and the path that was put together last
pub record Paths : Type 0 where
  pub front : List ℕ
  pub path : List ℕ

-- the longest path that the system takes
abbrev pub longest_path : ℕ
longest_path = 4095

-- a name that begins with a slash is a path
abbrev pub is_rooted : List ℕ → Bool
is_rooted [] = false
is_rooted (b ∷ bs) = b == 47

-- what a name is put behind
abbrev pub front_of : List ℕ → List ℕ → List ℕ
front_of front name = if is_rooted name then [] else front

abbrev pub path_of : List ℕ → List ℕ → List ℕ
path_of front name = front_of front name ++ name

-- the longest path has room without more memory
abbrev pub HasRoom : Inside → Type 0
HasRoom b = longest_path ≤ string_capacity b.path
