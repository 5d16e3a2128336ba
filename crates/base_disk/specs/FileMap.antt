-- The files of a disk in memory, by their names.
use Rattle.std.specs.Prelude.{◌≡◌, ◌≢◌, ℕ, List, Bool, Option, Some, None, string_bytes, map}
use Rattle.std.specs.Map.{lookup, keys_of}
use Rattle.std.specs.BTreeMap.{is_at}
use Rattle.std.specs.Cmp.Lexicographic.{slice_cmp}
use Rattle.std.specs.Ordering.{nat_cmp}
use Rattle.std.specs.declared.string.String.{String}
use Rattle.std.specs.declared.alloc.Global.{Global}
use Rattle.base_disk.specs.Files.{bytes_of}
use Rattle.base_disk.specs.FileView.{FileView, created, written, crashed, at_rest, IsImage}
use Rattle.base_disk.specs.declared.disk.Choice.{Choice}

-- names with their files
abbrev pub Map : Type 0
Map = List (String Global × FileView)

-- whether a key has this name
abbrev pub is_named : List ℕ → String Global → Bool
is_named name = is_at (λ k. slice_cmp nat_cmp name (string_bytes k))

abbrev pub file_in : Map → List ℕ → Option FileView
file_in m name = lookup (is_named name) m

abbrev pub now_of : Option FileView → Option (List ℕ)
now_of None = None
now_of (Some f) = Some f.now

abbrev pub stable_of : Option FileView → Option (List ℕ)
stable_of None = None
stable_of (Some f) = f.stable

abbrev pub bytes_in : Map → List ℕ → List ℕ
bytes_in m name = bytes_of (now_of (file_in m name))

-- the names, in byte order
abbrev pub names_in : Map → List (List ℕ)
names_in m = map string_bytes (keys_of m)

-- what a crash may leave of a file
abbrev pub MayBe : Option FileView → Option (List ℕ) → Type 0
MayBe None file = file ≡ None
MayBe (Some f) file = IsImage f file

-- what a crash by this choice makes of a file
abbrev pub crashed_in : Choice → Option FileView → Option (List ℕ)
crashed_in choice None = None
crashed_in choice (Some f) = crashed choice f

-- a file is stable as it is seen, or absent
abbrev pub IsAtRest : Option FileView → Type 0
IsAtRest None = Unit {0}
IsAtRest (Some f) = f ≡ at_rest f.now

-- a file after a write, which makes it where it is absent
abbrev pub written_in : ℕ → List ℕ → Option FileView → FileView
written_in at bytes None = created bytes
written_in at bytes (Some f) = written at bytes f

-- the file of this name becomes this, and the others stay
pub record SetsFile (name : List ℕ) (file : Option FileView) (old new : Map) : Type 0 where
  pub here : file_in new name ≡ file
  pub others : (other : List ℕ) → other ≢ name → file_in new other ≡ file_in old other

-- the file from stands under the name to
pub record MovesFile (from to : List ℕ) (old new : Map) : Type 0 where
  pub moved : file_in new to ≡ file_in old from
  pub gone : from ≢ to → file_in new from ≡ None
  pub others : (other : List ℕ) → other ≢ from → other ≢ to → file_in new other ≡ file_in old other

pub record SameFiles (old new : Map) : Type 0 where
  pub files : (name : List ℕ) → file_in new name ≡ file_in old name
