-- The files of a disk in memory, of which one is held beside the others.
use Rattle.std.specs.Prelude.{ℕ, List, Bool, false, Option, Some, None, IsSome, string_bytes, bytes_eq}
use Rattle.std.specs.Map.{set_value}
use Rattle.base_disk.specs.FileView.{FileView}
use Rattle.base_disk.specs.FileMap.{Map, file_in, is_named}
use Rattle.base_disk.specs.declared.held_files.LastFile.{LastFile}

-- whether the file that is held beside the others has this name
abbrev pub is_last : Option LastFile → List ℕ → Bool
is_last None name = false
is_last (Some last) name = bytes_eq (string_bytes last.name) name

-- the file that is held beside the others, changed
abbrev pub changed : (FileView → FileView) → Option LastFile → Option LastFile
changed f None = None
changed f (Some last) = Some (record { name = last.name; file = f last.file })

-- all files: the one that is held beside the others stands at its place
abbrev pub shown : Map → Option LastFile → Map
shown m None = m
shown m (Some last) = set_value (is_named (string_bytes last.name)) m last.file

-- there is a place for the file that is held beside the others
abbrev pub HasPlace : Map → Option LastFile → Type 0
HasPlace m None = Unit {0}
HasPlace m (Some last) = IsSome (file_in m (string_bytes last.name))
