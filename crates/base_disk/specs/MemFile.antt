-- How the fields of a file in memory stand for what its contracts see.
use Rattle.std.specs.Prelude.{◌≤◌, List, ℕ, length, map, Option, Some, None, if◌then◌else◌}
use Rattle.base_disk.specs.FileView.{FileView}
use Rattle.base_disk.specs.Change.{Stage, content, undone, step_of, AllUndo, Leads}
use Rattle.base_disk.specs.declared.mem_file.MemFile.TheInside.{Inside}

abbrev pub stage_of : Inside → Stage
stage_of f = record { bytes = f.bytes.items; end = f.end }

abbrev pub stable_of : Inside → Option (List ℕ)
stable_of f = if f.is_new then None else Some (content (undone f.changes.items (stage_of f)))

abbrev pub file_view : Inside → FileView
file_view f = record { now = content (stage_of f); stable = stable_of f; steps = map step_of f.changes.items }

pub record IsKept (f : Inside) : Type 0 where
  pub ends : f.end ≤ length f.bytes.items
  pub undo : AllUndo f.changes.items (stage_of f)
  pub leads : Leads (stable_of f) f.changes.items (stage_of f)
