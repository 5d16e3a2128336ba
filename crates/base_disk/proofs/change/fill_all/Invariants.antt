use Rattle.std.proofs.Common.{◌≡◌, map, drop}
use Rattle.base_disk.specs.FileView.{filled_by}
use Rattle.base_disk.specs.Change.{step_of}
use Rattle.base_disk.proofs.change.fill_all.Given as goal

abbrev pub invariant-loop-change : goal.invariant-loop-change
invariant-loop-change l = filled_by l.byte (map step_of (drop l.change-index l.changes)) l.bytes ≡ filled_by l.byte (map step_of l.changes) l.fn.bytes
