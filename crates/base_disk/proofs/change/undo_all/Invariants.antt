use Rattle.std.proofs.Common.{◌≡◌, vec_len}
use Rattle.base_disk.specs.Change.{undone, AllUndo}
use Rattle.base_disk.proofs.change.undo_all.Given as goal

abbrev pub invariant-loop-change : goal.invariant-loop-change
invariant-loop-change l =
    (undone l.changes.items (record { bytes = l.buffer.items; end = l.end }) ≡ undone l.initial.changes.items (record { bytes = l.initial.buffer.items; end = l.initial.end }))
    × AllUndo l.changes.items (record { bytes = l.buffer.items; end = l.end })

abbrev pub decreases-loop-change : goal.decreases-loop-change
decreases-loop-change l = vec_len l.changes
