use Rattle.std.specs.Prelude.{string_bytes, map}
use Rattle.disk_opening.proofs.RemoveLoop.{IsRemoving}
use Rattle.disk_opening.proofs.opening.remove_idle.Given as goal

abbrev pub invariant-loop-name : goal.invariant-loop-name
invariant-loop-name g l = IsRemoving (g.D.DiskModel.tells l.fn.disk) (g.D.DiskModel.tells l.disk) (g.D.DiskModel.view l.fn.disk)
    (g.D.DiskModel.view l.disk) l.table (map string_bytes l.names) l.name-index
    (g.D.DiskModel.faults l.fn.disk) (g.D.DiskModel.faults l.disk) (g.D.DiskModel.steady l.fn.disk) (g.D.DiskModel.steady l.disk)
