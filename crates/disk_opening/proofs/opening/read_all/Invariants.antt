use Rattle.std.specs.Prelude.{string_bytes, map}
use Rattle.disk_opening.proofs.ReadLoop.{IsReading}
use Rattle.disk_opening.proofs.opening.read_all.Given as goal

abbrev pub invariant-loop-name : goal.invariant-loop-name
invariant-loop-name g l = IsReading (g.D.DiskModel.tells l.fn.disk) (g.D.DiskModel.tells l.disk) (g.D.DiskModel.view l.fn.disk)
    (g.D.DiskModel.view l.disk) (map string_bytes l.names) l.name-index l.table
    (g.D.DiskModel.faults l.fn.disk) (g.D.DiskModel.faults l.disk) (g.D.DiskModel.steady l.fn.disk) (g.D.DiskModel.steady l.disk)
