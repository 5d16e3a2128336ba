use Rattle.std.proofs.Common.{take}
use Rattle.std.specs.Prelude.{string_bytes, map}
use Rattle.disk_opening.proofs.RecordLemmas.{IsRead}
use Rattle.disk_opening.proofs.bad_record.first_bad_record.Given as goal

abbrev pub invariant-loop-name : goal.invariant-loop-name
invariant-loop-name g l = IsRead (g.D.DiskModel.tells l.fn.disk) (g.D.DiskModel.tells l.disk) (g.D.DiskModel.view l.fn.disk)
    (g.D.DiskModel.view l.disk) (map string_bytes l.name-items) (map string_bytes (take l.name-index l.name-items))
    (g.D.DiskModel.faults l.fn.disk) (g.D.DiskModel.faults l.disk) (g.D.DiskModel.steady l.fn.disk) (g.D.DiskModel.steady l.disk)
