use Rattle.std.proofs.Common.{take}
use Rattle.std.specs.Prelude.{string_bytes, map}
use Rattle.disk_opening.proofs.SyncLemmas.{IsSynced}
use Rattle.disk_opening.proofs.syncing.sync_segments.Given as goal

abbrev pub invariant-loop-name : goal.invariant-loop-name
invariant-loop-name g l = IsSynced (g.D.DiskModel.tells l.fn.disk) (g.D.DiskModel.tells l.disk) (g.D.DiskModel.view l.fn.disk)
    (g.D.DiskModel.view l.disk) (map string_bytes l.name-items) (map string_bytes (take l.name-index l.name-items))
    (g.D.DiskModel.faults l.fn.disk) (g.D.DiskModel.faults l.disk) (g.D.DiskModel.steady l.fn.disk) (g.D.DiskModel.steady l.disk)
