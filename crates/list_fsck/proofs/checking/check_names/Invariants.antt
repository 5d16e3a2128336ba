use Rattle.std.proofs.Common.{take}
use Rattle.std.specs.Prelude.{string_bytes, map}
use Rattle.list_fsck.proofs.Loop.{IsChecking}
use Rattle.list_fsck.proofs.checking.check_names.Given as goal

abbrev pub invariant-loop-name : goal.invariant-loop-name
invariant-loop-name g l = IsChecking (g.D.DiskModel.tells l.fn.disk) (g.D.DiskModel.tells l.disk) (g.D.DiskModel.view l.fn.disk)
    (g.D.DiskModel.view l.disk) (map string_bytes (take l.name-index l.names)) l.name-index l.so_far
    (g.D.DiskModel.faults l.fn.disk) (g.D.DiskModel.faults l.disk) (g.D.DiskModel.steady l.fn.disk) (g.D.DiskModel.steady l.disk)
