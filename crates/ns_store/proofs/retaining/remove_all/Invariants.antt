use Rattle.std.proofs.Common.{take}
use Rattle.ns_store.proofs.ThinLaws.{IsThinning}
use Rattle.ns_store.proofs.retaining.remove_all.Given as goal

abbrev pub invariant-loop-txid : goal.invariant-loop-txid
invariant-loop-txid g l = IsThinning (g.D.DiskModel.tells l.fn.disk) (g.D.DiskModel.tells l.disk) (g.D.DiskModel.view l.fn.disk) (g.D.DiskModel.view l.disk) l.fn.txids (take l.txid-index l.fn.txids)
    (g.D.DiskModel.faults l.fn.disk) (g.D.DiskModel.faults l.disk) (g.D.DiskModel.steady l.fn.disk) (g.D.DiskModel.steady l.disk)
