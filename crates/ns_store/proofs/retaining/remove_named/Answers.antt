use Rattle.std.proofs.Common.{refl}
use Rattle.std.proofs.lemmas.Result.{on_ok_weaker}
use Rattle.ns_store.proofs.SaveLaws.{itself_removed, both_removed, is_removed}
use Rattle.ns_store.proofs.retaining.remove_named.Goals as goal

pub returns-in_err-clear-clause-quiet : goal.returns-in_err-clear-clause-quiet
returns-in_err-clear-clause-quiet g c = λ t.
    let t1 = c.clear.ensures.call.tells.0 t in
    itself_removed c.args.names.now (g.D.DiskModel.view c.args.disk.now) (g.D.DiskModel.view c.clear.new.disk) (g.D.DiskModel.view c.clear.new.disk)
    (g.met.D.Disk.sound _ t) (g.met.D.Disk.sound _ t1) c.itself.result.now _ c.itself.ensures refl (c.clear.ensures.quiet t)

pub returns-clause-quiet : goal.returns-clause-quiet
returns-clause-quiet g c = λ t.
    let t1 = c.clear.ensures.call.tells.0 t in
    both_removed c.args.names.now (g.D.DiskModel.view c.args.disk.now) (g.D.DiskModel.view c.clear.new.disk) (g.D.DiskModel.view c.clear-2.new.disk)
    (g.met.D.Disk.sound _ t) (g.met.D.Disk.sound _ t1) c.itself.result.now c.digest.result.now c.itself.ensures c.digest.ensures
    (c.clear.ensures.quiet t) (c.in_ok-clear.ensures.gone t) (c.clear-2.ensures.quiet t1)

pub returns-clause-removed : goal.returns-clause-removed
returns-clause-removed g c = λ t.
    let t1 = c.clear.ensures.call.tells.0 t in
    on_ok_weaker c.clear-2.result
    (λ gone. is_removed c.args.names.now (g.D.DiskModel.view c.args.disk.now) (g.D.DiskModel.view c.clear.new.disk)
    (g.D.DiskModel.view c.clear-2.new.disk) (g.met.D.Disk.sound _ t) (g.met.D.Disk.sound _ t1) c.itself.result.now c.digest.result.now
    c.itself.ensures c.digest.ensures
    (c.in_ok-clear.ensures.gone t) (c.clear-2.ensures.quiet t1) gone)
    (c.clear-2.ensures.gone t1)
