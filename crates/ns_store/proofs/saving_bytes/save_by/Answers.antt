use Rattle.base_disk.specs.Runs.{gave_up}
use Rattle.ns_store.specs.Saves.{Prepares, Saves}
use Rattle.ns_store.proofs.Runs.{quiet_weaker}
use Rattle.ns_store.proofs.SaveLaws.{stored_prepares, prepared, fresh_still, checkpoint_there, saved}
use Rattle.ns_store.proofs.saving_bytes.save_by.Goals as goal

pub returns-in_err-store-clause-save : goal.returns-in_err-store-clause-save
returns-in_err-store-clause-save g c = λ t.
    gave_up (Prepares c.args.names.now) (Saves c.args.names.now c.args.bytes.now c.args.line.now) c.from_residual.result
    (g.D.DiskModel.view c.args.disk.now) (g.D.DiskModel.view c.store.new.disk) c.from_residual.ensures.0
    (quiet_weaker _ (Prepares c.args.names.now) (g.D.DiskModel.view c.args.disk.now) (g.D.DiskModel.view c.store.new.disk) (stored_prepares c.args.names.now) (c.store.ensures.quiet t))

pub returns-in_err-make_way-clause-save : goal.returns-in_err-make_way-clause-save
returns-in_err-make_way-clause-save g c = λ t.
    let t1 = c.store.ensures.call.tells.0 t in
    gave_up (Prepares c.args.names.now) (Saves c.args.names.now c.args.bytes.now c.args.line.now) c.from_residual-in_err-make_way.result
    (g.D.DiskModel.view c.args.disk.now) (g.D.DiskModel.view c.make_way.new.disk) c.from_residual-in_err-make_way.ensures.0
    (prepared c.args.names.now c.args.bytes.now (g.D.DiskModel.view c.args.disk.now) (g.D.DiskModel.view c.store.new.disk)
    (g.D.DiskModel.view c.make_way.new.disk) (g.met.D.Disk.sound _ t) (g.met.D.Disk.sound _ t1) (c.store.ensures.quiet t)
    (c.make_way.ensures.quiet t1))

pub publish-requires-clause-fresh : goal.publish-requires-clause-fresh
publish-requires-clause-fresh g c = λ t2.
    let t1 = c.make_way.ensures.call.tells.1 t2 in
    let t = c.store.ensures.call.tells.1 t1 in
    fresh_still c.args.names.now c.args.bytes.now (g.D.DiskModel.view c.args.disk.now) (g.D.DiskModel.view c.store.new.disk)
    (g.D.DiskModel.view c.make_way.new.disk) (g.met.D.Disk.sound _ t) (g.met.D.Disk.sound _ t1) (c.store.ensures.quiet t)
    (c.make_way.ensures.quiet t1) (c.in_ok-store.ensures.fresh t)

pub publish-requires-clause-stored : goal.publish-requires-clause-stored
publish-requires-clause-stored g c = λ t2.
    let t1 = c.make_way.ensures.call.tells.1 t2 in
    let t = c.store.ensures.call.tells.1 t1 in
    checkpoint_there c.args.names.now c.args.bytes.now (g.D.DiskModel.view c.args.disk.now) (g.D.DiskModel.view c.store.new.disk)
    (g.D.DiskModel.view c.make_way.new.disk) (g.met.D.Disk.sound _ t) (g.met.D.Disk.sound _ t1) (c.store.ensures.quiet t)
    (c.make_way.ensures.quiet t1) (g.met.D.Disk.sound _ t2) (c.in_ok-store.ensures.stored t)

pub returns-clause-save : goal.returns-clause-save
returns-clause-save g c = λ t.
    let t1 = c.store.ensures.call.tells.0 t in
    let t2 = c.make_way.ensures.call.tells.0 t1 in
    saved c.args.names.now c.args.bytes.now (g.D.DiskModel.view c.args.disk.now) (g.D.DiskModel.view c.store.new.disk)
    (g.D.DiskModel.view c.make_way.new.disk) (g.met.D.Disk.sound _ t) (g.met.D.Disk.sound _ t1) (c.store.ensures.quiet t)
    (c.make_way.ensures.quiet t1)
    c.args.line.now (g.met.D.Disk.sound _ t2) (c.in_ok-store.ensures.stored t) (c.in_ok-make_way.ensures.free t1)
    (g.D.DiskModel.view c.publish.new.disk) c.publish.result (c.publish.ensures.publish t2)
