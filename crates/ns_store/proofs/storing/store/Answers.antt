use Rattle.std.proofs.Common.{List, ℕ, ◌≡◌, subst}
use Rattle.std.specs.Prelude.{Some, OnOk}
use Rattle.base_disk.specs.View.{AllLeave}
use Rattle.ns_store.proofs.SaveLaws.{two_cleared, three_done, still_gone, fresh_gone, always}
use Rattle.ns_store.proofs.storing.store.Goals as goal

pub write_whole-requires : goal.write_whole-requires
write_whole-requires g c = λ t2.
    let t1 = c.clear-2.ensures.call.tells.1 t2 in
    let t = c.clear.ensures.call.tells.1 t1 in
    still_gone c.args.names.now (g.D.DiskModel.view c.args.disk.now) (g.D.DiskModel.view c.clear.new.disk) (g.D.DiskModel.view c.clear-2.new.disk) (g.met.D.Disk.sound _ t) (g.met.D.Disk.sound _ t1)
    c.checkpoint.result.now c.fresh.result.now c.checkpoint.ensures c.fresh.ensures (c.clear.ensures.quiet t) (c.clear-2.ensures.quiet t1)
    c.checkpoint-2.result.now c.checkpoint-2.ensures (c.in_ok-clear.ensures.gone t)

pub returns-in_err-clear-2-clause-quiet : goal.returns-in_err-clear-2-clause-quiet
returns-in_err-clear-2-clause-quiet g c = λ t.
    let t1 = c.clear.ensures.call.tells.0 t in
    two_cleared c.args.names.now (g.D.DiskModel.view c.args.disk.now) (g.D.DiskModel.view c.clear.new.disk) (g.D.DiskModel.view c.clear-2.new.disk) (g.met.D.Disk.sound _ t) (g.met.D.Disk.sound _ t1)
    c.checkpoint.result.now c.fresh.result.now c.checkpoint.ensures c.fresh.ensures (c.clear.ensures.quiet t) (c.clear-2.ensures.quiet t1)

pub returns-clause-quiet : goal.returns-clause-quiet
returns-clause-quiet g c = λ t.
    let t1 = c.clear.ensures.call.tells.0 t in
    let t2 = c.clear-2.ensures.call.tells.0 t1 in
    three_done c.args.names.now (g.D.DiskModel.view c.args.disk.now) (g.D.DiskModel.view c.clear.new.disk) (g.D.DiskModel.view c.clear-2.new.disk) (g.met.D.Disk.sound _ t) (g.met.D.Disk.sound _ t1)
    c.checkpoint.result.now c.fresh.result.now c.checkpoint.ensures c.fresh.ensures (c.clear.ensures.quiet t) (c.clear-2.ensures.quiet t1)
    (g.D.DiskModel.view c.write_whole.new.disk) (g.met.D.Disk.sound _ t2) c.checkpoint-2.result.now c.checkpoint-2.ensures (c.write_whole.ensures.quiet t2)

pub returns-clause-stored : goal.returns-clause-stored
returns-clause-stored g c = λ t.
    let t2 = c.clear-2.ensures.call.tells.0 (c.clear.ensures.call.tells.0 t) in
    subst (λ (n : List ℕ). OnOk c.write_whole.result (AllLeave (g.D.DiskModel.view c.write_whole.new.disk) (λ f. f n ≡ Some c.args.bytes.now))) c.checkpoint-2.ensures (c.write_whole.ensures.stored t2)

pub returns-clause-fresh : goal.returns-clause-fresh
returns-clause-fresh g c = λ t.
    let t1 = c.clear.ensures.call.tells.0 t in
    let t2 = c.clear-2.ensures.call.tells.0 t1 in
    always c.write_whole.result _
    (fresh_gone c.args.names.now (g.D.DiskModel.view c.args.disk.now) (g.D.DiskModel.view c.clear.new.disk) (g.D.DiskModel.view c.clear-2.new.disk) (g.met.D.Disk.sound _ t) (g.met.D.Disk.sound _ t1)
    c.checkpoint.result.now c.fresh.result.now c.checkpoint.ensures c.fresh.ensures (c.clear.ensures.quiet t) (c.clear-2.ensures.quiet t1)
    (g.D.DiskModel.view c.write_whole.new.disk) (g.met.D.Disk.sound _ t2) c.checkpoint-2.result.now c.checkpoint-2.ensures (c.write_whole.ensures.quiet t2) (c.in_ok-clear-2.ensures.gone t1))
