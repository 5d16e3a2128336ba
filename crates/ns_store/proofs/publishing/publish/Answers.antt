use Rattle.std.proofs.Common.{◌∙◌, ap, sym}
use Rattle.ns_store.proofs.SaveLaws.{digest_fresh, put_failed, there_still, renamed}
use Rattle.ns_store.proofs.publishing.publish.Goals as goal

pub put_through-requires-clause-absent : goal.put_through-requires-clause-absent
put_through-requires-clause-absent g c = λ t. ap (g.D.DiskModel.view c.args.disk.now).seen c.fresh.ensures ∙ c.requires.fresh t

pub put_through-requires-clause-apart : goal.put_through-requires-clause-apart
put_through-requires-clause-apart g c = λ same. digest_fresh c.args.names.now (sym c.digest.ensures ∙ sym same ∙ c.fresh.ensures)

pub rename-requires : goal.rename-requires
rename-requires g c = λ t1.
    let t = c.put_through.ensures.call.tells.1 t1 in
    there_still c.args.names.now c.args.line.now (g.D.DiskModel.view c.args.disk.now) (g.D.DiskModel.view c.put_through.new.disk)
    (g.met.D.Disk.sound _ t) (g.met.D.Disk.sound _ t1) _ c.digest.result.now c.fresh.result.now c.digest.ensures c.fresh.ensures
    (c.put_through.ensures.put t) (c.in_ok-put_through.ensures.put t).done c.checkpoint.result.now c.checkpoint.ensures (c.requires.stored t)

pub returns-clause-publish : goal.returns-clause-publish
returns-clause-publish g c = λ t.
    let t1 = c.put_through.ensures.call.tells.0 t in
    renamed c.args.names.now c.args.line.now (g.D.DiskModel.view c.args.disk.now) (g.D.DiskModel.view c.put_through.new.disk) (g.met.D.Disk.sound _ t)
    (g.met.D.Disk.sound _ t1) _ c.digest.result.now c.fresh.result.now c.digest.ensures c.fresh.ensures
    (c.put_through.ensures.put t) (g.D.DiskModel.view c.rename.new.self) c.rename.result c.checkpoint.result.now c.itself.result.now
    c.checkpoint.ensures c.itself.ensures (c.in_ok-put_through.ensures.put t).done (c.rename.ensures.disk t1)

pub returns-in_err-put_through-clause-publish : goal.returns-in_err-put_through-clause-publish
returns-in_err-put_through-clause-publish g c = λ t.
    put_failed c.args.names.now c.args.line.now (g.D.DiskModel.view c.args.disk.now) (g.D.DiskModel.view c.put_through.new.disk)
    (g.met.D.Disk.sound _ t) (g.met.D.Disk.sound _ (c.put_through.ensures.call.tells.0 t)) _ c.digest.result.now c.fresh.result.now
    c.digest.ensures c.fresh.ensures
    (c.put_through.ensures.put t) _ c.from_residual.ensures.0
