use Rattle.std.proofs.Common.{take, rules}
use Rattle.std.specs.Prelude.{IsOk}
use Rattle.std.proofs.lemmas.List.{take_more}
use Rattle.std.proofs.lemmas.List.Elements.{Contains-get_or}
use Rattle.ns_store.proofs.ThinLaws.{still_quiet, one_more, front_within}
use Rattle.ns_store.proofs.retaining.remove_all.Goals as goal

pub remove_image-requires : goal.remove_image-requires
remove_image-requires g c = c.requires _ (Contains-get_or c.args.txids.now c.loop-txid.txid-index 0 c.loop-txid-test.true)

pub returns-in_err-remove_image-clause-quiet : goal.returns-in_err-remove_image-clause-quiet
returns-in_err-remove_image-clause-quiet g c =
    still_quiet (g.D.DiskModel.tells c.args.disk.now) (g.D.DiskModel.view c.args.disk.now) (λ t. g.met.D.Disk.sound _ t) c.args.txids.now c.requires
    (g.D.DiskModel.faults c.args.disk.now) (g.D.DiskModel.steady c.args.disk.now)
    (g.D.DiskModel.tells c.loop-txid.disk) (g.D.DiskModel.view c.loop-txid.disk) (λ t. g.met.D.Disk.sound _ t)
    (take c.loop-txid.txid-index c.args.txids.now) (g.D.DiskModel.faults c.loop-txid.disk) (g.D.DiskModel.steady c.loop-txid.disk)
    c.loop-txid.invariant
    _ (Contains-get_or c.args.txids.now c.loop-txid.txid-index 0 c.loop-txid-test.true)
    (g.D.DiskModel.tells c.remove_image.new.disk) (g.D.DiskModel.view c.remove_image.new.disk) (g.D.DiskModel.faults c.remove_image.new.disk)
    (g.D.DiskModel.steady c.remove_image.new.disk) c.remove_image.result c.remove_image.ensures.call.tells (λ t. c.remove_image.ensures.quiet t)
    c.remove_image.ensures.call.cause

pub loop-txid-preserved : goal.loop-txid-preserved
loop-txid-preserved g c =
    let ok : IsOk c.remove_image.result = search rules in
    one_more (g.D.DiskModel.tells c.args.disk.now) (g.D.DiskModel.view c.args.disk.now) (λ t. g.met.D.Disk.sound _ t) c.args.txids.now c.requires
    (g.D.DiskModel.faults c.args.disk.now) (g.D.DiskModel.steady c.args.disk.now)
    (g.D.DiskModel.tells c.loop-txid.disk) (g.D.DiskModel.view c.loop-txid.disk) (λ t. g.met.D.Disk.sound _ t)
    (take c.loop-txid.txid-index c.args.txids.now) (g.D.DiskModel.faults c.loop-txid.disk) (g.D.DiskModel.steady c.loop-txid.disk)
    c.loop-txid.invariant
    _ (Contains-get_or c.args.txids.now c.loop-txid.txid-index 0 c.loop-txid-test.true)
    (g.D.DiskModel.tells c.remove_image.new.disk) (g.D.DiskModel.view c.remove_image.new.disk) (g.D.DiskModel.faults c.remove_image.new.disk)
    (g.D.DiskModel.steady c.remove_image.new.disk) c.remove_image.result c.remove_image.ensures.call.tells (λ t. c.remove_image.ensures.quiet t)
    c.remove_image.ensures.call.cause
    ok _ (take_more c.args.txids.now c.loop-txid.txid-index 0 c.loop-txid-test.true)
    (λ u among. front_within c.loop-txid.txid-index c.args.txids.now u among) (λ t. c.in_ok-remove_image.ensures.removed t)
