use Rattle.std.proofs.Common.{ap, ◌∙◌}
use Rattle.md5.specs.Md5.{md5}
use Rattle.ns_image.specs.Reading.{reading_of}
use Rattle.ns_store.specs.Digests.{digest_line}
use Rattle.ns_store.specs.Saves.{Prepares, Saves}
use Rattle.ns_store.specs.Loads.{SavesImage}
use Rattle.ns_store.proofs.Runs.{effect_by}
use Rattle.ns_store.proofs.AnswerLaws.{saves_image, loads_after}
use Rattle.ns_store.proofs.saving.save.Goals as goal

pub returns-clause-save : goal.returns-clause-save
returns-clause-save g c = λ t.
    let image = c.deref.result.now in
    let same = c.deref.ensures.value in
    effect_by (Prepares c.args.txid) (Saves c.args.txid image (digest_line c.args.txid (md5 image))) (SavesImage c.args.txid c.args.namespace.now)
    c.save_bytes.result (g.D.DiskModel.view c.args.disk.now) (g.D.DiskModel.view c.save_bytes.new.disk)
    (saves_image c.args.txid c.args.namespace.now image (same ∙ c.in_ok-bytes.ensures.bytes) (ap reading_of same ∙ c.in_ok-bytes.ensures.read_back))
    (c.save_bytes.ensures.save t)

pub returns-clause-loads : goal.returns-clause-loads
returns-clause-loads g c = λ t.
    loads_after c.args.txid c.args.namespace.now c.save_bytes.result (g.D.DiskModel.view c.args.disk.now) (g.D.DiskModel.view c.save_bytes.new.disk) c.requires.txid (returns-clause-save g c t).done
