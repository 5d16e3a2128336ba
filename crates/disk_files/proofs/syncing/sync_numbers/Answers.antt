use Rattle.std.proofs.Common.{◌≡◌}
use Rattle.std.proofs.lemmas.Result.{on_ok_weaker}
use Rattle.disk_opening.specs.Opening.{SyncsOnly}
use Rattle.disk_files.specs.declared.node_number.NodeNumber.TheVariants.{Promised, Writer, Committed}
use Rattle.disk_files.specs.Durable.{number_name}
use Rattle.disk_files.specs.Opening.{IsNumberFile}
use Rattle.disk_files.proofs.OpenQuiet.{spared_then}
use Rattle.disk_files.proofs.syncing.sync_numbers.Goals as goal

pub returns-clause-spared : goal.returns-clause-spared
returns-clause-spared g c = λ t.
    let v0 = g.D.DiskModel.view c.args.disk.now in
    let v1 = g.D.DiskModel.view c.sync_number.new.disk in
    let v2 = g.D.DiskModel.view c.sync_number-2.new.disk in
    let v3 = g.D.DiskModel.view c.sync_number-3.new.disk in
    let t1 = c.sync_number.ensures.call.tells.0 t in
    let t2 = c.sync_number-2.ensures.call.tells.0 t1 in
    on_ok_weaker c.sync_number-3.result
    (λ (last : SyncsOnly (λ name. name ≡ number_name Writer) v2 v3).
    spared_then IsNumberFile (λ name. name ≡ number_name Writer) IsNumberFile (λ name is. is) (λ name is. (Writer, is)) v0 v2 v3
    (spared_then (λ name. name ≡ number_name Committed) (λ name. name ≡ number_name Promised) IsNumberFile (λ name is. (Committed, is))
    (λ name is. (Promised, is)) v0 v1 v2 (c.in_ok-sync_number.ensures.spared t) (c.in_ok-sync_number-2.ensures.spared t1))
    last)
    (c.sync_number-3.ensures.spared t2)
