use Rattle.std.proofs.Common.{inl, inr}
use Rattle.std.proofs.lemmas.Result.{on_ok_weaker}
use Rattle.disk_opening.specs.Opening.{IsLastingFile, SyncsOnly}
use Rattle.disk_files.specs.Opening.{IsNumberFile, IsOwnFile}
use Rattle.disk_files.proofs.OpenQuiet.{spared_then}
use Rattle.disk_files.proofs.syncing.sync_files.Goals as goal

pub returns-clause-spared : goal.returns-clause-spared
returns-clause-spared g c = λ t.
    let v0 = g.D.DiskModel.view c.args.disk.now in
    let v1 = g.D.DiskModel.view c.sync_segments.new.disk in
    let v2 = g.D.DiskModel.view c.sync_numbers.new.disk in
    on_ok_weaker c.sync_numbers.result
    (λ (last : SyncsOnly IsNumberFile v1 v2). spared_then IsLastingFile IsNumberFile IsOwnFile (λ name is. inl is) (λ name is. inr is) v0 v1 v2 (c.in_ok-sync_segments.ensures.spared t) last)
    (c.sync_numbers.ensures.spared (c.sync_segments.ensures.call.tells.0 t))
