use Rattle.std.proofs.Common.{inl}
use Rattle.disk_files.proofs.OpenQuiet.{numbers_stay}
use Rattle.disk_files.proofs.OpenHolds.{made_found}
use Rattle.disk_files.proofs.opening.open_repaired.Goals as goal

pub returns-in-Segments-clause-told : goal.returns-in-Segments-clause-told
returns-in-Segments-clause-told g c = λ t stable numbers repaired have.
    let v0 = g.D.DiskModel.view c.args.disk.now in
    let v1 = g.D.DiskModel.view c.open_all.new.disk in
    let quiet = c.open_all.ensures.quiet t stable repaired in
    made_found v0 v1 (numbers_stay v0 v1 quiet numbers) quiet.seen (c.open_all.ensures.repaired t repaired)
    c.args.numbers have c.in-Segments.table (c.in-Segments.ensures.told t stable repaired).0 c.files_of.result c.files_of.ensures.made

pub returns-in-BadFile-clause-told : goal.returns-in-BadFile-clause-told
returns-in-BadFile-clause-told g c = λ t stable numbers repaired have. inl (c.in-BadFile.ensures.told t stable repaired)
