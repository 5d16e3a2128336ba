use Rattle.std.proofs.Common.{sym, subst}
use Rattle.base_disk.specs.Files.{Files}
use Rattle.disk_opening.proofs.OpenWhole.{stable_after, quiet_read, quiet_after}
use Rattle.disk_files.specs.Opening.{HaveNodeNumbers}
use Rattle.disk_files.proofs.OpenQuiet.{numbers_kept}
use Rattle.disk_files.proofs.OpenHolds.{number_found, found_after}
use Rattle.disk_files.proofs.opening.open_stable.Goals as goal

pub returns-in-Ok-clause-quiet : goal.returns-in-Ok-clause-quiet
returns-in-Ok-clause-quiet g c = λ t stable.
    let v0 = g.D.DiskModel.view c.args.disk.now in
    let v1 = g.D.DiskModel.view c.read_numbers.new.disk in
    let rests = c.read_numbers.ensures.disk t in
    quiet_after v0 v1 rests (g.met.D.Disk.sound _ t) (g.D.DiskModel.view c.open_numbered.new.disk)
    (c.open_numbered.ensures.quiet (c.read_numbers.ensures.call.tells.0 t) (stable_after v0 v1 rests stable))

pub returns-in-Ok-clause-told : goal.returns-in-Ok-clause-told
returns-in-Ok-clause-told g c = λ t stable numbers.
    let v0 = g.D.DiskModel.view c.args.disk.now in
    let v1 = g.D.DiskModel.view c.read_numbers.new.disk in
    let rests = c.read_numbers.ensures.disk t in
    found_after v0.seen v1.seen (g.D.DiskModel.view c.open_numbered.new.disk) c.open_numbered.result rests.keeps.seen
    (c.open_numbered.ensures.told (c.read_numbers.ensures.call.tells.0 t) (stable_after v0 v1 rests stable) (numbers_kept v0 v1 rests.keeps numbers)
    (subst (λ (files : Files). HaveNodeNumbers files c.in-Ok.numbers) (sym rests.keeps.seen) (c.in-Ok.ensures.told t)))

pub returns-in-Err-clause-quiet : goal.returns-in-Err-clause-quiet
returns-in-Err-clause-quiet g c = λ t stable.
    quiet_read (g.D.DiskModel.view c.args.disk.now) (g.D.DiskModel.view c.read_numbers.new.disk) (c.read_numbers.ensures.disk t) (g.met.D.Disk.sound _ t)

pub returns-in-Err-clause-told : goal.returns-in-Err-clause-told
returns-in-Err-clause-told g c = λ t stable numbers.
    number_found (g.D.DiskModel.view c.args.disk.now).seen (g.D.DiskModel.view c.read_numbers.new.disk) (c.read_numbers.ensures.disk t).keeps.seen c.in-Err.answer (c.in-Err.ensures.told t)
