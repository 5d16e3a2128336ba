use Rattle.disk_opening.proofs.OpenWhole.{stable_after, repaired_after, read_after, quiet_read, quiet_after}
use Rattle.disk_opening.proofs.opening.open_named.Goals as goal

pub returns-in-Segments-clause-quiet : goal.returns-in-Segments-clause-quiet
returns-in-Segments-clause-quiet g c = λ t stable repaired.
    let v0 = g.D.DiskModel.view c.args.disk.now in
    let v1 = g.D.DiskModel.view c.read_all.new.disk in
    let rests = c.in-Segments.ensures.disk t in
    quiet_after v0 v1 rests (g.met.D.Disk.sound _ t) (g.D.DiskModel.view c.finish.new.disk)
    (c.finish.ensures.quiet (c.in-Segments.ensures.call.tells.0 t) (stable_after v0 v1 rests stable) (repaired_after v0 v1 rests repaired)
    (read_after v0 v1 rests c.in-Segments.table (c.in-Segments.ensures.told t repaired)))

pub returns-in-Segments-clause-stable : goal.returns-in-Segments-clause-stable
returns-in-Segments-clause-stable g c = λ t stable.
    c.finish.ensures.stable (c.in-Segments.ensures.call.tells.0 t) (stable_after (g.D.DiskModel.view c.args.disk.now) (g.D.DiskModel.view c.read_all.new.disk) (c.in-Segments.ensures.disk t) stable)

pub returns-in-BadFile-clause-quiet : goal.returns-in-BadFile-clause-quiet
returns-in-BadFile-clause-quiet g c = λ t stable repaired.
    quiet_read (g.D.DiskModel.view c.args.disk.now) (g.D.DiskModel.view c.read_all.new.disk) (c.in-BadFile.ensures.disk t) (g.met.D.Disk.sound _ t)
