use Rattle.disk_opening.proofs.OpenWhole.{stable_after, repaired_after, quiet_after, opened_after}
use Rattle.disk_opening.proofs.opening.open_all.Goals as goal

pub returns-in-Ok-clause-quiet : goal.returns-in-Ok-clause-quiet
returns-in-Ok-clause-quiet g c = λ t stable repaired.
    let v0 = g.D.DiskModel.view c.args.disk.now in
    let v1 = g.D.DiskModel.view c.list.new.self in
    let rests = c.in-Ok.ensures.disk t in
    quiet_after v0 v1 rests (g.met.D.Disk.sound _ t) (g.D.DiskModel.view c.open_named.new.disk)
    (c.open_named.ensures.quiet (c.in-Ok.ensures.call.tells.0 t) (stable_after v0 v1 rests stable) (repaired_after v0 v1 rests repaired))

pub returns-in-Ok-clause-told : goal.returns-in-Ok-clause-told
returns-in-Ok-clause-told g c = λ t stable repaired.
    let v0 = g.D.DiskModel.view c.args.disk.now in
    let v1 = g.D.DiskModel.view c.list.new.self in
    let rests = c.in-Ok.ensures.disk t in
    opened_after v0 v1 rests (g.D.DiskModel.view c.open_named.new.disk) c.open_named.result
    (c.open_named.ensures.told (c.in-Ok.ensures.call.tells.0 t) (stable_after v0 v1 rests stable) (repaired_after v0 v1 rests repaired))

pub returns-in-Ok-clause-stable : goal.returns-in-Ok-clause-stable
returns-in-Ok-clause-stable g c = λ t stable.
    c.open_named.ensures.stable (c.list.ensures.call.tells.0 t) (stable_after (g.D.DiskModel.view c.args.disk.now) (g.D.DiskModel.view c.list.new.self) (c.list.ensures.disk t) stable)
