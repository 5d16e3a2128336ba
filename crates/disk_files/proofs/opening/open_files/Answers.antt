use Rattle.disk_files.proofs.OpenQuiet.{synced_quiet, quiet_then, quiet_moments, states_stay, same_path}
use Rattle.disk_files.proofs.OpenHolds.{found_after}
use Rattle.disk_files.proofs.opening.open_files.Goals as goal

pub returns-in-Ok-clause-quiet : goal.returns-in-Ok-clause-quiet
returns-in-Ok-clause-quiet g c = λ t.
    let v0 = g.D.DiskModel.view c.args.disk.now in
    let v1 = g.D.DiskModel.view c.sync_files.new.disk in
    quiet_then v0 v1 (g.D.DiskModel.view c.open_stable.new.disk) (synced_quiet v0 v1 (c.sync_files.ensures.quiet t))
    (c.open_stable.ensures.quiet (c.sync_files.ensures.call.tells.0 t) (c.in-Ok.ensures.segments t))

pub returns-in-Ok-clause-moments : goal.returns-in-Ok-clause-moments
returns-in-Ok-clause-moments g c = λ t.
    let v0 = g.D.DiskModel.view c.args.disk.now in
    let v1 = g.D.DiskModel.view c.sync_files.new.disk in
    let v2 = g.D.DiskModel.view c.open_stable.new.disk in
    quiet_moments v0 v2 (quiet_then v0 v1 v2 (synced_quiet v0 v1 (c.sync_files.ensures.quiet t)) (c.open_stable.ensures.quiet (c.sync_files.ensures.call.tells.0 t) (c.in-Ok.ensures.segments t)))

pub returns-in-Ok-clause-seen : goal.returns-in-Ok-clause-seen
returns-in-Ok-clause-seen g c = λ t.
    let v0 = g.D.DiskModel.view c.args.disk.now in
    let v1 = g.D.DiskModel.view c.sync_files.new.disk in
    let v2 = g.D.DiskModel.view c.open_stable.new.disk in
    states_stay v0.seen v2.seen (quiet_then v0 v1 v2 (synced_quiet v0 v1 (c.sync_files.ensures.quiet t))
    (c.open_stable.ensures.quiet (c.sync_files.ensures.call.tells.0 t) (c.in-Ok.ensures.segments t))).seen

pub returns-in-Ok-clause-files : goal.returns-in-Ok-clause-files
returns-in-Ok-clause-files g c = λ t.
    let v0 = g.D.DiskModel.view c.args.disk.now in
    let v1 = g.D.DiskModel.view c.sync_files.new.disk in
    (found_after v0.seen v1.seen (g.D.DiskModel.view c.open_stable.new.disk) c.open_stable.result
    (same_path v0.seen v1.seen (c.sync_files.ensures.quiet t).seen)
    (c.open_stable.ensures.told (c.sync_files.ensures.call.tells.0 t) (c.in-Ok.ensures.segments t) (c.in-Ok.ensures.numbers t))).0

pub returns-in-Ok-clause-bad : goal.returns-in-Ok-clause-bad
returns-in-Ok-clause-bad g c = λ t.
    let v0 = g.D.DiskModel.view c.args.disk.now in
    let v1 = g.D.DiskModel.view c.sync_files.new.disk in
    (found_after v0.seen v1.seen (g.D.DiskModel.view c.open_stable.new.disk) c.open_stable.result
    (same_path v0.seen v1.seen (c.sync_files.ensures.quiet t).seen)
    (c.open_stable.ensures.told (c.sync_files.ensures.call.tells.0 t) (c.in-Ok.ensures.segments t) (c.in-Ok.ensures.numbers t))).1

pub returns-in-Err-Failed-clause-quiet : goal.returns-in-Err-Failed-clause-quiet
returns-in-Err-Failed-clause-quiet g c = λ t. synced_quiet (g.D.DiskModel.view c.args.disk.now) (g.D.DiskModel.view c.sync_files.new.disk) (c.sync_files.ensures.quiet t)

pub returns-in-Err-Failed-clause-moments : goal.returns-in-Err-Failed-clause-moments
returns-in-Err-Failed-clause-moments g c = λ t.
    let v0 = g.D.DiskModel.view c.args.disk.now in
    let v1 = g.D.DiskModel.view c.sync_files.new.disk in
    quiet_moments v0 v1 (synced_quiet v0 v1 (c.sync_files.ensures.quiet t))

pub returns-in-Err-OutOfMemory-clause-quiet : goal.returns-in-Err-OutOfMemory-clause-quiet
returns-in-Err-OutOfMemory-clause-quiet g c = λ t. synced_quiet (g.D.DiskModel.view c.args.disk.now) (g.D.DiskModel.view c.sync_files.new.disk) (c.sync_files.ensures.quiet t)

pub returns-in-Err-OutOfMemory-clause-moments : goal.returns-in-Err-OutOfMemory-clause-moments
returns-in-Err-OutOfMemory-clause-moments g c = λ t.
    let v0 = g.D.DiskModel.view c.args.disk.now in
    let v1 = g.D.DiskModel.view c.sync_files.new.disk in
    quiet_moments v0 v1 (synced_quiet v0 v1 (c.sync_files.ensures.quiet t))
