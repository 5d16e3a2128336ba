use Rattle.disk_files.proofs.OpenQuiet.{quiet_then, numbers_stay, have_stays}
use Rattle.disk_files.proofs.OpenHolds.{found_before, record_refused}
use Rattle.disk_files.proofs.opening.open_numbered.Goals as goal

pub returns-in-Done-clause-quiet : goal.returns-in-Done-clause-quiet
returns-in-Done-clause-quiet g c = λ t stable.
    let t1 = c.complete_half_done.ensures.call.tells.0 t in
    quiet_then (g.D.DiskModel.view c.args.disk.now) (g.D.DiskModel.view c.complete_half_done.new.disk) (g.D.DiskModel.view c.open_repaired.new.disk) (c.complete_half_done.ensures.quiet t stable)
    (c.open_repaired.ensures.quiet t1 (c.complete_half_done.ensures.stable t stable) (c.in-Done.ensures.told t stable).0)

pub returns-in-Done-clause-told : goal.returns-in-Done-clause-told
returns-in-Done-clause-told g c = λ t stable numbers have.
    let t1 = c.complete_half_done.ensures.call.tells.0 t in
    let quiet = c.complete_half_done.ensures.quiet t stable in
    let repairs = quiet.seen in
    let done = c.in-Done.ensures.told t stable in
    found_before (g.D.DiskModel.view c.args.disk.now).seen (g.D.DiskModel.view c.complete_half_done.new.disk).seen
    (g.D.DiskModel.view c.open_repaired.new.disk) repairs (c.complete_half_done.ensures.spares t stable).seen done.0 done.1 c.args.numbers have
    c.open_repaired.result (c.open_repaired.ensures.told t1 (c.complete_half_done.ensures.stable t stable)
    (numbers_stay (g.D.DiskModel.view c.args.disk.now) (g.D.DiskModel.view c.complete_half_done.new.disk) quiet numbers) done.0
    (have_stays (g.D.DiskModel.view c.args.disk.now).seen (g.D.DiskModel.view c.complete_half_done.new.disk).seen repairs c.args.numbers have))

pub returns-in-BadFile-clause-told : goal.returns-in-BadFile-clause-told
returns-in-BadFile-clause-told g c = λ t stable numbers have.
    let told = c.in-BadFile.ensures.told t stable in
    (tt, record_refused (g.D.DiskModel.view c.args.disk.now).seen (g.D.DiskModel.view c.complete_half_done.new.disk).seen told.1 c.args.numbers have c.in-BadFile.name told.0)
