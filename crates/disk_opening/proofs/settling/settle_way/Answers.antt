use Rattle.disk_opening.proofs.RecordLemmas.{at_true, at_false}
use Rattle.disk_opening.proofs.MendLemmas.{put_mends, put_clears, drop_mends}
use Rattle.disk_opening.proofs.settling.settle_way.Goals as goal

pub returns-then-branch-clause-mends : goal.returns-then-branch-clause-mends
returns-then-branch-clause-mends g c = λ t all.
    let t1 = c.is_segment.ensures.call.tells.0 t in
    let told = at_true c.in_ok-is_segment.field-0 _ _ c.if-branch.true (c.in_ok-is_segment.ensures.value t) in
    put_mends (g.D.DiskModel.view c.args.disk.now) (g.D.DiskModel.view c.is_segment.new.disk) (g.D.DiskModel.view c.put_in_place.new.disk)
    (g.met.D.Disk.sound _ t) (g.met.D.Disk.sound _ t1) (c.is_segment.ensures.disk t)
    c.args.way.now c.args.start c.args.epoch c.requires.named c.put_in_place.result (c.put_in_place.ensures.moves t1) all told.0 (c.requires.there t)

pub returns-then-branch-clause-clears : goal.returns-then-branch-clause-clears
returns-then-branch-clause-clears g c = λ t.
    let t1 = c.is_segment.ensures.call.tells.0 t in
    put_clears (g.D.DiskModel.view c.args.disk.now) (g.D.DiskModel.view c.is_segment.new.disk) (g.D.DiskModel.view c.put_in_place.new.disk)
    (g.met.D.Disk.sound _ t) (g.met.D.Disk.sound _ t1) (c.is_segment.ensures.disk t)
    c.args.way.now c.args.start c.args.epoch c.requires.named c.put_in_place.result (c.put_in_place.ensures.moves t1)

pub returns-else-branch-clause-mends : goal.returns-else-branch-clause-mends
returns-else-branch-clause-mends g c = λ t all.
    let t1 = c.is_segment.ensures.call.tells.0 t in
    let told = at_false c.in_ok-is_segment.field-0 _ _ c.if-branch.false (c.in_ok-is_segment.ensures.value t) in
    drop_mends (g.D.DiskModel.view c.args.disk.now) (g.D.DiskModel.view c.is_segment.new.disk) (g.D.DiskModel.view c.remove.new.self)
    (g.met.D.Disk.sound _ t) (g.met.D.Disk.sound _ t1) (c.is_segment.ensures.disk t)
    c.args.way.now c.args.start c.args.epoch c.requires.named c.remove.result (c.remove.ensures.disk t1) all c.args.finals.now (c.requires.finals t) told
