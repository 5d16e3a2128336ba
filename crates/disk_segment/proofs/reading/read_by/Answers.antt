use Rattle.std.proofs.Common.{◌-◌}
use Rattle.disk_segment.proofs.ReadLemmas.{found_given, none_served, no_file, bad_given}
use Rattle.disk_segment.proofs.reading.read_by.Goals as goal

pub returns-in-Some-clause-given : goal.returns-in-Some-clause-given
returns-in-Some-clause-given g c = λ t.
    let f = rw c.in-Ok-Some.field-0-is at (c.in-Ok-Some.ensures.told t) in
    found_given c.args.segment.now.start c.args.segment.now.end c.args.segment.now.is_final c.args.from f.0
    ((g.D.DiskModel.view c.args.disk.now).seen c.args.name.now) c.in-Some.batch f.1 (c.in-Some.ensures f.0 f.2)

pub returns-in-None-clause-given : goal.returns-in-None-clause-given
returns-in-None-clause-given g c = λ t.
    let f = rw c.in-Ok-Some.field-0-is at (c.in-Ok-Some.ensures.told t) in
    bad_given c.args.segment.now.start c.args.segment.now.end c.args.segment.now.is_final c.args.from ((g.D.DiskModel.view c.args.disk.now).seen c.args.name.now) c.args.name.now c.requires.named
    (none_served c.args.segment.now.start c.args.segment.now.end c.args.segment.now.is_final c.args.from f.0
    ((g.D.DiskModel.view c.args.disk.now).seen c.args.name.now) f.1 (c.in-None.ensures f.0 f.2)) c.bad_file.result c.bad_file.ensures

pub returns-in-Ok-None-clause-given : goal.returns-in-Ok-None-clause-given
returns-in-Ok-None-clause-given g c = λ t.
    bad_given c.args.segment.now.start c.args.segment.now.end c.args.segment.now.is_final c.args.from ((g.D.DiskModel.view c.args.disk.now).seen c.args.name.now) c.args.name.now c.requires.named
    (no_file c.args.segment.now.start c.args.segment.now.end c.args.segment.now.is_final c.args.from (c.args.from - c.args.segment.now.start) 256
    ((g.D.DiskModel.view c.args.disk.now).seen c.args.name.now) (rw c.in-Ok-None.field-0-is at (c.in-Ok-None.ensures.told t)))
    c.bad_file-in-Ok-None.result c.bad_file-in-Ok-None.ensures
