use Rattle.disk_node.proofs.DoingCalls.{remove_range, remove_end, remove_there, remove_record, remove_accepted, can_discard, remove_does, does_placeless, call_placeless}
use Rattle.disk_node.proofs.calling.remove.Goals as goal

pub remove_segment-requires-clause-start : goal.remove_segment-requires-clause-start
remove_segment-requires-clause-start g c = remove_range c.args.info c.requires.due.segments c.requires.due.rows c.requires.due.told c.requires.due.due

pub remove_segment-requires-clause-end : goal.remove_segment-requires-clause-end
remove_segment-requires-clause-end g c = remove_end c.args.info c.requires.due.segments c.requires.due.rows c.requires.due.told c.requires.due.sound c.requires.due.due

pub remove_segment-requires-clause-there : goal.remove_segment-requires-clause-there
remove_segment-requires-clause-there g c = λ t.
    let can = c.requires.can t in remove_there (g.D.DiskModel.view c.args.disk.now) can.0 can.1 c.args.request.now c.args.info (g.met.D.Disk.sound _ t) can.2

pub remove_segment-requires-clause-record_ : goal.remove_segment-requires-clause-record_
remove_segment-requires-clause-record_ g c = λ t.
    let can = c.requires.can t in remove_record (g.D.DiskModel.view c.args.disk.now) can.0 can.1 c.args.request.now c.args.info (g.met.D.Disk.sound _ t) can.2

pub returns-clause-call : goal.returns-clause-call
returns-clause-call g c = call_placeless g.D.DiskModel c.placeless.ensures.same c.remove_segment.ensures.call

pub returns-clause-does : goal.returns-clause-does
returns-clause-does g c = λ rows t s can.
    let v = g.D.DiskModel.view c.args.disk.now in
    let may = can_discard v rows s c.args.request.now c.args.info (g.met.D.Disk.sound _ t) can in
    let accepted = remove_accepted v rows s c.args.request.now c.args.info (g.met.D.Disk.sound _ t) can in
    does_placeless c.placeless.ensures.same
    (remove_does s c.args.request.now c.remove_segment.result v (g.D.DiskModel.view c.remove_segment.new.disk)
    (g.D.DiskModel.left c.args.disk.now) (g.D.DiskModel.left c.remove_segment.new.disk) c.args.info can.due
    (c.remove_segment.ensures.effect t s can.due.segment can.held.files may accepted) (c.remove_segment.ensures.others t)
    c.remove_segment.ensures.counts (c.remove_segment.ensures.cut t s can.due.segment can.held.files may accepted))
