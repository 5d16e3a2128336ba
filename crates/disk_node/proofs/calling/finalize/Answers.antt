use Rattle.disk_node.proofs.DoingCalls.{finalize_there, finalize_record, can_finalize, finalize_does, does_placeless, call_placeless}
use Rattle.disk_node.proofs.calling.finalize.Goals as goal

pub finalize_segment-requires-clause-there : goal.finalize_segment-requires-clause-there
finalize_segment-requires-clause-there g c = λ t.
    let can = c.requires.can t in
    finalize_there (g.D.DiskModel.view c.args.disk.now) can.0 can.1 c.args.request.now c.args.start c.args.end c.args.accepted (g.met.D.Disk.sound _ t) can.2

pub finalize_segment-requires-clause-record_ : goal.finalize_segment-requires-clause-record_
finalize_segment-requires-clause-record_ g c = λ t.
    let can = c.requires.can t in
    finalize_record (g.D.DiskModel.view c.args.disk.now) can.0 can.1 c.args.request.now c.args.start c.args.end c.args.accepted (g.met.D.Disk.sound _ t) can.2

pub returns-clause-call : goal.returns-clause-call
returns-clause-call g c = call_placeless g.D.DiskModel c.placeless.ensures.same c.finalize_segment.ensures.call

pub returns-clause-does : goal.returns-clause-does
returns-clause-does g c = λ rows t s can.
    let v = g.D.DiskModel.view c.args.disk.now in
    let may = can_finalize v rows s c.args.request.now c.args.start c.args.end c.args.accepted (g.met.D.Disk.sound _ t) can in
    does_placeless c.placeless.ensures.same
    (finalize_does s c.args.request.now c.finalize_segment.result v (g.D.DiskModel.view c.finalize_segment.new.disk)
    (g.D.DiskModel.left c.args.disk.now) (g.D.DiskModel.left c.finalize_segment.new.disk) c.args.start c.args.end c.args.accepted can.due
    (c.finalize_segment.ensures.effect t s can.due.segment can.held.files may can.due.accepted_is) (c.finalize_segment.ensures.others t)
    c.finalize_segment.ensures.counts (c.finalize_segment.ensures.cut t s can.due.segment can.held.files may can.due.accepted_is))
