use Rattle.disk_node.proofs.DoingCalls.{begin_does, does_placeless, call_placeless}
use Rattle.disk_node.proofs.calling.begin.Goals as goal

pub returns-clause-call : goal.returns-clause-call
returns-clause-call g c = call_placeless g.D.DiskModel c.placeless.ensures.same c.begin_segment.ensures.call

pub returns-clause-does : goal.returns-clause-does
returns-clause-does g c = λ rows t s can.
    does_placeless c.placeless.ensures.same
    (begin_does s c.args.request.now c.begin_segment.result (g.D.DiskModel.view c.args.disk.now) (g.D.DiskModel.view c.begin_segment.new.disk)
    (g.D.DiskModel.left c.args.disk.now) (g.D.DiskModel.left c.begin_segment.new.disk) c.args.start c.args.epoch
    (c.begin_segment.ensures.effect t s can.held.files (record { not_final = can.due.not_final; no_edit = can.due.no_edit }))
    (c.begin_segment.ensures.others t) (c.begin_segment.ensures.appends t) c.begin_segment.ensures.counts
    (c.begin_segment.ensures.cut t s can.held.files (record { not_final = can.due.not_final; no_edit = can.due.no_edit })))
