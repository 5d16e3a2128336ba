use Rattle.disk_node.proofs.DoingCalls.{number_does, does_placeless, call_placeless}
use Rattle.disk_node.proofs.DoingRows.{number_fits}
use Rattle.disk_node.proofs.calling.store.Goals as goal

pub put_number-requires-clause-value : goal.put_number-requires-clause-value
put_number-requires-clause-value g c = number_fits c.args.number c.args.value c.requires.due.segments c.requires.due.rows c.args.request.now c.requires.due.due

pub returns-clause-call : goal.returns-clause-call
returns-clause-call g c = call_placeless g.D.DiskModel c.placeless.ensures.same c.put_number.ensures.call

pub returns-clause-does : goal.returns-clause-does
returns-clause-does g c = λ rows t s can.
    does_placeless c.placeless.ensures.same
    (number_does s c.args.request.now c.put_number.result (g.D.DiskModel.view c.args.disk.now) (g.D.DiskModel.view c.put_number.new.disk)
    (g.D.DiskModel.left c.args.disk.now) (g.D.DiskModel.left c.put_number.new.disk) c.args.number c.args.value
    (c.put_number.ensures.effect t s can.held.files) (c.put_number.ensures.appends t) c.put_number.ensures.counts (c.put_number.ensures.cut t s can.held.files))
