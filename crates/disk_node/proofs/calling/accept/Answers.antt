use Rattle.std.proofs.Common.{arith, ap, sym, subst}
use Rattle.journal_core.specs.Views.{BatchView}
use Rattle.disk_segment.specs.Calls.{IsFrameOf}
use Rattle.disk_node.proofs.DoingCalls.{can_accept, accept_does, does_placeless, call_placeless}
use Rattle.disk_node.proofs.calling.accept.Goals as goal

pub unreachable-requires : goal.unreachable-requires
unreachable-requires g c = omega (arith, ap (λ (b : BatchView). b.first) c.in-None.ensures.batch, c.requires.due.due.start_fits.0)

pub accept_edits-requires-clause-frame : goal.accept_edits-requires-clause-frame
accept_edits-requires-clause-frame g c = subst (λ (b : BatchView). IsFrameOf b c.args.frame.now) (sym c.in-Some.ensures.batch) (c.requires.frame c.requires.due.due.start_fits.0)

pub returns-clause-call : goal.returns-clause-call
returns-clause-call g c = call_placeless g.D.DiskModel c.placeless.ensures.same c.accept_edits.ensures.call

pub returns-clause-frame : goal.returns-clause-frame
returns-clause-frame g c = λ some. subst (λ (b : BatchView). IsFrameOf b c.accept_edits.new.frame) c.in-Some.ensures.batch c.accept_edits.ensures.frame

pub returns-clause-does : goal.returns-clause-does
returns-clause-does g c = λ rows t s can.
    let v = g.D.DiskModel.view c.args.disk.now in
    let may = can_accept v rows s c.args.request.now c.args.epoch c.args.again c.in-Some.batch.now c.in-Some.ensures.batch can in
    does_placeless c.placeless.ensures.same
    (accept_does s c.args.request.now c.accept_edits.result v (g.D.DiskModel.view c.accept_edits.new.disk)
    (g.D.DiskModel.left c.args.disk.now) (g.D.DiskModel.left c.accept_edits.new.disk) c.args.epoch c.args.again c.in-Some.batch.now
    c.in-Some.ensures.batch can.due.record_is
    (c.accept_edits.ensures.effect t s can.held.files may) (c.accept_edits.ensures.others t) c.accept_edits.ensures.counts
    (c.accept_edits.ensures.cut t s can.held.files may))
