use Rattle.std.proofs.Common.{arith, ap, sym, subst}
use Rattle.journal_core.specs.Views.{BatchView}
use Rattle.disk_segment.specs.Calls.{IsFrameOf}
use Rattle.disk_effects.specs.Due.{batch_of}
use Rattle.disk_node.proofs.DoingCalls.{append_range, append_some, appends_at, append_blank, can_append, append_does}
use Rattle.disk_node.proofs.calling.append.Goals as goal

pub unreachable-requires : goal.unreachable-requires
unreachable-requires g c =
    omega (
      arith,
      ap (λ (b : BatchView). b.first) c.in-None.ensures.batch,
      append_some c.args.start c.args.at (batch_of c.args.request.now) c.requires.due.segments c.requires.due.rows c.requires.due.told c.requires.due.due,
    )

pub append_edits-requires-clause-start : goal.append_edits-requires-clause-start
append_edits-requires-clause-start g c = append_range c.args.start c.args.at (batch_of c.args.request.now) c.requires.due.segments c.requires.due.rows c.requires.due.told c.requires.due.due

pub append_edits-requires-clause-blank : goal.append_edits-requires-clause-blank
append_edits-requires-clause-blank g c = λ t.
    let can = c.requires.can t in append_blank (g.D.DiskModel.view c.args.disk.now) can.0 can.1 c.args.request.now c.args.start c.args.at can.2

pub append_edits-requires-clause-frame : goal.append_edits-requires-clause-frame
append_edits-requires-clause-frame g c =
    subst (λ (b : BatchView). IsFrameOf b c.args.frame.now) (sym c.in-Some.ensures.batch)
    (c.requires.frame (append_some c.args.start c.args.at (batch_of c.args.request.now) c.requires.due.segments c.requires.due.rows c.requires.due.told c.requires.due.due))

pub returns-clause-does : goal.returns-clause-does
returns-clause-does g c = λ rows t s can.
    let v = g.D.DiskModel.view c.args.disk.now in
    let may = can_append v rows s c.args.request.now c.args.start c.args.at can c.in-Some.batch.now c.in-Some.ensures.batch in
    append_does s c.args.request.now c.append_edits.result v (g.D.DiskModel.view c.append_edits.new.disk)
    (g.D.DiskModel.left c.args.disk.now) (g.D.DiskModel.left c.append_edits.new.disk) c.args.start c.args.at c.in-Some.batch.now rows can.due c.in-Some.ensures.batch
    (c.append_edits.ensures.effect t s can.due.segment can.held.files may) (c.append_edits.ensures.others t)
    (c.append_edits.ensures.appends t can.due.segment can.due.start_is (appends_at v rows s c.args.request.now c.args.start c.args.at can) may.next)
    c.append_edits.ensures.counts (c.append_edits.ensures.cut t s can.due.segment can.held.files may)
