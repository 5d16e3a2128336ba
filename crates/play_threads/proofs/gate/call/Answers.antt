use Rattle.play_threads.proofs.Calls.{noted_as, passes_called, added}
use Rattle.play_threads.proofs.gate.call.Goals as goal

pub pass_on-requires-clause-seen : goal.pass_on-requires-clause-seen
pass_on-requires-clause-seen g c =
    let n = c.note.ensures.noted in
    passes_called g.C.GateCell.led c.args.seat.now.me c.enter-ticket.new.seat.me c.visit.new.seat.me c.note.new.seat.me _ _ c.requires.rests.2 c.enter-ticket.ensures.entered c.in-Ok.ensures.ok
    (noted_as g.C.GateCell.led c.visit.new.seat.me c.note.new.seat.me _ n.0 n.1 n.2)

pub returns-in-Ok-clause-ok : goal.returns-in-Ok-clause-ok
returns-in-Ok-clause-ok g c =
    let n = c.note.ensures.noted in
    added g.C.GateCell.led c.args.seat.now.me c.enter-ticket.new.seat.me c.visit.new.seat.me c.note.new.seat.me c.pass_on.new.seat.me _ _
    c.requires.rests.2 c.enter-ticket.ensures.entered c.in-Ok.ensures.ok (noted_as g.C.GateCell.led c.visit.new.seat.me c.note.new.seat.me _ n.0 n.1 n.2)
    c.pass_on.ensures.passed
