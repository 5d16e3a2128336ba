use Rattle.std.proofs.Common.{◌≤◌, arith}
use Rattle.pipe_seats.specs.Opened.{came_as}
use Rattle.pipe_seats.proofs.OpenedLaws.{set_came}
use Rattle.pipe_seats.proofs.SeatLaws.{sent_over, as_many}
use Rattle.pipe_seats.proofs.pipe_wire.PipeWire.send_ahead.Goals as goal

pub returns-clause-readied : goal.returns-clause-readied
returns-clause-readied g c =
    sent_over c.send.result c.self.inside.seats.items c.args.self.now c.args.node c.args.request.now c.index_mut.result.now c.send.new.self c.self.view_is
    c.index_mut.ensures.value c.send.ensures.sent

pub returns-clause-nodes : goal.returns-clause-nodes
returns-clause-nodes g c = as_many c.self.inside.seats.items c.args.self.now _ c.send.new.self c.self.view_is

pub invariant_of-self : goal.invariant_of-self
invariant_of-self g c =
    let low : 1 ≤ c.args.node = omega (arith, c.if-node-lt1.false) in
    set_came (came_as g.O.Opener.are_of g.S.Source.left g.K.Sink.taken) c.self.inside.seats.items c.args.node c.index_mut.result.now c.send.new.self low c.index_mut.ensures.value
    c.send.ensures.came c.self.invariant
