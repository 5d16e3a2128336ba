use Rattle.pipe_seats.specs.Opened.{came_as}
use Rattle.pipe_seats.proofs.OpenedLaws.{set_came}
use Rattle.pipe_seats.proofs.SeatLaws.{carried_over, as_many}
use Rattle.pipe_seats.proofs.pipe_wire.PipeWireWire.carry.Goals as goal

pub returns-clause-carried : goal.returns-clause-carried
returns-clause-carried g c =
    carried_over c.call.result c.self.inside.seats.items c.args.self.now c.args.node c.args.request.now c.index_mut.result.now c.call.new.self c.self.view_is
    c.index_mut.ensures.value c.call.ensures.called

pub returns-clause-nodes : goal.returns-clause-nodes
returns-clause-nodes g c = as_many c.self.inside.seats.items c.args.self.now _ c.call.new.self c.self.view_is

pub invariant_of-self : goal.invariant_of-self
invariant_of-self g c =
    set_came (came_as g.O.Opener.are_of g.S.Source.left g.K.Sink.taken) c.self.inside.seats.items c.args.node c.index_mut.result.now c.call.new.self c.requires.low c.index_mut.ensures.value
    c.call.ensures.came c.self.invariant
