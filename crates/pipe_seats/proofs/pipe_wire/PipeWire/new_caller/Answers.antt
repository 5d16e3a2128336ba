use Rattle.pipe_seats.proofs.SeatLaws.{fresh_if}
use Rattle.pipe_seats.proofs.pipe_wire.PipeWire.new_caller.Goals as goal

pub returns : goal.returns
returns g c = fresh_if c.new-2.result c.in_ok-wire.wire c.args.nodes c.args.life c.in_ok-wire.ensures c.new-2.ensures
