use Rattle.std.proofs.Common.{◌≡◌, length}
use Rattle.pipe_seats.specs.Wires.{Readies}
use Rattle.pipe_seats.proofs.pipe_wire.PipeWireWire.ready.Given as goal

abbrev pub invariant-loop-node : goal.invariant-loop-node
invariant-loop-node g l = Readies l.initial.self l.self × (length l.self ≡ length l.initial.self)
