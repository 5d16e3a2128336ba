use Rattle.std.proofs.Common.{◌≡◌, replicate}
use Rattle.pipe_seats.specs.Seats.{unopened_seat}
use Rattle.pipe_seats.proofs.pipe_wire.unopened_seats.Given as goal

abbrev pub invariant-loop : goal.invariant-loop
invariant-loop g l = l.seats.items ≡ replicate l.counter (unopened_seat l.life)
