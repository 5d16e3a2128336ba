use Rattle.std.proofs.Common.{ℕ, ◌≡◌, ◌<◌, None, get_or}
use Rattle.pipe_seats.specs.Seats.{SeatView}
use Rattle.pipe_seats.proofs.pipe_wire.are_resting.Given as goal

-- none so far
abbrev pub invariant-loop-i : goal.invariant-loop-i
invariant-loop-i g l = (k : ℕ) (d : SeatView) → k < l.i → (get_or l.seats k d).under_way ≡ None
