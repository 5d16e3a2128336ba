use Rattle.std.proofs.Common.{◌≡◌, length, map}
use Rattle.play_threads.specs.Seated.{seat_of}
use Rattle.play_pipes.proofs.pipe_lines.lines_at.Given as goal

abbrev pub invariant-loop-seat : goal.invariant-loop-seat
invariant-loop-seat g l =
    (goal.iterator-loop-seat g).can_next l.seat-iterator × (goal.iterator-loop-seat g).is_finite l.seat-iterator × (l.at ≡ length l.yielded)
    × (l.lines.items ≡ map (λ t. seat_of t.seat.table_id t.caller t.seat.me.0.seen) l.yielded)
