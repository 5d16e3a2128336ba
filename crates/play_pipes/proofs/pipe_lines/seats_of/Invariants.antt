use Rattle.std.proofs.Common.{◌≡◌, map}
use Rattle.std.specs.List.{All}
use Rattle.play_pipes.specs.PipeLines.{OnlyCalls}
use Rattle.play_threads.specs.Seated.{seat_of}
use Rattle.play_pipes.proofs.pipe_lines.seats_of.Given as goal

abbrev pub invariant-loop-line : goal.invariant-loop-line
invariant-loop-line g l =
    (goal.iterator-loop-line g).can_next l.line-iterator × (goal.iterator-loop-line g).is_finite l.line-iterator
    × (map (λ t. seat_of t.seat.table_id t.caller t.seat.me.0.seen) l.seats.items ≡ l.yielded) × All (λ s. OnlyCalls s.own) l.yielded
