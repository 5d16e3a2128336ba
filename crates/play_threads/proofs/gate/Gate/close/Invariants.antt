use Rattle.std.proofs.Common.{◌≡◌, [], map}
use Rattle.play_threads.specs.Board.{keeper as keeper_of}
use Rattle.play_threads.proofs.gate.Gate.close.Given as goal

abbrev pub invariant-loop-seat : goal.invariant-loop-seat
invariant-loop-seat g l =
    (goal.iterator-loop-seat g).can_next l.seat-iterator
    × (goal.iterator-loop-seat g).is_finite l.seat-iterator
    × (l.keeper.table_id ≡ l.initial.keeper.table_id)
    × (l.keeper.me ≡ (keeper_of l.made (map (λ s. (s.seat.me.0.seen, s.seat.me.0.places)) l.yielded), []))
