use Rattle.std.proofs.Common.{arith, ap}
use Rattle.play_threads.proofs.Steps.{splits}
use Rattle.play_threads.proofs.gate.next_seat.Goals as goal

pub split_seat-seat-requires : goal.split_seat-seat-requires
split_seat-seat-requires g c =
    let own = c.requires.own in
    let w = own.1 in
    (own.0, omega arith, splits _ _ c.args.made _ _ (ap (λ m. m.0) c.requires.keeps) c.requires.few)
