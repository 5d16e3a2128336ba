use Rattle.std.proofs.Common.{arith}
use Rattle.play_threads.proofs.Steps.{draws}
use Rattle.play_threads.proofs.gate.draw.Goals as goal

pub fetch_add-requires : goal.fetch_add-requires
fetch_add-requires g c =
    let own = c.requires.own in
    let w = own.1 in
    (own.0, omega arith, draws _ _ _ _ _ c.requires.rests)
