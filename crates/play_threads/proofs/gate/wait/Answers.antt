use Rattle.std.proofs.Common.{arith, ap, ◌∙◌}
use Rattle.play_threads.proofs.Steps.{looks}
use Rattle.play_threads.proofs.gate.wait.Goals as goal

pub load-found-requires : goal.load-found-requires
load-found-requires g c =
    let own = c.requires.own in
    let w = own.1 in
    let i = c.loop.invariant in
    (i.2 ∙ own.0, omega arith, looks _ _ _ _ _ (ap (λ m. m.0.stage) i.3 ∙ c.requires.waits.0))
