use Rattle.std.proofs.Common.{arith}
use Rattle.play_threads.proofs.Steps.{passes_at}
use Rattle.play_threads.proofs.gate.pass_on.Goals as goal

pub store-requires : goal.store-requires
store-requires g c =
    let own = c.requires.own in
    let w = own.1 in
    let k = c.requires.seen in
    let t = c.requires.inside.1 in
    (own.0, omega arith, passes_at _ _ _ _ k.0 _ c.requires.inside.0 k.1 k.2 omega arith)
