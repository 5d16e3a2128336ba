use Rattle.std.proofs.Common.{◌≡◌, arith}
use Rattle.writer_core.proofs.BestLaws.{best_counted}
use Rattle.writer_core.proofs.prepared.best_of.Goals as goal

pub returns-clause-counted : goal.returns-clause-counted
returns-clause-counted c =
    let z : c.loop-rest.rest ≡ 0 = omega arith in
    let e = rw z at c.loop-rest.invariant.1 in
    rw e (best_counted c.args.start c.args.slots.now)
