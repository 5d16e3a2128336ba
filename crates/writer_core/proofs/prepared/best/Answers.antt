use Rattle.std.proofs.Common.{◌≡◌, ◌∙◌, sym, arith}
use Rattle.writer_core.proofs.RankLaws.{best_place_is}
use Rattle.writer_core.proofs.prepared.best.Goals as goal

pub returns-in-Some-clause-first : goal.returns-in-Some-clause-first
returns-in-Some-clause-first c =
    let z : c.loop-rest.rest ≡ 0 = omega arith in
    let e = rw z at c.loop-rest.invariant.1 in
    let b = sym e ∙ c.in-Some.is in
    let first = rw b at (best_place_is c.args.answers.now) in
    rw c.node.ensures first

pub returns-in-None-clause-first : goal.returns-in-None-clause-first
returns-in-None-clause-first c =
    let z : c.loop-rest.rest ≡ 0 = omega arith in
    let e = rw z at c.loop-rest.invariant.1 in
    let b = sym e ∙ c.in-None.is in
    rw b at (best_place_is c.args.answers.now)
