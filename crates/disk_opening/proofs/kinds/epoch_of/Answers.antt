use Rattle.std.proofs.Common.{◌≡◌, ◌∙◌, sym, arith}
use Rattle.std.proofs.lemmas.Fmt.{decimal_injective}
use Rattle.disk_opening.proofs.kinds.epoch_of.Goals as goal

pub returns-then-epoch-eq0 : goal.returns-then-epoch-eq0
returns-then-epoch-eq0 c n first small is =
    let same : n ≡ c.in-Some.epoch = decimal_injective n c.in-Some.epoch (omega (arith, small)) c.in-Some.ensures.found.0 (sym is ∙ c.in-Some.ensures.found.1) in
    omega (arith, same, first, c.if-epoch-eq0.true)

pub returns-then-epoch-gt-MAX : goal.returns-then-epoch-gt-MAX
returns-then-epoch-gt-MAX c n first small is =
    let same : n ≡ c.in-Some.epoch = decimal_injective n c.in-Some.epoch (omega (arith, small)) c.in-Some.ensures.found.0 (sym is ∙ c.in-Some.ensures.found.1) in
    omega (arith, same, small, c.if-epoch-gt-MAX.true)
