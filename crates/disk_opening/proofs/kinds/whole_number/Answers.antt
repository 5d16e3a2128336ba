use Rattle.std.proofs.Common.{◌≡◌, ◌∙◌, sym, arith}
use Rattle.base_words.proofs.PaddedLaws.{padded_injective}
use Rattle.disk_opening.proofs.kinds.whole_number.Goals as goal

pub returns-then-number-eq0 : goal.returns-then-number-eq0
returns-then-number-eq0 c n first small is =
    let same : n ≡ c.in-Some.number = padded_injective n c.in-Some.number small c.in-Some.ensures.found.0 (sym is ∙ c.in-Some.ensures.found.1) in
    omega (arith, same, first, c.if-number-eq0.true)
