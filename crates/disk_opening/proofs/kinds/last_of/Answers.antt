use Rattle.std.proofs.Common.{◌≡◌, ◌∙◌, sym, arith}
use Rattle.base_words.proofs.PaddedLaws.{padded_injective}
use Rattle.disk_opening.proofs.kinds.last_of.Goals as goal

pub returns-then-last-start : goal.returns-then-last-start
returns-then-last-start c n least small is =
    let same : n ≡ c.in-Some.last = padded_injective n c.in-Some.last small c.in-Some.ensures.found.0 (sym is ∙ c.in-Some.ensures.found.1) in
    omega (arith, same, least, c.if-last-start.true)
