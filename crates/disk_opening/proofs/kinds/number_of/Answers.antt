use Rattle.std.proofs.Common.{◌∙◌, List, ℕ, ap, arith, take, length, length-append}
use Rattle.std.proofs.lemmas.List.{take_at}
use Rattle.base_words.specs.Padded.{padded}
use Rattle.base_words.proofs.PaddedLaws.{length-padded}
use Rattle.disk_opening.proofs.kinds.number_of.Goals as goal

pub returns-then-bytes-lt19 : goal.returns-then-bytes-lt19
returns-then-bytes-lt19 c n rest is = omega (arith, c.if-bytes-lt19.true, ap length is.spelled, length-append (padded 19 n) rest, length-padded 19 n)

pub returns-in-None : goal.returns-in-None
returns-in-None c n rest is = c.in-None.ensures n is.first is.small (c.split_at.ensures.front ∙ ap (λ (l : List ℕ). take 19 l) is.spelled ∙ take_at (padded 19 n) rest 19 (length-padded 19 n))
