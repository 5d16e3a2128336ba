use Rattle.std.proofs.Common.{◌≡◌, is_some, length}
use Rattle.journal_text.specs.Reading.{bodies_in}
use Rattle.journal_text.proofs.words.Words.are_bodies.Given as goal

-- whether the words of the rest are bodies decides
abbrev pub invariant-loop-word : goal.invariant-loop-word
invariant-loop-word l = is_some (bodies_in l.words) ≡ is_some (bodies_in l.self)

abbrev pub decreases-loop-word : goal.decreases-loop-word
decreases-loop-word l = length l.words
