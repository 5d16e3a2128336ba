use Rattle.std.proofs.Common.{◌≡◌, length}
use Rattle.base_words.specs.Words.{words_of, first_word}
use Rattle.base_words.proofs.words.first_word.Given as goal

-- the first word is still to come
abbrev pub invariant-loop-word : goal.invariant-loop-word
invariant-loop-word l = first_word (words_of l.rest) ≡ first_word (words_of l.line)

abbrev pub decreases-loop-word : goal.decreases-loop-word
decreases-loop-word l = length l.rest
