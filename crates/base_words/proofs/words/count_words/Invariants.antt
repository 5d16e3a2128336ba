use Rattle.std.proofs.Common.{◌≡◌, ◌≤◌, ◌+◌, length}
use Rattle.std.specs.List.{list_any}
use Rattle.base_words.specs.Words.{words_of, is_empty}
use Rattle.base_words.proofs.words.count_words.Given as goal

-- the words so far are not empty
abbrev pub invariant-loop-word : goal.invariant-loop-word
invariant-loop-word l =
    (list_any is_empty (words_of l.line) ≡ list_any is_empty (words_of l.rest)) × (length (words_of l.line) ≡ l.count + length (words_of l.rest))
    × (l.count + length l.rest ≤ length l.line)

abbrev pub decreases-loop-word : goal.decreases-loop-word
decreases-loop-word l = length l.rest
