use Rattle.std.proofs.Common.{◌≡◌, drop}
use Rattle.journal_text.specs.Reading.{word_among, all_words}
use Rattle.journal_text.proofs.request_word.RequestWord.of.Given as goal

-- none of the words so far has the text
abbrev pub invariant-loop-word : goal.invariant-loop-word
invariant-loop-word l = word_among (drop l.word-index l.word-items) l.text ≡ word_among all_words l.text
