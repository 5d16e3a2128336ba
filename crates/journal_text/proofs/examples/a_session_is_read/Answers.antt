use Rattle.std.proofs.Common.{refl}
use Rattle.std.specs.Fmt.{digits}
use Rattle.base_words.specs.Words.{words_of}
use Rattle.base_words.specs.WordNumbers.{is_number}
use Rattle.journal_text.specs.Reading.{reading_of, word_of, number_in, body_in}
use Rattle.journal_text.proofs.examples.a_session_is_read.Goals as goal

pub returns : goal.returns
unfolding words_of is_number reading_of word_of number_in body_in digits
returns c = refl
