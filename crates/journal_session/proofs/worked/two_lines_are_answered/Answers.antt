use Rattle.std.proofs.Common.{◌∷◌, ◌++◌, [], refl, codes}
use Rattle.std.specs.Fmt.{digits}
use Rattle.journal_core.specs.declared.request.Request.TheVariants as request
use Rattle.journal_core.specs.Examples.{by}
use Rattle.journal_core.specs.Limits.{limit_of}
use Rattle.journal_core.specs.Segments.{newest, find_segment}
use Rattle.journal_core.specs.Effects.{after_effects}
use Rattle.journal_core.specs.Step.{node_step}
use Rattle.base_words.specs.Words.{words_of}
use Rattle.base_words.specs.WordNumbers.{is_number}
use Rattle.journal_text.specs.Reading.{reading_of, word_of, number_in, body_in}
use Rattle.journal_text.specs.Texts.{reply_text, numbers_text}
use Rattle.journal_session.proofs.worked.two_lines_are_answered.Goals as goal

pub returns : goal.returns
unfolding words_of is_number reading_of word_of number_in body_in digits node_step reply_text numbers_text limit_of newest after_effects find_segment
returns c = (request.NewEpoch 1, refl, codes "ok" ++ 10 ∷ [], refl, (request.Start (by 1 1 0) 1, refl, [], refl, (refl, refl)))
