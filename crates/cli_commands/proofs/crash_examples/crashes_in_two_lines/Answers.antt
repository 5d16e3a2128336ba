use Rattle.std.proofs.Common.{◌∷◌, [], refl, codes}
use Rattle.std.specs.Fmt.{digits}
use Rattle.journal_core.specs.declared.request.Request.TheVariants as request
use Rattle.journal_core.specs.Examples.{by}
use Rattle.journal_core.specs.Limits.{limit_of}
use Rattle.journal_core.specs.Segments.{newest, find_segment}
use Rattle.journal_core.specs.Effects.{after_effects}
use Rattle.journal_core.specs.Step.{node_step, fresh_state}
use Rattle.base_words.specs.Words.{words_of}
use Rattle.base_words.specs.WordNumbers.{is_number}
use Rattle.journal_text.specs.Reading.{reading_of, word_of, number_in, body_in}
use Rattle.cli_commands.proofs.CrashLaws.{now_in, in_rest}
use Rattle.cli_commands.proofs.crash_examples.crashes_in_two_lines.Goals as goal

pub returns-clause-none : goal.returns-clause-none
unfolding words_of is_number reading_of word_of number_in body_in digits
returns-clause-none c = λ files stands. now_in fresh_state (codes "new 1") (codes "start 1 1 0 1" ∷ []) (request.NewEpoch 1) files refl stands

pub returns-clause-first : goal.returns-clause-first
unfolding words_of is_number reading_of word_of number_in body_in digits node_step limit_of newest after_effects find_segment
returns-clause-first c = λ files stands.
    in_rest fresh_state (codes "new 1") (codes "start 1 1 0 1" ∷ []) (request.NewEpoch 1) 0 files refl
    (now_in (node_step fresh_state (request.NewEpoch 1)).state (codes "start 1 1 0 1") [] (request.Start (by 1 1 0) 1) files refl stands)
