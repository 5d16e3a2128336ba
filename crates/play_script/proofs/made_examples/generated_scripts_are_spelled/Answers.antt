use Rattle.std.proofs.Common.{refl}
use Rattle.std.specs.Fmt.{digits}
use Rattle.edit_ops.specs.Words.{verb}
use Rattle.base_words.specs.Words.{words_of}
use Rattle.play_script.specs.Grammar.{texts_of}
use Rattle.play_script.specs.Generated.{lines_before, edit_lines}
use Rattle.play_script.proofs.made_examples.generated_scripts_are_spelled.Goals as goal

pub returns-clause-one_edit : goal.returns-clause-one_edit
unfolding digits verb words_of texts_of lines_before edit_lines
returns-clause-one_edit c = refl

pub returns-clause-each_chance : goal.returns-clause-each_chance
unfolding digits verb words_of texts_of lines_before edit_lines
returns-clause-each_chance c = refl
