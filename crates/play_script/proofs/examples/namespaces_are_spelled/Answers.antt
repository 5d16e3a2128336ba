use Rattle.std.proofs.Common.{refl}
use Rattle.std.specs.Fmt.{digits}
use Rattle.edit_ops.specs.Words.{verb}
use Rattle.edit_codec.specs.Saying.{word_at, number_said, text_said, client_said, said, field_said, items_said}
use Rattle.edit_codec.specs.SaidTexts.{kind_said, is_line_text, is_edit_text}
use Rattle.play_script.specs.Lines.{lines_of, ended, is_line}
use Rattle.base_words.specs.Words.{words_of}
use Rattle.base_words.specs.Hex.{hex_text}
use Rattle.journal_text.specs.Reading.{body_in}
use Rattle.base_words.specs.WordNumbers.{is_number}
use Rattle.play_script.specs.Words.{is_name, actor_of, choice_of, is_body}
use Rattle.play_script.specs.Edits.{texts_between}
use Rattle.play_script.specs.Grammar.{texts_of}
use Rattle.play_script.specs.Rules.{nodes_of, kind_of, rule_in, rule_said, rule_of, said_with_line, first_fault, fault_of}
use Rattle.play_script.proofs.examples.namespaces_are_spelled.Goals as goal

pub returns-clause-lines : goal.returns-clause-lines
unfolding lines_of ended is_line words_of is_name actor_of is_number choice_of is_body body_in hex_text texts_between texts_of nodes_of kind_of
    rule_in rule_said rule_of said_with_line first_fault fault_of digits verb word_at number_said text_said client_said said field_said items_said
    kind_said is_line_text is_edit_text
returns-clause-lines c = refl

pub returns-clause-fault : goal.returns-clause-fault
unfolding lines_of ended is_line words_of is_name actor_of is_number choice_of is_body body_in hex_text texts_between texts_of nodes_of kind_of
    rule_in rule_said rule_of said_with_line first_fault fault_of digits verb word_at number_said text_said client_said said field_said items_said
    kind_said is_line_text is_edit_text
returns-clause-fault c = refl

pub returns-clause-says : goal.returns-clause-says
unfolding lines_of ended is_line words_of is_name actor_of is_number choice_of is_body body_in hex_text texts_between texts_of nodes_of kind_of
    rule_in rule_said rule_of said_with_line first_fault fault_of digits verb word_at number_said text_said client_said said field_said items_said
    kind_said is_line_text is_edit_text
returns-clause-says c = refl
