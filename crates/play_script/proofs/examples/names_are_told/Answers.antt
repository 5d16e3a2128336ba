use Rattle.std.proofs.Common.{refl}
use Rattle.std.specs.Fmt.{digits}
use Rattle.edit_ops.specs.Words.{verb}
use Rattle.edit_codec.specs.Saying.{word_at, number_said, text_said, client_said, said, field_said, items_said}
use Rattle.edit_codec.specs.SaidTexts.{kind_said, is_line_text, is_edit_text}
use Rattle.play_script.specs.Lines.{lines_of, ended, is_line}
use Rattle.base_words.specs.Words.{words_of}
use Rattle.journal_text.specs.Reading.{body_in}
use Rattle.base_words.specs.WordNumbers.{is_number}
use Rattle.play_script.specs.Words.{is_name, actor_of, choice_of, is_body}
use Rattle.play_script.specs.Edits.{texts_between}
use Rattle.play_script.specs.Grammar.{texts_of}
use Rattle.play_script.specs.Rules.{nodes_of, kind_of, rule_in, rule_said, rule_of, said_with_line, first_fault, fault_of}
use Rattle.play_script.proofs.examples.names_are_told.Goals as goal

pub returns-clause-writer : goal.returns-clause-writer
unfolding lines_of ended is_line words_of is_name actor_of is_number choice_of is_body body_in texts_between texts_of nodes_of kind_of rule_in
    rule_said rule_of said_with_line first_fault fault_of digits verb word_at number_said text_said client_said said field_said items_said kind_said
    is_line_text is_edit_text
returns-clause-writer c = refl

pub returns-clause-name : goal.returns-clause-name
unfolding lines_of ended is_line words_of is_name actor_of is_number choice_of is_body body_in texts_between texts_of nodes_of kind_of rule_in
    rule_said rule_of said_with_line first_fault fault_of digits verb word_at number_said text_said client_said said field_said items_said kind_said
    is_line_text is_edit_text
returns-clause-name c = refl

pub returns-clause-purge : goal.returns-clause-purge
unfolding lines_of ended is_line words_of is_name actor_of is_number choice_of is_body body_in texts_between texts_of nodes_of kind_of rule_in
    rule_said rule_of said_with_line first_fault fault_of digits verb word_at number_said text_said client_said said field_said items_said kind_said
    is_line_text is_edit_text
returns-clause-purge c = refl

pub returns-clause-trim : goal.returns-clause-trim
unfolding lines_of ended is_line words_of is_name actor_of is_number choice_of is_body body_in texts_between texts_of nodes_of kind_of rule_in
    rule_said rule_of said_with_line first_fault fault_of digits verb word_at number_said text_said client_said said field_said items_said kind_said
    is_line_text is_edit_text
returns-clause-trim c = refl

pub returns-clause-tail : goal.returns-clause-tail
unfolding lines_of ended is_line words_of is_name actor_of is_number choice_of is_body body_in texts_between texts_of nodes_of kind_of rule_in
    rule_said rule_of said_with_line first_fault fault_of digits verb word_at number_said text_said client_said said field_said items_said kind_said
    is_line_text is_edit_text
returns-clause-tail c = refl

pub returns-clause-checkpoint : goal.returns-clause-checkpoint
unfolding lines_of ended is_line words_of is_name actor_of is_number choice_of is_body body_in texts_between texts_of nodes_of kind_of rule_in
    rule_said rule_of said_with_line first_fault fault_of digits verb word_at number_said text_said client_said said field_said items_said kind_said
    is_line_text is_edit_text
returns-clause-checkpoint c = refl

pub returns-clause-reload : goal.returns-clause-reload
unfolding lines_of ended is_line words_of is_name actor_of is_number choice_of is_body body_in texts_between texts_of nodes_of kind_of rule_in
    rule_said rule_of said_with_line first_fault fault_of digits verb word_at number_said text_said client_said said field_said items_said kind_said
    is_line_text is_edit_text
returns-clause-reload c = refl

pub returns-clause-both : goal.returns-clause-both
unfolding lines_of ended is_line words_of is_name actor_of is_number choice_of is_body body_in texts_between texts_of nodes_of kind_of rule_in
    rule_said rule_of said_with_line first_fault fault_of digits verb word_at number_said text_said client_said said field_said items_said kind_said
    is_line_text is_edit_text
returns-clause-both c = refl

pub returns-clause-no_edit : goal.returns-clause-no_edit
unfolding lines_of ended is_line words_of is_name actor_of is_number choice_of is_body body_in texts_between texts_of nodes_of kind_of rule_in
    rule_said rule_of said_with_line first_fault fault_of digits verb word_at number_said text_said client_said said field_said items_said kind_said
    is_line_text is_edit_text
returns-clause-no_edit c = refl

pub returns-clause-nobody_tails : goal.returns-clause-nobody_tails
unfolding lines_of ended is_line words_of is_name actor_of is_number choice_of is_body body_in texts_between texts_of nodes_of kind_of rule_in
    rule_said rule_of said_with_line first_fault fault_of digits verb word_at number_said text_said client_said said field_said items_said kind_said
    is_line_text is_edit_text
returns-clause-nobody_tails c = refl

pub returns-clause-nobody_submits : goal.returns-clause-nobody_submits
unfolding lines_of ended is_line words_of is_name actor_of is_number choice_of is_body body_in texts_between texts_of nodes_of kind_of rule_in
    rule_said rule_of said_with_line first_fault fault_of digits verb word_at number_said text_said client_said said field_said items_said kind_said
    is_line_text is_edit_text
returns-clause-nobody_submits c = refl

pub returns-clause-no_number : goal.returns-clause-no_number
unfolding lines_of ended is_line words_of is_name actor_of is_number choice_of is_body body_in texts_between texts_of nodes_of kind_of rule_in
    rule_said rule_of said_with_line first_fault fault_of digits verb word_at number_said text_said client_said said field_said items_said kind_said
    is_line_text is_edit_text
returns-clause-no_number c = refl

pub returns-clause-separator_alone : goal.returns-clause-separator_alone
unfolding lines_of ended is_line words_of is_name actor_of is_number choice_of is_body body_in texts_between texts_of nodes_of kind_of rule_in
    rule_said rule_of said_with_line first_fault fault_of digits verb word_at number_said text_said client_said said field_said items_said kind_said
    is_line_text is_edit_text
returns-clause-separator_alone c = refl

pub returns-clause-separator_last : goal.returns-clause-separator_last
unfolding lines_of ended is_line words_of is_name actor_of is_number choice_of is_body body_in texts_between texts_of nodes_of kind_of rule_in
    rule_said rule_of said_with_line first_fault fault_of digits verb word_at number_said text_said client_said said field_said items_said kind_said
    is_line_text is_edit_text
returns-clause-separator_last c = refl

pub returns-clause-separator_inside : goal.returns-clause-separator_inside
unfolding lines_of ended is_line words_of is_name actor_of is_number choice_of is_body body_in texts_between texts_of nodes_of kind_of rule_in
    rule_said rule_of said_with_line first_fault fault_of digits verb word_at number_said text_said client_said said field_said items_said kind_said
    is_line_text is_edit_text
returns-clause-separator_inside c = refl

pub returns-clause-two_edits : goal.returns-clause-two_edits
unfolding lines_of ended is_line words_of is_name actor_of is_number choice_of is_body body_in texts_between texts_of nodes_of kind_of rule_in
    rule_said rule_of said_with_line first_fault fault_of digits verb word_at number_said text_said client_said said field_said items_said kind_said
    is_line_text is_edit_text
returns-clause-two_edits c = refl

pub returns-clause-no_verb : goal.returns-clause-no_verb
unfolding lines_of ended is_line words_of is_name actor_of is_number choice_of is_body body_in texts_between texts_of nodes_of kind_of rule_in
    rule_said rule_of said_with_line first_fault fault_of digits verb word_at number_said text_said client_said said field_said items_said kind_said
    is_line_text is_edit_text
returns-clause-no_verb c = refl

pub returns-clause-word_missing : goal.returns-clause-word_missing
unfolding lines_of ended is_line words_of is_name actor_of is_number choice_of is_body body_in texts_between texts_of nodes_of kind_of rule_in
    rule_said rule_of said_with_line first_fault fault_of digits verb word_at number_said text_said client_said said field_said items_said kind_said
    is_line_text is_edit_text
returns-clause-word_missing c = refl

pub returns-clause-word_more : goal.returns-clause-word_more
unfolding lines_of ended is_line words_of is_name actor_of is_number choice_of is_body body_in texts_between texts_of nodes_of kind_of rule_in
    rule_said rule_of said_with_line first_fault fault_of digits verb word_at number_said text_said client_said said field_said items_said kind_said
    is_line_text is_edit_text
returns-clause-word_more c = refl

pub returns-clause-no_lengths : goal.returns-clause-no_lengths
unfolding lines_of ended is_line words_of is_name actor_of is_number choice_of is_body body_in texts_between texts_of nodes_of kind_of rule_in
    rule_said rule_of said_with_line first_fault fault_of digits verb word_at number_said text_said client_said said field_said items_said kind_said
    is_line_text is_edit_text
returns-clause-no_lengths c = refl

pub returns-clause-octal : goal.returns-clause-octal
unfolding lines_of ended is_line words_of is_name actor_of is_number choice_of is_body body_in texts_between texts_of nodes_of kind_of rule_in
    rule_said rule_of said_with_line first_fault fault_of digits verb word_at number_said text_said client_said said field_said items_said kind_said
    is_line_text is_edit_text
returns-clause-octal c = refl

pub returns-clause-five_octal : goal.returns-clause-five_octal
unfolding lines_of ended is_line words_of is_name actor_of is_number choice_of is_body body_in texts_between texts_of nodes_of kind_of rule_in
    rule_said rule_of said_with_line first_fault fault_of digits verb word_at number_said text_said client_said said field_said items_said kind_said
    is_line_text is_edit_text
returns-clause-five_octal c = refl

pub returns-clause-called_twice : goal.returns-clause-called_twice
unfolding lines_of ended is_line words_of is_name actor_of is_number choice_of is_body body_in texts_between texts_of nodes_of kind_of rule_in
    rule_said rule_of said_with_line first_fault fault_of digits verb word_at number_said text_said client_said said field_said items_said kind_said
    is_line_text is_edit_text
returns-clause-called_twice c = refl

pub returns-clause-short_client : goal.returns-clause-short_client
unfolding lines_of ended is_line words_of is_name actor_of is_number choice_of is_body body_in texts_between texts_of nodes_of kind_of rule_in
    rule_said rule_of said_with_line first_fault fault_of digits verb word_at number_said text_said client_said said field_said items_said kind_said
    is_line_text is_edit_text
returns-clause-short_client c = refl
