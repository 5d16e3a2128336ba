use Rattle.std.proofs.Common.{refl}
use Rattle.std.specs.Fmt.{digits}
use Rattle.base_words.specs.Hex.{hex_text}
use Rattle.play_script.specs.Lines.{lines_of, ended, is_line}
use Rattle.base_words.specs.Words.{words_of}
use Rattle.journal_text.specs.Reading.{body_in}
use Rattle.base_words.specs.WordNumbers.{is_number}
use Rattle.play_script.specs.Words.{is_name, actor_of, choice_of, is_body}
use Rattle.play_script.specs.Grammar.{texts_of}
use Rattle.play_script.specs.Rules.{nodes_of, kind_of, rule_in, rule_said, rule_of, said_with_line, first_fault, fault_of}
use Rattle.play_script.proofs.examples.words_are_told.Goals as goal

pub returns-clause-unknown_word : goal.returns-clause-unknown_word
unfolding lines_of ended is_line words_of is_name actor_of is_number choice_of is_body body_in hex_text texts_of nodes_of kind_of rule_in rule_said rule_of said_with_line first_fault fault_of digits
returns-clause-unknown_word c = refl

pub returns-clause-raw_again : goal.returns-clause-raw_again
unfolding lines_of ended is_line words_of is_name actor_of is_number choice_of is_body body_in hex_text texts_of nodes_of kind_of rule_in rule_said rule_of said_with_line first_fault fault_of digits
returns-clause-raw_again c = refl

pub returns-clause-names_again : goal.returns-clause-names_again
unfolding lines_of ended is_line words_of is_name actor_of is_number choice_of is_body body_in hex_text texts_of nodes_of kind_of rule_in rule_said rule_of said_with_line first_fault fault_of digits
returns-clause-names_again c = refl

pub returns-clause-no_choice : goal.returns-clause-no_choice
unfolding lines_of ended is_line words_of is_name actor_of is_number choice_of is_body body_in hex_text texts_of nodes_of kind_of rule_in rule_said rule_of said_with_line first_fault fault_of digits
returns-clause-no_choice c = refl

pub returns-clause-spaces_alone : goal.returns-clause-spaces_alone
unfolding lines_of ended is_line words_of is_name actor_of is_number choice_of is_body body_in hex_text texts_of nodes_of kind_of rule_in rule_said rule_of said_with_line first_fault fault_of digits
returns-clause-spaces_alone c = refl

pub returns-clause-leading_space : goal.returns-clause-leading_space
unfolding lines_of ended is_line words_of is_name actor_of is_number choice_of is_body body_in hex_text texts_of nodes_of kind_of rule_in rule_said rule_of said_with_line first_fault fault_of digits
returns-clause-leading_space c = refl

pub returns-clause-double_space : goal.returns-clause-double_space
unfolding lines_of ended is_line words_of is_name actor_of is_number choice_of is_body body_in hex_text texts_of nodes_of kind_of rule_in rule_said rule_of said_with_line first_fault fault_of digits
returns-clause-double_space c = refl

pub returns-clause-trailing_space : goal.returns-clause-trailing_space
unfolding lines_of ended is_line words_of is_name actor_of is_number choice_of is_body body_in hex_text texts_of nodes_of kind_of rule_in rule_said rule_of said_with_line first_fault fault_of digits
returns-clause-trailing_space c = refl

pub returns-clause-no_body : goal.returns-clause-no_body
unfolding lines_of ended is_line words_of is_name actor_of is_number choice_of is_body body_in hex_text texts_of nodes_of kind_of rule_in rule_said rule_of said_with_line first_fault fault_of digits
returns-clause-no_body c = refl

pub returns-clause-no_effects : goal.returns-clause-no_effects
unfolding lines_of ended is_line words_of is_name actor_of is_number choice_of is_body body_in hex_text texts_of nodes_of kind_of rule_in rule_said rule_of said_with_line first_fault fault_of digits
returns-clause-no_effects c = refl

pub returns-clause-count_first : goal.returns-clause-count_first
unfolding lines_of ended is_line words_of is_name actor_of is_number choice_of is_body body_in hex_text texts_of nodes_of kind_of rule_in rule_said rule_of said_with_line first_fault fault_of digits
returns-clause-count_first c = refl
