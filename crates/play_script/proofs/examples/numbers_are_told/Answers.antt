use Rattle.std.proofs.Common.{refl}
use Rattle.std.specs.Fmt.{digits}
use Rattle.base_words.specs.Hex.{hex_text}
use Rattle.play_script.specs.Lines.{lines_of, ended, is_line}
use Rattle.base_words.specs.Words.{words_of}
use Rattle.journal_text.specs.Reading.{body_in}
use Rattle.base_words.specs.WordNumbers.{is_number}
use Rattle.play_script.specs.Words.{is_name, actor_of, choice_of, is_body}
use Rattle.play_script.specs.Grammar.{texts_of}
use Rattle.play_script.specs.Rules.{nodes_of, kind_of, rule_in, rule_said, rule_of, said_with_line, first_fault, fault_of}
use Rattle.play_script.proofs.examples.numbers_are_told.Goals as goal

pub returns-clause-no_node : goal.returns-clause-no_node
unfolding lines_of ended is_line words_of is_name actor_of is_number choice_of is_body body_in hex_text texts_of nodes_of kind_of rule_in rule_said rule_of said_with_line first_fault fault_of digits
returns-clause-no_node c = refl

pub returns-clause-last_node : goal.returns-clause-last_node
unfolding lines_of ended is_line words_of is_name actor_of is_number choice_of is_body body_in hex_text texts_of nodes_of kind_of rule_in rule_said rule_of said_with_line first_fault fault_of digits
returns-clause-last_node c = refl

pub returns-clause-no_call : goal.returns-clause-no_call
unfolding lines_of ended is_line words_of is_name actor_of is_number choice_of is_body body_in hex_text texts_of nodes_of kind_of rule_in rule_said rule_of said_with_line first_fault fault_of digits
returns-clause-no_call c = refl

pub returns-clause-node_zero : goal.returns-clause-node_zero
unfolding lines_of ended is_line words_of is_name actor_of is_number choice_of is_body body_in hex_text texts_of nodes_of kind_of rule_in rule_said rule_of said_with_line first_fault fault_of digits
returns-clause-node_zero c = refl

pub returns-clause-purge_of_none : goal.returns-clause-purge_of_none
unfolding lines_of ended is_line words_of is_name actor_of is_number choice_of is_body body_in hex_text texts_of nodes_of kind_of rule_in rule_said rule_of said_with_line first_fault fault_of digits
returns-clause-purge_of_none c = refl

pub returns-clause-greatest : goal.returns-clause-greatest
unfolding lines_of ended is_line words_of is_name actor_of is_number choice_of is_body body_in hex_text texts_of nodes_of kind_of rule_in rule_said rule_of said_with_line first_fault fault_of digits
returns-clause-greatest c = refl

pub returns-clause-too_great : goal.returns-clause-too_great
unfolding lines_of ended is_line words_of is_name actor_of is_number choice_of is_body body_in hex_text texts_of nodes_of kind_of rule_in rule_said rule_of said_with_line first_fault fault_of digits
returns-clause-too_great c = refl

pub returns-clause-leading_zero : goal.returns-clause-leading_zero
unfolding lines_of ended is_line words_of is_name actor_of is_number choice_of is_body body_in hex_text texts_of nodes_of kind_of rule_in rule_said rule_of said_with_line first_fault fault_of digits
returns-clause-leading_zero c = refl

pub returns-clause-no_digit : goal.returns-clause-no_digit
unfolding lines_of ended is_line words_of is_name actor_of is_number choice_of is_body body_in hex_text texts_of nodes_of kind_of rule_in rule_said rule_of said_with_line first_fault fault_of digits
returns-clause-no_digit c = refl

pub returns-clause-up_again : goal.returns-clause-up_again
unfolding lines_of ended is_line words_of is_name actor_of is_number choice_of is_body body_in hex_text texts_of nodes_of kind_of rule_in rule_said rule_of said_with_line first_fault fault_of digits
returns-clause-up_again c = refl

pub returns-clause-no_effect : goal.returns-clause-no_effect
unfolding lines_of ended is_line words_of is_name actor_of is_number choice_of is_body body_in hex_text texts_of nodes_of kind_of rule_in rule_said rule_of said_with_line first_fault fault_of digits
returns-clause-no_effect c = refl

pub returns-clause-stop_at_none : goal.returns-clause-stop_at_none
unfolding lines_of ended is_line words_of is_name actor_of is_number choice_of is_body body_in hex_text texts_of nodes_of kind_of rule_in rule_said rule_of said_with_line first_fault fault_of digits
returns-clause-stop_at_none c = refl

pub returns-clause-cut_at_once : goal.returns-clause-cut_at_once
unfolding lines_of ended is_line words_of is_name actor_of is_number choice_of is_body body_in hex_text texts_of nodes_of kind_of rule_in rule_said rule_of said_with_line first_fault fault_of digits
returns-clause-cut_at_once c = refl

pub returns-clause-cut_at_none : goal.returns-clause-cut_at_none
unfolding lines_of ended is_line words_of is_name actor_of is_number choice_of is_body body_in hex_text texts_of nodes_of kind_of rule_in rule_said rule_of said_with_line first_fault fault_of digits
returns-clause-cut_at_none c = refl

pub returns-clause-bad_choice : goal.returns-clause-bad_choice
unfolding lines_of ended is_line words_of is_name actor_of is_number choice_of is_body body_in hex_text texts_of nodes_of kind_of rule_in rule_said rule_of said_with_line first_fault fault_of digits
returns-clause-bad_choice c = refl

pub returns-clause-odd_digits : goal.returns-clause-odd_digits
unfolding lines_of ended is_line words_of is_name actor_of is_number choice_of is_body body_in hex_text texts_of nodes_of kind_of rule_in rule_said rule_of said_with_line first_fault fault_of digits
returns-clause-odd_digits c = refl

pub returns-clause-capital_digits : goal.returns-clause-capital_digits
unfolding lines_of ended is_line words_of is_name actor_of is_number choice_of is_body body_in hex_text texts_of nodes_of kind_of rule_in rule_said rule_of said_with_line first_fault fault_of digits
returns-clause-capital_digits c = refl

pub returns-clause-nobody_logs : goal.returns-clause-nobody_logs
unfolding lines_of ended is_line words_of is_name actor_of is_number choice_of is_body body_in hex_text texts_of nodes_of kind_of rule_in rule_said rule_of said_with_line first_fault fault_of digits
returns-clause-nobody_logs c = refl
