use Rattle.std.proofs.Common.{refl}
use Rattle.std.specs.Fmt.{digits}
use Rattle.base_words.specs.Hex.{hex_text}
use Rattle.play_script.specs.Lines.{lines_of, ended, is_line}
use Rattle.base_words.specs.Words.{words_of}
use Rattle.journal_text.specs.Reading.{body_in}
use Rattle.base_words.specs.WordNumbers.{is_number}
use Rattle.play_script.specs.Words.{is_name, actor_of, choice_of, is_body}
use Rattle.play_script.specs.Grammar.{texts_of}
use Rattle.play_script.specs.Rules.{nodes_of, kind_of, rule_in, rule_said, rule_of, said_with_line, first_fault, fault_of}
use Rattle.play_script.proofs.examples.first_lines_are_told.Goals as goal

pub returns-clause-empty : goal.returns-clause-empty
unfolding lines_of ended is_line words_of is_name actor_of is_number choice_of is_body body_in hex_text texts_of nodes_of kind_of rule_in rule_said rule_of said_with_line first_fault fault_of digits
returns-clause-empty c = refl

pub returns-clause-silent : goal.returns-clause-silent
unfolding lines_of ended is_line words_of is_name actor_of is_number choice_of is_body body_in hex_text texts_of nodes_of kind_of rule_in rule_said rule_of said_with_line first_fault fault_of digits
returns-clause-silent c = refl

pub returns-clause-none_declared : goal.returns-clause-none_declared
unfolding lines_of ended is_line words_of is_name actor_of is_number choice_of is_body body_in hex_text texts_of nodes_of kind_of rule_in rule_said rule_of said_with_line first_fault fault_of digits
returns-clause-none_declared c = refl

pub returns-clause-most_nodes : goal.returns-clause-most_nodes
unfolding lines_of ended is_line words_of is_name actor_of is_number choice_of is_body body_in hex_text texts_of nodes_of kind_of rule_in rule_said rule_of said_with_line first_fault fault_of digits
returns-clause-most_nodes c = refl

pub returns-clause-too_many_nodes : goal.returns-clause-too_many_nodes
unfolding lines_of ended is_line words_of is_name actor_of is_number choice_of is_body body_in hex_text texts_of nodes_of kind_of rule_in rule_said rule_of said_with_line first_fault fault_of digits
returns-clause-too_many_nodes c = refl

pub returns-clause-leading_zero : goal.returns-clause-leading_zero
unfolding lines_of ended is_line words_of is_name actor_of is_number choice_of is_body body_in hex_text texts_of nodes_of kind_of rule_in rule_said rule_of said_with_line first_fault fault_of digits
returns-clause-leading_zero c = refl

pub returns-clause-names_script : goal.returns-clause-names_script
unfolding lines_of ended is_line words_of is_name actor_of is_number choice_of is_body body_in hex_text texts_of nodes_of kind_of rule_in rule_said rule_of said_with_line first_fault fault_of digits
returns-clause-names_script c = refl

pub returns-clause-after_comments : goal.returns-clause-after_comments
unfolding lines_of ended is_line words_of is_name actor_of is_number choice_of is_body body_in hex_text texts_of nodes_of kind_of rule_in rule_said rule_of said_with_line first_fault fault_of digits
returns-clause-after_comments c = refl

pub returns-clause-not_ended : goal.returns-clause-not_ended
unfolding lines_of ended is_line words_of is_name actor_of is_number choice_of is_body body_in hex_text texts_of nodes_of kind_of rule_in rule_said rule_of said_with_line first_fault fault_of digits
returns-clause-not_ended c = refl

pub returns-clause-tabulator : goal.returns-clause-tabulator
unfolding lines_of ended is_line words_of is_name actor_of is_number choice_of is_body body_in hex_text texts_of nodes_of kind_of rule_in rule_said rule_of said_with_line first_fault fault_of digits
returns-clause-tabulator c = refl

pub returns-clause-most_names_nodes : goal.returns-clause-most_names_nodes
unfolding lines_of ended is_line words_of is_name actor_of is_number choice_of is_body body_in hex_text texts_of nodes_of kind_of rule_in rule_said rule_of said_with_line first_fault fault_of digits
returns-clause-most_names_nodes c = refl

pub returns-clause-too_many_names_nodes : goal.returns-clause-too_many_names_nodes
unfolding lines_of ended is_line words_of is_name actor_of is_number choice_of is_body body_in hex_text texts_of nodes_of kind_of rule_in rule_said rule_of said_with_line first_fault fault_of digits
returns-clause-too_many_names_nodes c = refl

pub returns-clause-one_name : goal.returns-clause-one_name
unfolding lines_of ended is_line words_of is_name actor_of is_number choice_of is_body body_in hex_text texts_of nodes_of kind_of rule_in rule_said rule_of said_with_line first_fault fault_of digits
returns-clause-one_name c = refl
