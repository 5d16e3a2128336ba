use Rattle.std.proofs.Common.{refl}
use Rattle.std.specs.Fmt.{digits}
use Rattle.base_words.specs.Hex.{hex_text}
use Rattle.play_script.specs.Lines.{lines_of, ended, is_line}
use Rattle.base_words.specs.Words.{words_of}
use Rattle.journal_text.specs.Reading.{body_in}
use Rattle.base_words.specs.WordNumbers.{is_number}
use Rattle.play_script.specs.Words.{is_name, actor_of, choice_of, is_body}
use Rattle.play_script.specs.Grammar.{texts_of}
use Rattle.play_script.specs.Rules.{nodes_of, kind_of, rule_in, rule_said, rule_of, said_with_line, first_fault, fault_of}
use Rattle.play_script.proofs.examples.actors_are_told.Goals as goal

pub returns-clause-operator : goal.returns-clause-operator
unfolding lines_of ended is_line words_of is_name actor_of is_number choice_of is_body body_in hex_text texts_of nodes_of kind_of rule_in rule_said rule_of said_with_line first_fault fault_of digits
returns-clause-operator c = refl

pub returns-clause-capital : goal.returns-clause-capital
unfolding lines_of ended is_line words_of is_name actor_of is_number choice_of is_body body_in hex_text texts_of nodes_of kind_of rule_in rule_said rule_of said_with_line first_fault fault_of digits
returns-clause-capital c = refl

pub returns-clause-eight : goal.returns-clause-eight
unfolding lines_of ended is_line words_of is_name actor_of is_number choice_of is_body body_in hex_text texts_of nodes_of kind_of rule_in rule_said rule_of said_with_line first_fault fault_of digits
returns-clause-eight c = refl

pub returns-clause-ninth : goal.returns-clause-ninth
unfolding lines_of ended is_line words_of is_name actor_of is_number choice_of is_body body_in hex_text texts_of nodes_of kind_of rule_in rule_said rule_of said_with_line first_fault fault_of digits
returns-clause-ninth c = refl

pub returns-clause-bad_ninth : goal.returns-clause-bad_ninth
unfolding lines_of ended is_line words_of is_name actor_of is_number choice_of is_body body_in hex_text texts_of nodes_of kind_of rule_in rule_said rule_of said_with_line first_fault fault_of digits
returns-clause-bad_ninth c = refl

pub returns-clause-ninth_again : goal.returns-clause-ninth_again
unfolding lines_of ended is_line words_of is_name actor_of is_number choice_of is_body body_in hex_text texts_of nodes_of kind_of rule_in rule_said rule_of said_with_line first_fault fault_of digits
returns-clause-ninth_again c = refl

pub returns-clause-declared_again : goal.returns-clause-declared_again
unfolding lines_of ended is_line words_of is_name actor_of is_number choice_of is_body body_in hex_text texts_of nodes_of kind_of rule_in rule_said rule_of said_with_line first_fault fault_of digits
returns-clause-declared_again c = refl

pub returns-clause-taken_over : goal.returns-clause-taken_over
unfolding lines_of ended is_line words_of is_name actor_of is_number choice_of is_body body_in hex_text texts_of nodes_of kind_of rule_in rule_said rule_of said_with_line first_fault fault_of digits
returns-clause-taken_over c = refl

pub returns-clause-not_declared : goal.returns-clause-not_declared
unfolding lines_of ended is_line words_of is_name actor_of is_number choice_of is_body body_in hex_text texts_of nodes_of kind_of rule_in rule_said rule_of said_with_line first_fault fault_of digits
returns-clause-not_declared c = refl

pub returns-clause-nobody_purges : goal.returns-clause-nobody_purges
unfolding lines_of ended is_line words_of is_name actor_of is_number choice_of is_body body_in hex_text texts_of nodes_of kind_of rule_in rule_said rule_of said_with_line first_fault fault_of digits
returns-clause-nobody_purges c = refl
