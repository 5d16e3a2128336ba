use Rattle.std.proofs.Common.{refl}
use Rattle.std.specs.Fmt.{digits}
use Rattle.base_words.specs.WordNumbers.{is_number}
use Rattle.journal_text.specs.Texts.{numbers_text}
use Rattle.play_script.specs.Words.{is_name}
use Rattle.play_report.specs.Text.{record_line_text, node_text, nodes_text, actor_text, last_text, ended_text, operator_text, actors_text, text_of}
use Rattle.report_judge.specs.Callers.{caller_from}
use Rattle.report_judge.specs.Cuts.{has_arrow}
use Rattle.report_judge.specs.Pieces.{pieces, line_if, is_next, lines_while}
use Rattle.report_judge.specs.Reading.{record_line_in, nodes_in, last_in, actor_in, actors_in, operator_in, nothing_in, end_in, callers_in, with_name, names_from, first_in, lists_in, lists_of}
use Rattle.report_judge.proofs.worked.lists_are_in_the_bytes.Goals as goal

pub returns-clause-report : goal.returns-clause-report
unfolding digits is_number numbers_text is_name record_line_text node_text nodes_text actor_text last_text ended_text operator_text actors_text text_of
    caller_from has_arrow pieces line_if is_next lines_while record_line_in nodes_in last_in actor_in actors_in operator_in nothing_in end_in callers_in with_name names_from first_in lists_in lists_of
returns-clause-report c = refl

pub returns-clause-other : goal.returns-clause-other
unfolding digits is_number numbers_text is_name record_line_text node_text nodes_text actor_text last_text ended_text operator_text actors_text text_of
    caller_from has_arrow pieces line_if is_next lines_while record_line_in nodes_in last_in actor_in actors_in operator_in nothing_in end_in callers_in with_name names_from first_in lists_in lists_of
returns-clause-other c = refl
