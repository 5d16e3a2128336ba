use Rattle.std.proofs.Common.{refl}
use Rattle.std.specs.Fmt.{digits}
use Rattle.base_words.specs.Hex.{hex_text}
use Rattle.journal_text.specs.Texts.{numbers_text, bodies_text, request_text, refusal_name, reply_text}
use Rattle.play_report.specs.Text.{ask_text, answer_text, heard_text, history_line_text, record_line_text, node_text, nodes_text, actor_text}
use Rattle.play_report.specs.Text.{row_line_text, space_text, last_text, ended_text, operator_text, actors_text, text_of}
use Rattle.play_report.proofs.examples.reports_are_as_written.Goals as goal

pub returns-clause-small : goal.returns-clause-small
unfolding digits numbers_text hex_text bodies_text request_text refusal_name reply_text ask_text answer_text heard_text history_line_text
    record_line_text node_text nodes_text actor_text row_line_text space_text last_text ended_text operator_text actors_text text_of
returns-clause-small c = refl

pub returns-clause-still : goal.returns-clause-still
unfolding digits numbers_text nodes_text node_text operator_text actors_text text_of
returns-clause-still c = refl

pub returns-clause-names : goal.returns-clause-names
unfolding digits numbers_text hex_text bodies_text request_text refusal_name reply_text ask_text answer_text heard_text history_line_text
    record_line_text node_text nodes_text actor_text row_line_text space_text last_text ended_text operator_text actors_text text_of
returns-clause-names c = refl
