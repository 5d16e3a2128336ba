use Rattle.std.proofs.Common.{refl}
use Rattle.std.specs.Fmt.{digits}
use Rattle.journal_core.specs.Limits.{limit_of}
use Rattle.journal_core.specs.Refusals.{refusal_name}
use Rattle.journal_core.specs.Segments.{find_segment, put_segment, newest}
use Rattle.journal_core.specs.Step.{node_step, effects_of}
use Rattle.journal_core.specs.Effects.{after_effects}
use Rattle.journal_history.specs.Cell.{cell_takes}
use Rattle.journal_history.specs.Moving.{epoch_of, moves, move_of, entry_of}
use Rattle.mesh.specs.Matches.{reaches, reached, lines_of}
use Rattle.mesh.specs.Owners.{wins, owns}
use Rattle.mesh.specs.Order.{placed_from, place_of, key_of, is_below, tags_of, blocks_cut, blocks_from, put_block, sorted, entries_in, epoch_order}
use Rattle.node_states.specs.Lines.{next_reach, reach_of, line_of, lines_from, lines_at, all_lines}
use Rattle.node_states.specs.Order.{still_front, next_lines, fronts, brought, told_then, led}
use Rattle.node_states.specs.Turns.{unreached, first_turns, behind, turns_from}
use Rattle.node_states.specs.Steps.{states_then}
use Rattle.node_states.specs.Fields.{key_text, number_text, first_text, limit_text, flag_text, quoted, word_text, plain, kind_text, closed}
use Rattle.node_states.specs.Asks.{headed, request_text, arming_text, ask_text}
use Rattle.node_states.specs.Answers.{segment_text, told_text, refused_text, reply_text, answer_text}
use Rattle.node_states.specs.States.{state_text, removed_text}
use Rattle.node_states.specs.Texts.{front_text, moved_text, line_end, node_line_text, record_line_text, turn_text, turns_text, head_text, states_text}
use Rattle.node_states.proofs.worked.states_are_as_written.Goals as goal

pub returns : goal.returns
unfolding digits limit_of refusal_name find_segment put_segment newest node_step effects_of after_effects cell_takes epoch_of moves move_of entry_of reaches reached lines_of wins owns
    placed_from place_of key_of is_below tags_of blocks_cut blocks_from put_block sorted entries_in epoch_order
    next_reach reach_of line_of lines_from lines_at all_lines still_front next_lines fronts brought told_then led unreached first_turns behind turns_from states_then
    key_text number_text first_text limit_text flag_text quoted word_text plain kind_text closed headed request_text arming_text ask_text segment_text told_text refused_text reply_text answer_text
    state_text removed_text front_text moved_text line_end node_line_text record_line_text turn_text turns_text head_text states_text
returns c = refl
