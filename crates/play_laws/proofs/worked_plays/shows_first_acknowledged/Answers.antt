use Rattle.std.proofs.Common.{refl}
use Rattle.std.specs.Fmt.{digits}
use Rattle.journal_core.specs.Segments.{find_segment, put_segment, remove_segment, newest}
use Rattle.journal_core.specs.Limits.{limit_of}
use Rattle.journal_core.specs.Effects.{after_effects}
use Rattle.journal_core.specs.Reads.{serving, last_below, least_served, edits_from, manifest_of}
use Rattle.journal_core.specs.Step.{node_step, effects_of}
use Rattle.writer_core.specs.Best.{best_from, greatest_promise, greatest_newest}
use Rattle.writer_core.specs.Rounds.{judgment, after_fetch}
use Rattle.writer_core.specs.Writer.{log_limit, writer_begun, writer_heard}
use Rattle.journal_core.specs.Cuts.{standing}
use Rattle.journal_history.specs.Cell.{cell_takes, cell_after}
use Rattle.journal_history.specs.Moving.{epoch_of, moves, move_of, entry_of, moving_of}
use Rattle.mesh.specs.Marks.{calls_to}
use Rattle.mesh.specs.Makers.{maker_of, maker_hears}
use Rattle.mesh.specs.Matches.{reaches, reached, lines_of}
use Rattle.mesh.specs.Owners.{wins, owns}
use Rattle.mesh.specs.Order.{placed_from, place_of, key_of, is_below, tags_of, blocks_cut, blocks_from, put_block, sorted, entries_in, epoch_order}
use Rattle.play_model.specs.Lines.{count_actors, names_in, actions_of, operations_in}
use Rattle.journal_text.specs.Texts.{refusal_cause_text, refusal_name}
use Rattle.play_names.specs.Results.{cause_word, cause_words, name_of, for_each, acked_from, acknowledged_results, outcome_results, results_of, inactive_results, too_long_results, late_none}
use Rattle.play_model.specs.Actor.{fresh_actor, call_wanted, copy_first, read_first, say_first, wants, is_wanting, is_broken, task_begun, make_copy}
use Rattle.play_model.specs.Actor.{take_action, settle, hand_action, turn_taken, turn_with, moved_on, heard_by, settle_again, goes_on, actor_after}
use Rattle.play_model.specs.Plays.{play_begins, actor_at, node_asked, note_record, same_kind, is_marked, delivery, told_of, call_made, copy_made}
use Rattle.play_model.specs.Plays.{meet_want, is_done, line_taken, next_line, take_turn, play_step, play_steps, no_lines, has_ended, history_of}
use Rattle.play_model.specs.Plays.{histories_from, mesh_of, ends_of, ends_from}
use Rattle.play_model.specs.Told.{told_in, results_in}
use Rattle.play_laws.specs.PlayExamples.{played, results_at, listed, dropped_call, killed_nodes, competing_takeovers, fenced_writer, fencing_lines}
use Rattle.play_laws.specs.PlayExamples.{before_recovery, recovered_edit, recovering_lines, lost_fetch, second_fetch_lines, late_copies, late_lines}
use Rattle.play_laws.specs.PlayExamples.{rolled_and_purged, purging_lines, stopped_in_prepare, stopping_lines, cut_in_accept, cut_lines}
use Rattle.play_laws.specs.FirstRun.{first_script, first_play, first_history, first_takeover, first_record, first_mesh, first_ends, first_entries}
use Rattle.play_laws.specs.Broken.{lost_line, doubled_line, swapped_lines, made_up, wrong_epoch, undropped, asking_operator}
use Rattle.play_laws.specs.Orders.{losing_proposal, came_about, by_promise}
use Rattle.play_laws.proofs.AckedWorked.{first_acknowledged}
use Rattle.play_laws.proofs.worked_plays.shows_first_acknowledged.Goals as goal

pub returns : goal.returns
unfolding digits find_segment put_segment remove_segment newest limit_of after_effects serving last_below least_served edits_from manifest_of
    node_step effects_of best_from greatest_promise greatest_newest judgment after_fetch log_limit writer_begun writer_heard standing cell_takes
    cell_after epoch_of moves move_of entry_of moving_of calls_to maker_of maker_hears reaches reached lines_of wins owns placed_from place_of key_of
    is_below tags_of blocks_cut blocks_from put_block sorted entries_in epoch_order count_actors names_in actions_of operations_in refusal_cause_text
    refusal_name cause_word cause_words name_of for_each acked_from acknowledged_results outcome_results results_of inactive_results too_long_results
    late_none fresh_actor call_wanted copy_first read_first say_first wants is_wanting is_broken task_begun make_copy take_action settle hand_action
    turn_taken turn_with moved_on heard_by settle_again goes_on actor_after play_begins actor_at node_asked note_record same_kind is_marked delivery
    told_of call_made copy_made meet_want is_done line_taken next_line take_turn play_step play_steps no_lines has_ended history_of histories_from
    mesh_of ends_of ends_from told_in results_in played results_at listed dropped_call killed_nodes competing_takeovers fenced_writer fencing_lines
    before_recovery recovered_edit recovering_lines lost_fetch second_fetch_lines late_copies late_lines rolled_and_purged purging_lines
    stopped_in_prepare stopping_lines cut_in_accept cut_lines first_script first_play first_history first_takeover first_record first_mesh first_ends
    first_entries lost_line doubled_line swapped_lines made_up wrong_epoch undropped asking_operator losing_proposal came_about by_promise
returns c = record { says = refl; acknowledged = first_acknowledged }
