use Rattle.std.proofs.Common.{refl}
use Rattle.std.specs.Fmt.{digits}
use Rattle.edit_ops.specs.Reading.{field_at}
use Rattle.journal_core.specs.Segments.{find_segment, put_segment, remove_segment, newest}
use Rattle.journal_core.specs.Limits.{limit_of}
use Rattle.journal_core.specs.Effects.{after_effects}
use Rattle.journal_core.specs.Reads.{serving, last_below, least_served, edits_from, manifest_of}
use Rattle.journal_core.specs.Step.{node_step, effects_of}
use Rattle.journal_core.specs.Cuts.{standing}
use Rattle.writer_core.specs.Best.{best_from, greatest_promise, greatest_newest}
use Rattle.writer_core.specs.Rounds.{judgment, after_fetch}
use Rattle.writer_core.specs.Writer.{log_limit, writer_begun, writer_heard}
use Rattle.ns_edits.specs.Decoded.{op_from, edit_from, opcode_of, decoded}
use Rattle.ns_edits.specs.Admit.{admit_op, admit_of}
use Rattle.ns_edits.specs.Apply.{apply_op, apply_of}
use Rattle.ns_edits.specs.Replay.{entered, applied}
use Rattle.journal_history.specs.Cell.{cell_takes}
use Rattle.mesh.specs.Marks.{calls_to}
use Rattle.journal_text.specs.Texts.{refusal_cause_text, refusal_name}
use Rattle.play_names.specs.Submissions.{submit_edits}
use Rattle.play_names.specs.Holding.{image_put, save_image, reload_image, min_to_keep}
use Rattle.play_names.specs.Tails.{pass_begun, least_purged, pass_end, tail_hears}
use Rattle.play_model.specs.Lines.{count_actors}
use Rattle.play_names.specs.Results.{cause_word, cause_words, name_of, for_each, acked_from, acknowledged_results, outcome_results, results_of}
use Rattle.play_names.specs.Results.{inactive_results, too_long_results, late_none, refusal_text, dues_logged, dues_aborted, abort_text}
use Rattle.play_model.specs.Actor.{fresh_actor, call_wanted, read_first, copy_first, say_first, wants, is_wanting, is_broken, tail_text, entry_text}
use Rattle.play_model.specs.Actor.{tail_ended, tail_stepped, task_begun, make_copy, logged_when, trim_at, take_named_action, take_action, settle}
use Rattle.play_model.specs.Actor.{hand_action, logs_done, task_done, held_turn, turn_with, turn_taken, heard_by, moved_on, settle_again, goes_on}
use Rattle.play_model.specs.Plays.{play_begins, actor_at, node_asked, note_record, same_kind, is_marked, delivery, told_of, call_made, copy_made}
use Rattle.play_model.specs.Plays.{meet_want, is_done, line_taken, next_line, take_turn, play_step, play_steps, no_lines, has_ended}
use Rattle.play_model.specs.Told.{results_in}
use Rattle.play_laws.specs.PlayExamples.{results_at}
use Rattle.play_laws.specs.NamesExamples.{played_named, last_at, standby_lines, standby_rows, unsaved_lines, refused_lines, trimmed_lines, repeated_lines, survived_lines, late_lines}
use Rattle.play_laws.proofs.named_examples.shows_standby_without_image.Goals as goal

pub returns : goal.returns
unfolding digits field_at find_segment put_segment remove_segment newest limit_of after_effects serving last_below least_served edits_from manifest_of
    node_step effects_of standing best_from greatest_promise greatest_newest judgment after_fetch log_limit writer_begun writer_heard op_from
    edit_from opcode_of decoded admit_op admit_of apply_op apply_of entered applied cell_takes calls_to refusal_cause_text refusal_name submit_edits
    image_put save_image reload_image min_to_keep pass_begun least_purged pass_end tail_hears count_actors cause_word cause_words name_of for_each
    acked_from acknowledged_results outcome_results results_of inactive_results too_long_results late_none refusal_text dues_logged dues_aborted
    abort_text fresh_actor call_wanted read_first copy_first say_first wants is_wanting is_broken tail_text entry_text tail_ended tail_stepped
    task_begun make_copy logged_when trim_at take_named_action take_action settle hand_action logs_done task_done held_turn turn_with turn_taken
    heard_by moved_on settle_again goes_on play_begins actor_at node_asked note_record same_kind is_marked delivery told_of call_made copy_made
    meet_want is_done line_taken next_line take_turn play_step play_steps no_lines has_ended results_in results_at played_named last_at standby_lines
    standby_rows unsaved_lines refused_lines trimmed_lines repeated_lines survived_lines late_lines
returns c = record { ends = refl; standby = refl; standby_end = refl }
