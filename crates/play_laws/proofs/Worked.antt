-- A worked play with names: it is the script's, so it is safe and keeps what is claimed of names.
use Rattle.std.proofs.Common.{◌≡◌, [], ◌∷◌, true, refl, arith}
use Rattle.std.specs.Fmt.{digits}
use Rattle.edit_ops.specs.Reading.{field_at}
use Rattle.journal_core.specs.Segments.{find_segment, put_segment, remove_segment, newest}
use Rattle.journal_core.specs.Limits.{limit_of}
use Rattle.journal_core.specs.Effects.{after_effects}
use Rattle.journal_core.specs.Reads.{serving, last_below, least_served, edits_from, manifest_of}
use Rattle.journal_core.specs.Step.{node_step, effects_of}
use Rattle.journal_core.specs.Cuts.{standing}
use Rattle.writer_core.specs.Best.{best_from, greatest_promise, greatest_newest}
use Rattle.writer_core.specs.Rounds.{judgment, after_fetch}
use Rattle.writer_core.specs.Writer.{log_limit, writer_begun, writer_heard}
use Rattle.ns_edits.specs.Decoded.{op_from, edit_from, opcode_of, decoded}
use Rattle.ns_edits.specs.Admit.{admit_op, admit_of}
use Rattle.ns_edits.specs.Apply.{apply_op, apply_of}
use Rattle.ns_edits.specs.Replay.{entered, applied}
use Rattle.journal_history.specs.Cell.{cell_takes}
use Rattle.mesh.specs.Marks.{calls_to}
use Rattle.journal_text.specs.Texts.{refusal_cause_text, refusal_name}
use Rattle.play_names.specs.Submissions.{submit_edits}
use Rattle.play_names.specs.Holding.{image_put, save_image, reload_image, min_to_keep}
use Rattle.play_names.specs.Tails.{pass_begun, least_purged, pass_end, tail_hears}
use Rattle.play_model.specs.Lines.{count_actors, ArePlayable}
use Rattle.play_names.specs.Results.{cause_word, cause_words, name_of, for_each, acked_from, acknowledged_results, outcome_results, results_of}
use Rattle.play_names.specs.Results.{inactive_results, too_long_results, late_none, refusal_text, dues_logged, dues_aborted, abort_text}
use Rattle.play_model.specs.Actor.{fresh_actor, call_wanted, read_first, copy_first, say_first, wants, is_wanting, is_broken, tail_text, entry_text}
use Rattle.play_model.specs.Actor.{tail_ended, tail_stepped, task_begun, make_copy, logged_when, trim_at, take_named_action, take_action, settle}
use Rattle.play_model.specs.Actor.{hand_action, logs_done, task_done, held_turn, turn_with, turn_taken, heard_by, moved_on, settle_again, goes_on}
use Rattle.play_model.specs.Plays.{play_begins, actor_at, node_asked, note_record, same_kind, is_marked, delivery, told_of, call_made, copy_made}
use Rattle.play_model.specs.Plays.{meet_want, is_done, line_taken, next_line, take_turn, play_step, play_steps, no_lines, has_ended, IsPlay, mesh_of, ends_of}
use Rattle.play_model.specs.Told.{results_in}
use Rattle.play_laws.specs.PlayExamples.{results_at}
use Rattle.play_laws.specs.NamesExamples.{played_named, last_at, left}
use Rattle.std.specs.Prelude.{codes}
use Rattle.edit_ops.specs.declared.op.Op.TheVariants.{Mkdir}
use Rattle.edit_ops.specs.Grammar.{IsEdit}
use Rattle.ns_tree.specs.Space.{root_pair}
use Rattle.ns_edits.specs.Examples.{plain}
use Rattle.journal_history.specs.Moving.{moving_of}
use Rattle.play_model.specs.Safe.{IsSafeWithEnds}
use Rattle.play_laws.specs.Examples.{tailed_lines}
use Rattle.play_laws.specs.Keeps.{KeepsNames}
use Rattle.play_laws.proofs.NamedPlays.{plays_are_safe}
use Rattle.play_laws.proofs.NamesKept.{plays_keep}

is_edit : IsEdit (plain (Mkdir (codes "/u") 10 493 (codes "u") (codes "g")))
is_edit = record { fields = ((omega arith, refl), (omega arith, (omega arith, ((omega arith, refl), ((omega arith, refl), tt))))); call = tt }

pub playable : ArePlayable true 1 0 tailed_lines
unfolding ArePlayable tailed_lines
playable = (omega arith, tt, (omega arith, ((λ e. cc e), (is_edit, tt)), (omega arith, tt, tt)))

pub play : IsPlay true 1 tailed_lines (played_named 40 1 tailed_lines)
unfolding digits field_at find_segment put_segment remove_segment newest limit_of after_effects serving last_below least_served edits_from manifest_of
    node_step effects_of standing best_from greatest_promise greatest_newest judgment after_fetch log_limit writer_begun writer_heard op_from
    edit_from opcode_of decoded admit_op admit_of apply_op apply_of entered applied cell_takes calls_to refusal_cause_text refusal_name submit_edits
    image_put save_image reload_image min_to_keep pass_begun least_purged pass_end tail_hears count_actors cause_word cause_words name_of for_each
    acked_from acknowledged_results outcome_results results_of inactive_results too_long_results late_none refusal_text dues_logged dues_aborted
    abort_text fresh_actor call_wanted read_first copy_first say_first wants is_wanting is_broken tail_text entry_text tail_ended tail_stepped
    task_begun make_copy logged_when trim_at take_named_action take_action settle hand_action logs_done task_done held_turn turn_with turn_taken
    heard_by moved_on settle_again goes_on play_begins actor_at node_asked note_record same_kind is_marked delivery told_of call_made copy_made
    meet_want is_done line_taken next_line take_turn play_step play_steps no_lines has_ended results_in results_at played_named last_at tailed_lines
play = record { steps = 40; reached = refl; ended = refl }

pub end : last_at (played_named 40 1 tailed_lines) 1 ≡ left 1 (root_pair ∷ [])
unfolding digits field_at find_segment put_segment remove_segment newest limit_of after_effects serving last_below least_served edits_from manifest_of
    node_step effects_of standing best_from greatest_promise greatest_newest judgment after_fetch log_limit writer_begun writer_heard op_from
    edit_from opcode_of decoded admit_op admit_of apply_op apply_of entered applied cell_takes calls_to refusal_cause_text refusal_name submit_edits
    image_put save_image reload_image min_to_keep pass_begun least_purged pass_end tail_hears count_actors cause_word cause_words name_of for_each
    acked_from acknowledged_results outcome_results results_of inactive_results too_long_results late_none refusal_text dues_logged dues_aborted
    abort_text fresh_actor call_wanted read_first copy_first say_first wants is_wanting is_broken tail_text entry_text tail_ended tail_stepped
    task_begun make_copy logged_when trim_at take_named_action take_action settle hand_action logs_done task_done held_turn turn_with turn_taken
    heard_by moved_on settle_again goes_on play_begins actor_at node_asked note_record same_kind is_marked delivery told_of call_made copy_made
    meet_want is_done line_taken next_line take_turn play_step play_steps no_lines has_ended results_in results_at played_named last_at tailed_lines
end = refl

pub safe : IsSafeWithEnds 1 (moving_of (played_named 40 1 tailed_lines).trace) (ends_of (played_named 40 1 tailed_lines))
safe = (plays_are_safe 1 tailed_lines (played_named 40 1 tailed_lines) (omega arith) playable play).0

pub keeps : KeepsNames (mesh_of (played_named 40 1 tailed_lines)) (moving_of (played_named 40 1 tailed_lines).trace)
keeps = plays_keep 1 tailed_lines (played_named 40 1 tailed_lines) (omega arith) playable play
