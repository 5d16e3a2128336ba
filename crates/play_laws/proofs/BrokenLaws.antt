-- Meshes that must not agree, each refused by the part of the agreement that it breaks.
use Rattle.std.proofs.Common.{◌≡◌, ℕ, ◌+◌, List, [], ◌∷◌, refl, subst, arith}
use Rattle.std.specs.Fmt.{digits}
use Rattle.journal_core.specs.declared.request.Request.TheVariants as request
use Rattle.journal_core.specs.declared.reply.Reply.TheVariants as reply
use Rattle.writer_core.specs.declared.task.Task.TheVariants as task
use Rattle.writer_core.specs.Views.{WriterView}
use Rattle.journal_history.specs.declared.record.Told.TheVariants as told
use Rattle.journal_core.specs.Segments.{find_segment, put_segment, remove_segment, newest}
use Rattle.journal_core.specs.Limits.{limit_of}
use Rattle.journal_core.specs.Effects.{after_effects}
use Rattle.journal_core.specs.Reads.{serving, last_below, least_served, edits_from, manifest_of}
use Rattle.journal_core.specs.Step.{node_step, effects_of}
use Rattle.writer_core.specs.Best.{best_from, greatest_promise, greatest_newest}
use Rattle.writer_core.specs.Rounds.{judgment, after_fetch}
use Rattle.writer_core.specs.Writer.{log_limit, writer_begun, writer_heard, new_writer}
use Rattle.journal_core.specs.Cuts.{standing}
use Rattle.journal_history.specs.Cell.{cell_takes, cell_after, IsLocalRun}
use Rattle.journal_history.specs.Moving.{epoch_of, moves, move_of, entry_of, moving_of}
use Rattle.mesh.specs.Marks.{calls_to, IsMarked}
use Rattle.std.specs.Prelude.{None}
use Rattle.mesh.specs.Makers.{Chore, Writes, Tails, maker_of, maker_hears, IsMade, IsOperators, heard_of, Maker}
use Rattle.mesh.specs.Matches.{reaches, reached, lines_of, AreSame, IsSame}
use Rattle.mesh.specs.Owners.{wins, owns}
use Rattle.mesh.specs.Order.{placed_from, place_of, key_of, is_below, tags_of, blocks_cut, blocks_from, put_block, sorted, entries_in, epoch_order}
use Rattle.play_model.specs.Lines.{count_actors, names_in, actions_of, operations_in}
use Rattle.journal_text.specs.Texts.{refusal_cause_text, refusal_name}
use Rattle.play_names.specs.Results.{cause_word, cause_words, name_of, for_each, acked_from, acknowledged_results, outcome_results, results_of, inactive_results, too_long_results, late_none}
use Rattle.play_model.specs.Actor.{fresh_actor, call_wanted, copy_first, read_first, say_first, wants, is_wanting, is_broken, task_begun, make_copy}
use Rattle.play_model.specs.Actor.{take_action, settle, hand_action, turn_taken, turn_with, moved_on, heard_by, settle_again, goes_on, actor_after}
use Rattle.play_model.specs.Plays.{play_begins, actor_at, node_asked, note_record, same_kind, is_marked, delivery, told_of, call_made, copy_made}
use Rattle.play_model.specs.Plays.{meet_want, is_done, line_taken, next_line, take_turn, play_step, play_steps, no_lines, has_ended, history_of}
use Rattle.play_model.specs.Plays.{histories_from, mesh_of, ends_of, ends_from}
use Rattle.play_model.specs.Told.{told_in, results_in}
use Rattle.play_laws.specs.PlayExamples.{played, results_at, listed, dropped_call, killed_nodes, competing_takeovers, fenced_writer, fencing_lines}
use Rattle.play_laws.specs.PlayExamples.{before_recovery, recovered_edit, recovering_lines, lost_fetch, second_fetch_lines, late_copies, late_lines}
use Rattle.play_laws.specs.PlayExamples.{rolled_and_purged, purging_lines, stopped_in_prepare, stopping_lines, cut_in_accept, cut_lines}
use Rattle.play_laws.specs.FirstRun.{asking, called, first_script, first_play, first_history, first_takeover, first_record, first_mesh, first_ends, first_entries}
use Rattle.play_laws.specs.Broken.{proposing_five, lost_line, doubled_line, swapped_lines, made_up, wrong_epoch, undropped, asking_operator}
use Rattle.play_laws.specs.Orders.{losing_proposal, came_about, by_promise}
use Rattle.mesh.specs.Agree.{Agrees}
use Rattle.mesh.proofs.Lists.{contains_head}
use Rattle.play_model.proofs.Makes.{busy_by}
use Rattle.play_model.proofs.Wanting.{sending, same_sending}

pub lost : Agrees lost_line → ⊥
unfolding digits find_segment put_segment remove_segment newest limit_of after_effects serving last_below least_served edits_from manifest_of
    node_step effects_of best_from greatest_promise greatest_newest judgment after_fetch log_limit writer_begun writer_heard standing cell_takes
    cell_after epoch_of moves move_of entry_of moving_of calls_to maker_of maker_hears reaches reached lines_of wins owns placed_from place_of key_of
    is_below tags_of blocks_cut blocks_from put_block sorted entries_in epoch_order count_actors names_in actions_of operations_in refusal_cause_text
    refusal_name cause_word cause_words name_of for_each acked_from acknowledged_results outcome_results results_of inactive_results too_long_results
    late_none fresh_actor call_wanted copy_first read_first say_first wants is_wanting is_broken task_begun make_copy take_action settle hand_action
    turn_taken turn_with moved_on heard_by settle_again goes_on actor_after play_begins actor_at node_asked note_record same_kind is_marked delivery
    told_of call_made copy_made meet_want is_done line_taken next_line take_turn play_step play_steps no_lines has_ended history_of histories_from
    mesh_of ends_of ends_from told_in results_in played results_at listed dropped_call killed_nodes competing_takeovers fenced_writer fencing_lines
    before_recovery recovered_edit recovering_lines lost_fetch second_fetch_lines late_copies late_lines rolled_and_purged purging_lines
    stopped_in_prepare stopping_lines cut_in_accept cut_lines first_script first_play first_history first_takeover first_record first_mesh first_ends
    first_entries lost_line doubled_line swapped_lines made_up wrong_epoch undropped asking_operator losing_proposal came_about by_promise IsLocalRun
    IsMarked IsMade IsOperators AreSame IsSame
lost h = (h.lists.same 0 0 (omega arith) (omega arith)).1.1.1.1.1.1

pub doubled : Agrees doubled_line → ⊥
unfolding digits find_segment put_segment remove_segment newest limit_of after_effects serving last_below least_served edits_from manifest_of
    node_step effects_of best_from greatest_promise greatest_newest judgment after_fetch log_limit writer_begun writer_heard standing cell_takes
    cell_after epoch_of moves move_of entry_of moving_of calls_to maker_of maker_hears reaches reached lines_of wins owns placed_from place_of key_of
    is_below tags_of blocks_cut blocks_from put_block sorted entries_in epoch_order count_actors names_in actions_of operations_in refusal_cause_text
    refusal_name cause_word cause_words name_of for_each acked_from acknowledged_results outcome_results results_of inactive_results too_long_results
    late_none fresh_actor call_wanted copy_first read_first say_first wants is_wanting is_broken task_begun make_copy take_action settle hand_action
    turn_taken turn_with moved_on heard_by settle_again goes_on actor_after play_begins actor_at node_asked note_record same_kind is_marked delivery
    told_of call_made copy_made meet_want is_done line_taken next_line take_turn play_step play_steps no_lines has_ended history_of histories_from
    mesh_of ends_of ends_from told_in results_in played results_at listed dropped_call killed_nodes competing_takeovers fenced_writer fencing_lines
    before_recovery recovered_edit recovering_lines lost_fetch second_fetch_lines late_copies late_lines rolled_and_purged purging_lines
    stopped_in_prepare stopping_lines cut_in_accept cut_lines first_script first_play first_history first_takeover first_record first_mesh first_ends
    first_entries lost_line doubled_line swapped_lines made_up wrong_epoch undropped asking_operator losing_proposal came_about by_promise IsLocalRun
    IsMarked IsMade IsOperators AreSame IsSame
doubled h = (h.lists.same 0 0 (omega arith) (omega arith)).1

pub swapped : Agrees swapped_lines → ⊥
unfolding digits find_segment put_segment remove_segment newest limit_of after_effects serving last_below least_served edits_from manifest_of
    node_step effects_of best_from greatest_promise greatest_newest judgment after_fetch log_limit writer_begun writer_heard standing cell_takes
    cell_after epoch_of moves move_of entry_of moving_of calls_to maker_of maker_hears reaches reached lines_of wins owns placed_from place_of key_of
    is_below tags_of blocks_cut blocks_from put_block sorted entries_in epoch_order count_actors names_in actions_of operations_in refusal_cause_text
    refusal_name cause_word cause_words name_of for_each acked_from acknowledged_results outcome_results results_of inactive_results too_long_results
    late_none fresh_actor call_wanted copy_first read_first say_first wants is_wanting is_broken task_begun make_copy take_action settle hand_action
    turn_taken turn_with moved_on heard_by settle_again goes_on actor_after play_begins actor_at node_asked note_record same_kind is_marked delivery
    told_of call_made copy_made meet_want is_done line_taken next_line take_turn play_step play_steps no_lines has_ended history_of histories_from
    mesh_of ends_of ends_from told_in results_in played results_at listed dropped_call killed_nodes competing_takeovers fenced_writer fencing_lines
    before_recovery recovered_edit recovering_lines lost_fetch second_fetch_lines late_copies late_lines rolled_and_purged purging_lines
    stopped_in_prepare stopping_lines cut_in_accept cut_lines first_script first_play first_history first_takeover first_record first_mesh first_ends
    first_entries lost_line doubled_line swapped_lines made_up wrong_epoch undropped asking_operator losing_proposal came_about by_promise IsLocalRun
    IsMarked IsMade IsOperators AreSame IsSame
swapped h = absurd (cc (h.lists.local 0 (omega arith)).1.0)

pub invented : Agrees made_up → ⊥
unfolding digits find_segment put_segment remove_segment newest limit_of after_effects serving last_below least_served edits_from manifest_of
    node_step effects_of best_from greatest_promise greatest_newest judgment after_fetch log_limit writer_begun writer_heard standing cell_takes
    cell_after epoch_of moves move_of entry_of moving_of calls_to maker_of maker_hears reaches reached lines_of wins owns placed_from place_of key_of
    is_below tags_of blocks_cut blocks_from put_block sorted entries_in epoch_order count_actors names_in actions_of operations_in refusal_cause_text
    refusal_name cause_word cause_words name_of for_each acked_from acknowledged_results outcome_results results_of inactive_results too_long_results
    late_none fresh_actor call_wanted copy_first read_first say_first wants is_wanting is_broken task_begun make_copy take_action settle hand_action
    turn_taken turn_with moved_on heard_by settle_again goes_on actor_after play_begins actor_at node_asked note_record same_kind is_marked delivery
    told_of call_made copy_made meet_want is_done line_taken next_line take_turn play_step play_steps no_lines has_ended history_of histories_from
    mesh_of ends_of ends_from told_in results_in played results_at listed dropped_call killed_nodes competing_takeovers fenced_writer fencing_lines
    before_recovery recovered_edit recovering_lines lost_fetch second_fetch_lines late_copies late_lines rolled_and_purged purging_lines
    stopped_in_prepare stopping_lines cut_in_accept cut_lines first_script first_play first_history first_takeover first_record first_mesh first_ends
    first_entries lost_line doubled_line swapped_lines made_up wrong_epoch undropped asking_operator losing_proposal came_about by_promise IsLocalRun
    IsMarked IsMade IsOperators AreSame IsSame
invented h = absurd (cc (h.lists.same 0 0 (omega arith) (omega arith)).0.1)

pub kept : Agrees undropped → ⊥
unfolding digits find_segment put_segment remove_segment newest limit_of after_effects serving last_below least_served edits_from manifest_of
    node_step effects_of best_from greatest_promise greatest_newest judgment after_fetch log_limit writer_begun writer_heard standing cell_takes
    cell_after epoch_of moves move_of entry_of moving_of calls_to maker_of maker_hears reaches reached lines_of wins owns placed_from place_of key_of
    is_below tags_of blocks_cut blocks_from put_block sorted entries_in epoch_order count_actors names_in actions_of operations_in refusal_cause_text
    refusal_name cause_word cause_words name_of for_each acked_from acknowledged_results outcome_results results_of inactive_results too_long_results
    late_none fresh_actor call_wanted copy_first read_first say_first wants is_wanting is_broken task_begun make_copy take_action settle hand_action
    turn_taken turn_with moved_on heard_by settle_again goes_on actor_after play_begins actor_at node_asked note_record same_kind is_marked delivery
    told_of call_made copy_made meet_want is_done line_taken next_line take_turn play_step play_steps no_lines has_ended history_of histories_from
    mesh_of ends_of ends_from told_in results_in played results_at listed dropped_call killed_nodes competing_takeovers fenced_writer fencing_lines
    before_recovery recovered_edit recovering_lines lost_fetch second_fetch_lines late_copies late_lines rolled_and_purged purging_lines
    stopped_in_prepare stopping_lines cut_in_accept cut_lines first_script first_play first_history first_takeover first_record first_mesh first_ends
    first_entries lost_line doubled_line swapped_lines made_up wrong_epoch undropped asking_operator losing_proposal came_about by_promise IsLocalRun
    IsMarked IsMade IsOperators AreSame IsSame
kept h = absurd (cc ((h.lists.marked 0 (omega arith)).0.0.1 (contains_head _ [] _ refl)))

pub asked : Agrees asking_operator → ⊥
unfolding digits find_segment put_segment remove_segment newest limit_of after_effects serving last_below least_served edits_from manifest_of
    node_step effects_of best_from greatest_promise greatest_newest judgment after_fetch log_limit writer_begun writer_heard standing cell_takes
    cell_after epoch_of moves move_of entry_of moving_of calls_to maker_of maker_hears reaches reached lines_of wins owns placed_from place_of key_of
    is_below tags_of blocks_cut blocks_from put_block sorted entries_in epoch_order count_actors names_in actions_of operations_in refusal_cause_text
    refusal_name cause_word cause_words name_of for_each acked_from acknowledged_results outcome_results results_of inactive_results too_long_results
    late_none fresh_actor call_wanted copy_first read_first say_first wants is_wanting is_broken task_begun make_copy take_action settle hand_action
    turn_taken turn_with moved_on heard_by settle_again goes_on actor_after play_begins actor_at node_asked note_record same_kind is_marked delivery
    told_of call_made copy_made meet_want is_done line_taken next_line take_turn play_step play_steps no_lines has_ended history_of histories_from
    mesh_of ends_of ends_from told_in results_in played results_at listed dropped_call killed_nodes competing_takeovers fenced_writer fencing_lines
    before_recovery recovered_edit recovering_lines lost_fetch second_fetch_lines late_copies late_lines rolled_and_purged purging_lines
    stopped_in_prepare stopping_lines cut_in_accept cut_lines first_script first_play first_history first_takeover first_record first_mesh first_ends
    first_entries lost_line doubled_line swapped_lines made_up wrong_epoch undropped asking_operator losing_proposal came_about by_promise IsLocalRun
    IsMarked IsMade IsOperators AreSame IsSame
asked h = h.lists.operated

apart : request.NewEpoch 1 ≡ request.NewEpoch 5 → ⊥
apart e = cc e

one_or_five : sending 1 (request.NewEpoch 1) ≡ sending 1 (request.NewEpoch 5) → ⊥
one_or_five e = apart (same_sending 1 1 (request.NewEpoch 1) (request.NewEpoch 5) e).1

tailing : (position : ℕ) → request.Read (position + 1) ≡ request.State → ⊥
tailing position e = cc e

never : (cs : List Chore) → IsMade (maker_of cs (new_writer 1)) (called 1 asking ∷ called 1 proposing_five ∷ []) → ⊥
unfolding digits find_segment put_segment remove_segment newest limit_of after_effects serving last_below least_served edits_from manifest_of
    node_step effects_of best_from greatest_promise greatest_newest judgment after_fetch log_limit writer_begun writer_heard standing cell_takes
    cell_after epoch_of moves move_of entry_of moving_of calls_to maker_of maker_hears reaches reached lines_of wins owns placed_from place_of key_of
    is_below tags_of blocks_cut blocks_from put_block sorted entries_in epoch_order count_actors names_in actions_of operations_in refusal_cause_text
    refusal_name cause_word cause_words name_of for_each acked_from acknowledged_results outcome_results results_of inactive_results too_long_results
    late_none fresh_actor call_wanted copy_first read_first say_first wants is_wanting is_broken task_begun make_copy take_action settle hand_action
    turn_taken turn_with moved_on heard_by settle_again goes_on actor_after play_begins actor_at node_asked note_record same_kind is_marked delivery
    told_of call_made copy_made meet_want is_done line_taken next_line take_turn play_step play_steps no_lines has_ended history_of histories_from
    mesh_of ends_of ends_from told_in results_in played results_at listed dropped_call killed_nodes competing_takeovers fenced_writer fencing_lines
    before_recovery recovered_edit recovering_lines lost_fetch second_fetch_lines late_copies late_lines rolled_and_purged purging_lines
    stopped_in_prepare stopping_lines cut_in_accept cut_lines first_script first_play first_history first_takeover first_record first_mesh first_ends
    first_entries lost_line doubled_line swapped_lines made_up wrong_epoch undropped asking_operator losing_proposal came_about by_promise IsLocalRun
    IsMarked IsMade IsOperators AreSame IsSame
never [] h = absurd (cc h.0)
never (Tails position more ∷ cs) h = tailing position (same_sending 1 1 (request.Read (position + 1)) request.State h.0).1
never (Writes (task.Log bodies) ∷ cs) h = never cs h
never (Writes task.Roll ∷ cs) h = never cs h
never (Writes task.Close ∷ cs) h = never cs h
never (Writes (task.Purge min) ∷ cs) h = never cs h
never (Writes task.Takeover ∷ cs) h =
    let w : WriterView = (writer_begun (new_writer 1) task.Takeover).writer in
    let first : IsMade (record { chores = cs; writer = w; reading = None }) (called 1 asking ∷ called 1 proposing_five ∷ []) =
    subst (λ (m : Maker). IsMade m (called 1 asking ∷ called 1 proposing_five ∷ [])) (busy_by cs w (1, request.State) refl) h in
    let v : WriterView = (writer_heard w 1 (heard_of (told.Reply (reply.State 0)))).writer in
    let second : IsMade (record { chores = cs; writer = v; reading = None }) (called 1 proposing_five ∷ []) =
    subst (λ (m : Maker). IsMade m (called 1 proposing_five ∷ [])) (busy_by cs v (1, request.NewEpoch 1) refl) first.1 in
    one_or_five second.0

pub unmade : Agrees wrong_epoch → ⊥
unfolding digits find_segment put_segment remove_segment newest limit_of after_effects serving last_below least_served edits_from manifest_of
    node_step effects_of best_from greatest_promise greatest_newest judgment after_fetch log_limit writer_begun writer_heard standing cell_takes
    cell_after epoch_of moves move_of entry_of moving_of calls_to maker_of maker_hears reaches reached lines_of wins owns placed_from place_of key_of
    is_below tags_of blocks_cut blocks_from put_block sorted entries_in epoch_order count_actors names_in actions_of operations_in refusal_cause_text
    refusal_name cause_word cause_words name_of for_each acked_from acknowledged_results outcome_results results_of inactive_results too_long_results
    late_none fresh_actor call_wanted copy_first read_first say_first wants is_wanting is_broken task_begun make_copy take_action settle hand_action
    turn_taken turn_with moved_on heard_by settle_again goes_on actor_after play_begins actor_at node_asked note_record same_kind is_marked delivery
    told_of call_made copy_made meet_want is_done line_taken next_line take_turn play_step play_steps no_lines has_ended history_of histories_from
    mesh_of ends_of ends_from told_in results_in played results_at listed dropped_call killed_nodes competing_takeovers fenced_writer fencing_lines
    before_recovery recovered_edit recovering_lines lost_fetch second_fetch_lines late_copies late_lines rolled_and_purged purging_lines
    stopped_in_prepare stopping_lines cut_in_accept cut_lines first_script first_play first_history first_takeover first_record first_mesh first_ends
    first_entries lost_line doubled_line swapped_lines made_up wrong_epoch undropped asking_operator losing_proposal came_about by_promise IsLocalRun
    IsMarked IsMade IsOperators AreSame IsSame
unmade h = never (h.made 0 (omega arith)).0 (h.made 0 (omega arith)).2
