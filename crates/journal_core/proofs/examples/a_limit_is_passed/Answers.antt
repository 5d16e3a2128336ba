use Rattle.std.proofs.Common.{refl}
use Rattle.journal_core.specs.Segments.{find_segment, put_segment, remove_segment, newest}
use Rattle.journal_core.specs.Limits.{limit_of}
use Rattle.journal_core.specs.Effects.{after_effects}
use Rattle.journal_core.specs.Reads.{edits_from, serving, last_below, least_served, manifest_of}
use Rattle.journal_core.specs.Step.{node_step}
use Rattle.journal_core.proofs.examples.a_limit_is_passed.Goals as goal

pub returns-clause-numbers : goal.returns-clause-numbers
unfolding node_step limit_of after_effects find_segment put_segment remove_segment newest edits_from serving last_below least_served manifest_of
returns-clause-numbers c = refl

pub returns-clause-body : goal.returns-clause-body
unfolding node_step limit_of after_effects find_segment put_segment remove_segment newest edits_from serving last_below least_served manifest_of
returns-clause-body c = refl

pub returns-clause-long_body : goal.returns-clause-long_body
unfolding node_step limit_of after_effects find_segment put_segment remove_segment newest edits_from serving last_below least_served manifest_of
returns-clause-long_body c = refl

pub returns-clause-batch : goal.returns-clause-batch
unfolding node_step limit_of after_effects find_segment put_segment remove_segment newest edits_from serving last_below least_served manifest_of
returns-clause-batch c = refl

pub returns-clause-large_batch : goal.returns-clause-large_batch
unfolding node_step limit_of after_effects find_segment put_segment remove_segment newest edits_from serving last_below least_served manifest_of
returns-clause-large_batch c = refl

pub returns-clause-segment : goal.returns-clause-segment
unfolding node_step limit_of after_effects find_segment put_segment remove_segment newest edits_from serving last_below least_served manifest_of
returns-clause-segment c = refl

pub returns-clause-full_segment : goal.returns-clause-full_segment
unfolding node_step limit_of after_effects find_segment put_segment remove_segment newest edits_from serving last_below least_served manifest_of
returns-clause-full_segment c = refl
