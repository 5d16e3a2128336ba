use Rattle.std.proofs.Common.{refl}
use Rattle.journal_core.specs.Segments.{find_segment, put_segment, remove_segment, newest}
use Rattle.journal_core.specs.Limits.{limit_of}
use Rattle.journal_core.specs.Effects.{after_effects}
use Rattle.journal_core.specs.Reads.{edits_from, serving, last_below, least_served, manifest_of}
use Rattle.journal_core.specs.Step.{node_step}
use Rattle.journal_core.proofs.examples.a_purge_keeps_what_is_not_committed.Goals as goal

pub returns-clause-none : goal.returns-clause-none
unfolding node_step limit_of after_effects find_segment put_segment remove_segment newest edits_from serving last_below least_served manifest_of
returns-clause-none c = refl

pub returns-clause-one : goal.returns-clause-one
unfolding node_step limit_of after_effects find_segment put_segment remove_segment newest edits_from serving last_below least_served manifest_of
returns-clause-one c = refl
