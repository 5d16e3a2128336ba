use Rattle.std.proofs.Common.{refl}
use Rattle.journal_core.specs.Segments.{find_segment, put_segment, remove_segment, newest}
use Rattle.journal_core.specs.Limits.{limit_of}
use Rattle.journal_core.specs.Effects.{after_effects}
use Rattle.journal_core.specs.Reads.{edits_from, serving, last_below, least_served, manifest_of}
use Rattle.journal_core.specs.Step.{node_step}
use Rattle.writer_calls.proofs.examples.a_mirror_is_filled.Goals as goal

pub returns-clause-told : goal.returns-clause-told
unfolding node_step limit_of after_effects find_segment put_segment remove_segment newest edits_from serving last_below least_served manifest_of
returns-clause-told c = refl

pub returns-clause-held : goal.returns-clause-held
unfolding node_step limit_of after_effects find_segment put_segment remove_segment newest edits_from serving last_below least_served manifest_of
returns-clause-held c = refl
