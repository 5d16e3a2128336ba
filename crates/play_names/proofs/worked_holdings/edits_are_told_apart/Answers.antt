use Rattle.std.proofs.Common.{refl}
use Rattle.writer_core.specs.Writer.{log_limit}
use Rattle.ns_edits.specs.Admit.{admit_op, admit_of}
use Rattle.ns_edits.specs.Apply.{apply_op, apply_of}
use Rattle.play_names.specs.Submissions.{submit_edits}
use Rattle.play_names.specs.Examples.{three_edits}
use Rattle.play_names.proofs.worked_holdings.edits_are_told_apart.Goals as goal

pub returns : goal.returns
unfolding log_limit admit_op admit_of apply_op apply_of submit_edits three_edits
returns c = record { dues = refl; bodies = refl }
