use Rattle.run_safety.proofs.Worked.{edit_kept}
use Rattle.run_safety.proofs.examples.safety_keeps_the_edit.Goals as goal

pub returns : goal.returns
returns c = record { line = edit_kept.0; below = edit_kept.1; log = edit_kept.2 }
