use Rattle.run_safety.proofs.Worked.{record_acknowledged, edit_acknowledged, later_acknowledged}
use Rattle.run_safety.proofs.examples.edits_are_acknowledged.Goals as goal

pub returns : goal.returns
returns c = record { begins = record_acknowledged; first = edit_acknowledged; last = later_acknowledged }
