use Rattle.run_safety.proofs.Worked.{is_run}
use Rattle.run_safety.proofs.examples.recovered_edit_is_a_run.Goals as goal

pub returns : goal.returns
returns c = is_run
