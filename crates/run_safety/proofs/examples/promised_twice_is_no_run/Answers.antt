use Rattle.run_safety.proofs.Worked.{not_a_run}
use Rattle.run_safety.proofs.examples.promised_twice_is_no_run.Goals as goal

pub returns : goal.returns
returns c = not_a_run
