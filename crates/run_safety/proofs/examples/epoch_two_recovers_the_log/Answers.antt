use Rattle.run_safety.proofs.Worked.{recovers_log}
use Rattle.run_safety.proofs.examples.epoch_two_recovers_the_log.Goals as goal

pub returns : goal.returns
returns c = recovers_log
