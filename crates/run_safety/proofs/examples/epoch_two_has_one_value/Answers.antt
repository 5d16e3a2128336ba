use Rattle.run_safety.proofs.WorkedHalves.{one_value}
use Rattle.run_safety.proofs.examples.epoch_two_has_one_value.Goals as goal

pub returns : goal.returns
returns c = one_value
