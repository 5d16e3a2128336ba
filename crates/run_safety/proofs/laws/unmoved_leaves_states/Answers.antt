use Rattle.run_safety.proofs.Along.{unmoved}
use Rattle.run_safety.proofs.laws.unmoved_leaves_states.Goals as goal

pub returns : goal.returns
returns c = unmoved
