use Rattle.run_safety.proofs.Safety.{run_safe}
use Rattle.run_safety.proofs.laws.every_run_is_safe.Goals as goal

pub returns : goal.returns
returns c = λ n entries run. run_safe n entries run
