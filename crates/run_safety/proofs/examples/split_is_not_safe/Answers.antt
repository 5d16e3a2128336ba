use Rattle.run_safety.proofs.Worked.{not_safe}
use Rattle.run_safety.proofs.examples.split_is_not_safe.Goals as goal

pub returns : goal.returns
returns c = not_safe
