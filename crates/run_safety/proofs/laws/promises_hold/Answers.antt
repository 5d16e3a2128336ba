use Rattle.run_safety.proofs.Kept.{keeps_promise}
use Rattle.run_safety.proofs.laws.promises_hold.Goals as goal

pub returns : goal.returns
returns c = keeps_promise
