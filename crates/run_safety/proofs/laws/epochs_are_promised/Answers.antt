use Rattle.std.proofs.Common.{reverse}
use Rattle.run_safety.proofs.Halves.{epoch_promised}
use Rattle.run_safety.proofs.laws.epochs_are_promised.Goals as goal

pub returns : goal.returns
returns c = λ n entries run old e caller way epoch told p is. epoch_promised n run.0 (reverse entries) run.1 old e caller way epoch told p is
