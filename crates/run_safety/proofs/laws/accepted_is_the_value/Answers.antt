use Rattle.std.proofs.Common.{reverse}
use Rattle.run_safety.proofs.Halves.{accepted_value}
use Rattle.run_safety.proofs.laws.accepted_is_the_value.Goals as goal

pub returns : goal.returns
returns c = λ n entries run old e head batch node g p is held start epoch. accepted_value n run.0 (reverse entries) run.1 old e head batch node g p is held start epoch
