use Rattle.std.proofs.Common.{reverse}
use Rattle.run_safety.proofs.Served.{carried_chosen}
use Rattle.run_safety.proofs.laws.carried_committed_is_chosen.Goals as goal

pub returns : goal.returns
returns c = λ n entries run old e request head t p is at one up. carried_chosen n run.0 (reverse entries) run.1 old e request head t p is at one up
