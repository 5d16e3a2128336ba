use Rattle.std.proofs.Common.{reverse}
use Rattle.run_safety.proofs.Served.{known_chosen}
use Rattle.run_safety.proofs.laws.known_committed_is_chosen.Goals as goal

pub returns : goal.returns
returns c = λ n entries run i t one up. known_chosen n run.0 (reverse entries) run.1 i t one up
