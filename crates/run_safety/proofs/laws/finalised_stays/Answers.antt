use Rattle.std.proofs.Common.{reverse}
use Rattle.run_safety.proofs.Finalised.{finalised_stays}
use Rattle.run_safety.proofs.laws.finalised_stays.Goals as goal

pub returns : goal.returns
returns c = λ n entries run i h m l ok. finalised_stays n run.0 (reverse entries) run.1 i m l h ok
