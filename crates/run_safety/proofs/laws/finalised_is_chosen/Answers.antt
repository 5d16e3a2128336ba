use Rattle.std.proofs.Common.{reverse}
use Rattle.run_safety.proofs.Kept.{finalised_chosen}
use Rattle.run_safety.proofs.laws.finalised_is_chosen.Goals as goal

pub returns : goal.returns
returns c = λ n entries run old e h m l p is. finalised_chosen n run.0 (reverse entries) run.1 old e h m l p is
