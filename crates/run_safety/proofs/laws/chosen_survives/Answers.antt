use Rattle.std.proofs.Common.{reverse}
use Rattle.run_safety.proofs.Kept.{chosen_survives}
use Rattle.run_safety.proofs.laws.chosen_survives.Goals as goal

pub returns : goal.returns
returns c = λ n entries run i e t g x c h lt. chosen_survives n run.0 (reverse entries) run.1 i e t g x c h lt
