use Rattle.std.proofs.Common.{reverse}
use Rattle.run_safety.proofs.Safety.{chosen_agree}
use Rattle.run_safety.proofs.laws.chosen_once.Goals as goal

pub returns : goal.returns
returns c = λ n entries e f t x y run p q. chosen_agree n run.0 (reverse entries) run.1 e f t x y p q
