use Rattle.std.proofs.Common.{reverse}
use Rattle.run_safety.proofs.Safety.{chosen_on_line}
use Rattle.run_safety.proofs.laws.chosen_is_on_line.Goals as goal

pub returns : goal.returns
returns c = λ n entries e t x run p. chosen_on_line n run.0 (reverse entries) run.1 e t x p
