use Rattle.std.proofs.Common.{reverse}
use Rattle.run_safety.proofs.Chain.{starts_next}
use Rattle.run_safety.proofs.laws.starts_are_next.Goals as goal

pub returns : goal.returns
returns c = λ n entries run e m l i g t x f held has. starts_next n run.0 (reverse entries) run.1 e m l i g t x f held has
