use Rattle.std.proofs.Common.{reverse}
use Rattle.run_safety.proofs.Kept.{starts_chained}
use Rattle.run_safety.proofs.laws.starts_are_chained.Goals as goal

pub returns : goal.returns
returns c = λ n entries run old e f k p is. starts_chained n run.0 (reverse entries) run.1 old e f k p is
