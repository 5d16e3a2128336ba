use Rattle.std.proofs.Common.{reverse}
use Rattle.run_safety.proofs.Kept.{starts_above}
use Rattle.run_safety.proofs.laws.starts_are_above.Goals as goal

pub returns : goal.returns
returns c = λ n entries run old e f g t k x c p is lt. starts_above n run.0 (reverse entries) run.1 old e f g t k x c p is lt
