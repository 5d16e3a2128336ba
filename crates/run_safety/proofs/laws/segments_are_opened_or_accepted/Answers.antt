use Rattle.std.proofs.Common.{reverse}
use Rattle.run_safety.proofs.Kept.{opened_or_accepted}
use Rattle.run_safety.proofs.laws.segments_are_opened_or_accepted.Goals as goal

pub returns : goal.returns
returns c = λ n entries run xs ys x y e head batch p q is of same. opened_or_accepted n run.0 (reverse entries) run.1 xs ys x y e head batch p q is of same
