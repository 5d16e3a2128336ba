use Rattle.std.proofs.Common.{reverse}
use Rattle.run_safety.proofs.Kept.{recovery_whole}
use Rattle.run_safety.proofs.laws.recovery_is_whole.Goals as goal

pub returns : goal.returns
returns c = λ n entries run old e h b p is. recovery_whole n run.0 (reverse entries) run.1 old e h b p is
