use Rattle.std.proofs.Common.{reverse}
use Rattle.run_safety.proofs.Kept.{segments_chained}
use Rattle.run_safety.proofs.laws.segments_are_chained.Goals as goal

pub returns : goal.returns
returns c = λ n entries run i g t x h has. segments_chained n run.0 (reverse entries) run.1 i g t x h has
