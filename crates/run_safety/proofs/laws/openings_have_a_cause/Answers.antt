use Rattle.std.proofs.Common.{reverse}
use Rattle.run_safety.proofs.Openings.{start_cause}
use Rattle.run_safety.proofs.laws.openings_have_a_cause.Goals as goal

pub returns : goal.returns
returns c = λ n entries run old e f k p is. start_cause n run.0 (reverse entries) run.1 old e f k p is
