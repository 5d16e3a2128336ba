use Rattle.std.proofs.Common.{reverse}
use Rattle.run_safety.proofs.KeepsLaws.{keeps_parts}
use Rattle.run_safety.proofs.laws.every_run_keeps_its_parts.Goals as goal

pub returns : goal.returns
returns c = λ n entries run. keeps_parts n run.0 (reverse entries) run.1
