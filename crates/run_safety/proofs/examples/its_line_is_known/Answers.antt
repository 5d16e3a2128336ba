use Rattle.run_safety.proofs.Worked.{line_has, line_only}
use Rattle.run_safety.proofs.examples.its_line_is_known.Goals as goal

pub returns : goal.returns
returns c = record { has = line_has; only = line_only }
