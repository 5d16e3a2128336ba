use Rattle.std.proofs.Common.{reverse}
use Rattle.run_safety.proofs.Served.{served_on_line}
use Rattle.run_safety.proofs.laws.served_is_on_line.Goals as goal

pub returns : goal.returns
returns c = λ n entries i g k x run is has. served_on_line n run.0 (reverse entries) run.1 i g k x is has
