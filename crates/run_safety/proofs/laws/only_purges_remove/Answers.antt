use Rattle.std.proofs.Common.{reverse}
use Rattle.run_safety.proofs.Proposals.{only_purges}
use Rattle.run_safety.proofs.laws.only_purges_remove.Goals as goal

pub returns : goal.returns
returns c = λ n entries run old e node start g p there gone. only_purges n run.0 (reverse entries) run.1 old e node start g there gone
