use Rattle.std.proofs.Common.{reverse}
use Rattle.run_safety.proofs.Proposals.{proposals_told}
use Rattle.run_safety.proofs.laws.proposals_are_told.Goals as goal

pub returns : goal.returns
returns c = λ n entries run e f t body nodes chosen lt majority each. proposals_told n run.0 (reverse entries) run.1 e f t body nodes chosen lt majority each
