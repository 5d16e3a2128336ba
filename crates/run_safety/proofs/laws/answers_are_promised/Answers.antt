use Rattle.std.proofs.Common.{reverse}
use Rattle.run_safety.proofs.Kept.{answer_promised}
use Rattle.run_safety.proofs.laws.answers_are_promised.Goals as goal

pub returns : goal.returns
returns c = λ n entries run old e caller way request reply head p is fine at. answer_promised n run.0 (reverse entries) run.1 old e caller way request reply head p is fine at
