use Rattle.std.proofs.Common.{reverse}
use Rattle.run_safety.proofs.FinalCopies.{final_has_all}
use Rattle.run_safety.proofs.laws.final_copies_have_all.Goals as goal

pub returns : goal.returns
returns c = λ n entries run i j g h t x hg hh final start epoch has. final_has_all n run.0 (reverse entries) run.1 i j g h t x hg hh final start epoch has
