use Rattle.std.proofs.Common.{reverse}
use Rattle.run_safety.proofs.FinalCopies.{final_is_kept}
use Rattle.run_safety.proofs.laws.final_copies_are_kept.Goals as goal

pub returns : goal.returns
returns c = λ n entries run i j g h hg hh final start lt. final_is_kept n run.0 (reverse entries) run.1 i j g h hg hh final start lt
