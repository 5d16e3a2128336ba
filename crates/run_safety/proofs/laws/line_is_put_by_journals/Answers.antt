use Rattle.std.proofs.Common.{reverse}
use Rattle.run_safety.proofs.Journals.{line_put}
use Rattle.run_safety.proofs.laws.line_is_put_by_journals.Goals as goal

pub returns : goal.returns
returns c = λ n entries run t x on. line_put n run.0 (reverse entries) run.1 t x on
