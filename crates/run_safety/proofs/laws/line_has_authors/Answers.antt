use Rattle.std.proofs.Common.{reverse}
use Rattle.run_safety.proofs.Authors.{line_author}
use Rattle.run_safety.proofs.laws.line_has_authors.Goals as goal

pub returns : goal.returns
returns c = λ n entries run t x on. line_author n run.0 (reverse entries) run.1 t x on
