use Rattle.std.proofs.Common.{reverse}
use Rattle.run_safety.proofs.Kept.{written_once}
use Rattle.run_safety.proofs.laws.written_once.Goals as goal

pub returns : goal.returns
returns c = λ n entries run i j g h t x y p q same has also. written_once n run.0 (reverse entries) run.1 i j g h t x y p q same has also
