use Rattle.std.proofs.Common.{reverse}
use Rattle.std.proofs.lemmas.List.{reverse-append}
use Rattle.run_safety.proofs.Places.{Follows-earlier, Earlier-append}
use Rattle.run_safety.proofs.laws.prefix_is_run.Goals as goal

pub returns : goal.returns
returns c = λ n xs ys run. (run.0, Follows-earlier n run.0 (Earlier-append (reverse ys) (reverse xs)) (rw reverse-append at run.1))
