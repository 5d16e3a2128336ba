use Rattle.std.proofs.Common.{reverse}
use Rattle.std.proofs.lemmas.List.{reverse-append}
use Rattle.run_safety.proofs.Places.{Earlier-append}
use Rattle.run_safety.proofs.Safety.{line_later}
use Rattle.run_safety.proofs.laws.line_goes_on.Goals as goal

pub returns : goal.returns
returns c = λ n xs ys t x run on. rw reverse-append (line_later n run.0 _ (rw reverse-append at run.1) t x (Earlier-append (reverse ys) (reverse xs)) on)
