use Rattle.std.proofs.Common.{reverse}
use Rattle.std.proofs.lemmas.List.{reverse-append}
use Rattle.run_safety.proofs.Places.{Earlier-append}
use Rattle.run_safety.proofs.SoundNodes.{promise_earlier}
use Rattle.run_safety.proofs.laws.promise_never_falls.Goals as goal

pub returns : goal.returns
returns c = λ i xs ys. rw reverse-append (promise_earlier i (Earlier-append (reverse ys) (reverse xs)))
