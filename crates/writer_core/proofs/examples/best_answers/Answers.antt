-- computed
use Rattle.std.proofs.Common.{refl}
use Rattle.writer_core.specs.Best.{best_from}
use Rattle.writer_core.proofs.examples.best_answers.Goals as goal

pub returns : goal.returns
unfolding best_from
returns c = (refl, refl, refl, refl, refl, refl, refl, refl, refl)
