use Rattle.writer_core.proofs.Minorities.{aborts_few}
use Rattle.writer_core.proofs.laws.aborts_are_minorities.Goals as goal

pub returns : goal.returns
returns c = aborts_few
