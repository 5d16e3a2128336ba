use Rattle.writer_core.proofs.Minorities.{few_abort}
use Rattle.writer_core.proofs.laws.minorities_abort.Goals as goal

pub returns : goal.returns
returns c = few_abort
