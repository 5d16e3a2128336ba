use Rattle.std.proofs.Common.{refl}
use Rattle.writer_calls.proofs.examples.lines_that_count_are_told.Goals as goal

pub returns-clause-lines : goal.returns-clause-lines
returns-clause-lines c = refl

pub returns-clause-nodes : goal.returns-clause-nodes
returns-clause-nodes c = refl
