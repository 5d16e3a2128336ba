use Rattle.pipe_serve.proofs.ByteExampleLaws.{at_pipes}
use Rattle.pipe_serve.proofs.byte_examples.a_line_behind_a_cut_one.Goals as goal

pub returns-clause-at : goal.returns-clause-at
returns-clause-at c = at_pipes
