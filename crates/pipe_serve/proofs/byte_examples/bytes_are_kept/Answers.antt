use Rattle.pipe_serve.proofs.ByteExampleLaws.{lost_between, none_twice}
use Rattle.pipe_serve.proofs.byte_examples.bytes_are_kept.Goals as goal

pub returns-clause-lost : goal.returns-clause-lost
returns-clause-lost c = lost_between

pub returns-clause-twice : goal.returns-clause-twice
returns-clause-twice c = none_twice
