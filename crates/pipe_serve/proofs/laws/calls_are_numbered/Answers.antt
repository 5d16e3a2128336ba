use Rattle.pipe_serve.proofs.NumberLaws.{all_numbered}
use Rattle.pipe_serve.proofs.laws.calls_are_numbered.Goals as goal

pub returns : goal.returns
returns c = all_numbered
