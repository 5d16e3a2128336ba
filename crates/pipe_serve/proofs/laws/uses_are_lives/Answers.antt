use Rattle.pipe_serve.proofs.UseLaws.{are_lives}
use Rattle.pipe_serve.proofs.laws.uses_are_lives.Goals as goal

pub returns : goal.returns
returns c = are_lives
