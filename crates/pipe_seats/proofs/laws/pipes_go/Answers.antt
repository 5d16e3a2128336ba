use Rattle.pipe_seats.proofs.PipesGo.{pipes_go}
use Rattle.pipe_seats.proofs.laws.pipes_go.Goals as goal

pub returns : goal.returns
returns c = pipes_go
