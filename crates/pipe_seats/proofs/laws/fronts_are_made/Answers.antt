use Rattle.pipe_seats.proofs.SettledLaws.{front_chores}
use Rattle.pipe_seats.proofs.laws.fronts_are_made.Goals as goal

pub returns : goal.returns
returns c = front_chores
