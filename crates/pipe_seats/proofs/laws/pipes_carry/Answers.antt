use Rattle.pipe_seats.proofs.CarryLaws.{all_carried}
use Rattle.pipe_seats.proofs.laws.pipes_carry.Goals as goal

pub returns : goal.returns
returns c = all_carried
