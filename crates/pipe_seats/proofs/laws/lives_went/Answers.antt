use Rattle.pipe_seats.proofs.SeatLaws.{lives_went}
use Rattle.pipe_seats.proofs.laws.lives_went.Goals as goal

pub returns : goal.returns
returns c = lives_went
