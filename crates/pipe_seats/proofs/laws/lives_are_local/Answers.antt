use Rattle.pipe_seats.proofs.LifeLaws.{all_lives}
use Rattle.pipe_seats.proofs.laws.lives_are_local.Goals as goal

pub returns : goal.returns
returns c = all_lives
