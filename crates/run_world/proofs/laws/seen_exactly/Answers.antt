use Rattle.run_world.proofs.WorldSeen.{exactly}
use Rattle.run_world.proofs.laws.seen_exactly.Goals as goal

pub returns : goal.returns
returns c = exactly
