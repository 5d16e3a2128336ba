use Rattle.run_world.proofs.WorldWorked.{begun, served, taken}
use Rattle.run_world.proofs.examples.served_takeover_is_taken.Goals as goal

pub returns : goal.returns
returns c = record { begun = begun; served = served; taken = taken }
