use Rattle.run_world.proofs.WorldWorked.{call_next, copy_next}
use Rattle.run_world.proofs.examples.what_is_not_next.Goals as goal

pub returns : goal.returns
returns c = record { call = call_next; copy = copy_next }
