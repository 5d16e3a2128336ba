use Rattle.journal_history.specs.Moving.{moving_of}
use Rattle.run_world.specs.World.{new_world, world_after}
use Rattle.run_safety.proofs.Safety.{run_safe}
use Rattle.run_world.proofs.WorldRuns.{world_is_run}
use Rattle.run_world.proofs.laws.worlds_are_safe.Goals as goal

pub returns : goal.returns
returns c = λ n actors events are. run_safe n (moving_of (world_after (new_world n actors) events).trace) (world_is_run n actors events are)
