use Rattle.run_world.proofs.WorldRuns.{world_is_run}
use Rattle.run_world.proofs.laws.world_steps_are_a_run.Goals as goal

pub returns : goal.returns
returns c = world_is_run
