use Rattle.run_world.proofs.WorldSeen.{unchanged}
use Rattle.run_world.proofs.laws.not_next_changes_nothing.Goals as goal

pub returns : goal.returns
returns c = unchanged
