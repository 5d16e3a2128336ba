use Rattle.writer_core.proofs.LiveLaws.{reached_live}
use Rattle.writer_core.proofs.laws.writers_are_live.Goals as goal

pub returns : goal.returns
returns c = reached_live
