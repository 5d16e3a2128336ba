use Rattle.play_laws.proofs.AckedWorked.{orphan}
use Rattle.play_laws.proofs.examples.refuses_orphan_batch.Goals as goal

pub returns : goal.returns
returns c = orphan
