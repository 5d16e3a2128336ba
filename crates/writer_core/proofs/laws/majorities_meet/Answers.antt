use Rattle.writer_core.proofs.RoundLaws.{meet}
use Rattle.writer_core.proofs.laws.majorities_meet.Goals as goal

pub returns : goal.returns
returns c = meet
