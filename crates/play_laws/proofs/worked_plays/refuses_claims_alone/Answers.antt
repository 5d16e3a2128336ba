use Rattle.play_laws.proofs.AckedWorked.{claimed}
use Rattle.play_laws.proofs.worked_plays.refuses_claims_alone.Goals as goal

pub returns : goal.returns
returns c = claimed
