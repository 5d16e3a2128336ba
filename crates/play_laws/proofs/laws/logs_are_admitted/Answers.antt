use Rattle.play_laws.proofs.LineLaws.{logs_are_admitted}
use Rattle.play_laws.proofs.laws.logs_are_admitted.Goals as goal

pub returns : goal.returns
returns c = logs_are_admitted
