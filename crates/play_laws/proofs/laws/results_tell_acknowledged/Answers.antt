use Rattle.play_laws.proofs.Said.{results_tell_acknowledged}
use Rattle.play_laws.proofs.laws.results_tell_acknowledged.Goals as goal

pub returns : goal.returns
returns c = results_tell_acknowledged
