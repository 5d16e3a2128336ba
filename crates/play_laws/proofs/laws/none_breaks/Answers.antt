use Rattle.play_laws.proofs.Unbroken.{none_breaks}
use Rattle.play_laws.proofs.laws.none_breaks.Goals as goal

pub returns : goal.returns
returns c = none_breaks
