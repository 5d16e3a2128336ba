use Rattle.play_laws.proofs.EndStates.{finals_are_on_line}
use Rattle.play_laws.proofs.laws.finals_are_on_line.Goals as goal

pub returns : goal.returns
returns c = finals_are_on_line
