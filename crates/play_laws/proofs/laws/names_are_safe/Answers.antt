use Rattle.play_laws.proofs.Safeties.{names_are_safe}
use Rattle.play_laws.proofs.laws.names_are_safe.Goals as goal

pub returns : goal.returns
returns c = names_are_safe
