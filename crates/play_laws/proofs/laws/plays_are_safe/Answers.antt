use Rattle.play_laws.proofs.NamedPlays.{plays_are_safe}
use Rattle.play_laws.proofs.laws.plays_are_safe.Goals as goal

pub returns : goal.returns
returns c = plays_are_safe
