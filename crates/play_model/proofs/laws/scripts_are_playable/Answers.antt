use Rattle.play_model.proofs.ScriptLaws.{playable, numbers_fit}
use Rattle.play_model.proofs.laws.scripts_are_playable.Goals as goal

pub returns : goal.returns
returns c = record { lines = playable; numbers = numbers_fit }
