use Rattle.play_laws.proofs.Worked.{playable, play, end, safe, keeps}
use Rattle.play_laws.proofs.examples.shows_safe_standby.Goals as goal

pub returns : goal.returns
returns c = record { playable = playable; play = play; end = end; safe = safe; keeps = keeps }
