use Rattle.play_laws.proofs.Replays.{actors_hold_replays}
use Rattle.play_laws.proofs.laws.actors_hold_replays.Goals as goal

pub returns : goal.returns
returns c = actors_hold_replays
