use Rattle.play_laws.proofs.LineLaws.{line_replays}
use Rattle.play_laws.proofs.laws.line_replays.Goals as goal

pub returns : goal.returns
returns c = line_replays
