use Rattle.disk_recent.proofs.Kept.{kept_in_turn}
use Rattle.disk_recent.proofs.laws.pushes_keep_in_turn.Goals as goal

pub returns : goal.returns
returns c = kept_in_turn
