use Rattle.disk_recent.proofs.Kept.{kept-drop}
use Rattle.disk_recent.proofs.laws.kept_are_newest.Goals as goal

pub returns : goal.returns
returns c = kept-drop
