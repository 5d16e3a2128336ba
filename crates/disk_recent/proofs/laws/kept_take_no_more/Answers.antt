use Rattle.disk_recent.proofs.Kept.{kept_sized}
use Rattle.disk_recent.proofs.laws.kept_take_no_more.Goals as goal

pub returns : goal.returns
returns c = kept_sized
