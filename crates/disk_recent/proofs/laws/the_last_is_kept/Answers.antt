use Rattle.disk_recent.proofs.Kept.{kept_last}
use Rattle.disk_recent.proofs.laws.the_last_is_kept.Goals as goal

pub returns : goal.returns
returns c = kept_last
