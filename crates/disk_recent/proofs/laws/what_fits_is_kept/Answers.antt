use Rattle.disk_recent.proofs.Kept.{kept_since}
use Rattle.disk_recent.proofs.laws.what_fits_is_kept.Goals as goal

pub returns : goal.returns
returns c = kept_since
