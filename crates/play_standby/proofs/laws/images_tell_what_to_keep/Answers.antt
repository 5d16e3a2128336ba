use Rattle.play_standby.proofs.DiskLaws.{min_of}
use Rattle.play_standby.proofs.laws.images_tell_what_to_keep.Goals as goal

pub returns : goal.returns
returns c = min_of
