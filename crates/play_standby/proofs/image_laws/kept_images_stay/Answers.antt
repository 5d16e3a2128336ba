use Rattle.play_standby.proofs.DiskLaws.{kept_stays}
use Rattle.play_standby.proofs.image_laws.kept_images_stay.Goals as goal

pub returns : goal.returns
returns c = kept_stays
