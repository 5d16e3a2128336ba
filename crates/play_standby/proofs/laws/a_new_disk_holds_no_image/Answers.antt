use Rattle.play_standby.proofs.DiskLaws.{holds_none}
use Rattle.play_standby.proofs.laws.a_new_disk_holds_no_image.Goals as goal

pub returns : goal.returns
returns c = holds_none
