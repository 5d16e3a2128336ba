use Rattle.disk_files.proofs.HoldsLaws.{fresh_holds}
use Rattle.disk_files.proofs.laws.empty_disk_is_fresh.Goals as goal

pub returns : goal.returns
returns g c = λ t. fresh_holds _ (g.met.D.Disk.sound _ t)
