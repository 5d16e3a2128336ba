use Rattle.disk_opening.proofs.StableLaws.{stable_ready}
use Rattle.disk_opening.proofs.laws.stable_files_stand.Goals as goal

pub returns : goal.returns
returns g c = λ gs stable tidy stands. stable_ready (g.D.DiskModel.view c.args._disk.now) stable gs tidy stands
