use Rattle.std.proofs.Common.{refl}
use Rattle.disk_files.proofs.HoldsLaws.{fresh_stands}
use Rattle.disk_files.proofs.worked.no_files_stand_for_a_fresh_node.Goals as goal

pub returns : goal.returns
returns c = fresh_stands _ (λ name. refl)
