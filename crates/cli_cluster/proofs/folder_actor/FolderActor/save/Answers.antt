use Rattle.std.proofs.Common.{subst}
use Rattle.cli_cluster.specs.Images.{FolderView, SavesIn}
use Rattle.cli_cluster.proofs.folder_actor.FolderActor.save.Goals as goal

pub returns-clause-saves : goal.returns-clause-saves
returns-clause-saves g c = subst (λ (v : FolderView g.row.D.Denot). SavesIn g.D.DiskModel v.actor c.save_in.result v.disk c.save_in.new.disk) c.self.view_is c.save_in.ensures
