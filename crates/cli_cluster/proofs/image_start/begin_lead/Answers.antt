use Rattle.std.proofs.Common.{◌∙◌, ap}
use Rattle.cli_cluster.specs.Images.{FolderView}
use Rattle.cli_cluster.proofs.ImageLaws.{begins, has_folder}
use Rattle.cli_cluster.proofs.CauseLaws.{no_fault_at}
use Rattle.cli_cluster.proofs.image_start.begin_lead.Goals as goal

pub returns-clause-begun : goal.returns-clause-begun
returns-clause-begun g c = begins c.args.nodes _ _ c.over.result.actor (ap (λ (v : FolderView g.row.D.Denot). v.actor) c.over.ensures ∙ c.in_ok-actor.ensures)

pub returns-clause-folder : goal.returns-clause-folder
returns-clause-folder g c =
    has_folder g.D.DiskModel c.args.disk c.start_of.new.disk _ c.over.result c.start_of.ensures.stays
    (no_fault_at g.D.DiskModel c.args.disk c.start_of.new.disk c.start_of.result _ c.start_of.ensures.cause c.in_ok-start_of.was) c.over.ensures
