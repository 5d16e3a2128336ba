use Rattle.disk_node.proofs.DoneCosts.{costs_kept}
use Rattle.disk_node.proofs.doing_laws.costs_are_kept.Goals as goal

pub returns : goal.returns
returns c = costs_kept
