use Rattle.disk_node.proofs.DoneAppends.{appends_within}
use Rattle.disk_node.proofs.doing_laws.appends_are_within.Goals as goal

pub returns : goal.returns
returns c = appends_within
