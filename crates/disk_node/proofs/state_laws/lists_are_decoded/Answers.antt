use Rattle.disk_node.proofs.StateLaws.{list_decoded}
use Rattle.disk_node.proofs.state_laws.lists_are_decoded.Goals as goal

pub returns : goal.returns
returns c = list_decoded
