use Rattle.disk_node.proofs.StateLaws.{up_decoded, down_decoded}
use Rattle.disk_node.proofs.state_laws.states_are_decoded.Goals as goal

pub returns-clause-up : goal.returns-clause-up
returns-clause-up c = up_decoded

pub returns-clause-down : goal.returns-clause-down
returns-clause-down c = down_decoded
