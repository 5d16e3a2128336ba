use Rattle.disk_node.proofs.Decodes.{number_decoded, epoch_decoded, epoch_had}
use Rattle.disk_node.proofs.state_laws.numbers_are_decoded.Goals as goal

pub returns-clause-number : goal.returns-clause-number
returns-clause-number c = number_decoded

pub returns-clause-epoch : goal.returns-clause-epoch
returns-clause-epoch c = epoch_decoded

pub returns-clause-had : goal.returns-clause-had
returns-clause-had c = epoch_had
