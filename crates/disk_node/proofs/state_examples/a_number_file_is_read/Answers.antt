use Rattle.std.proofs.Common.{ap}
use Rattle.disk_node.specs.Decoded.{number_in}
use Rattle.disk_node.specs.FileState.{state_of}
use Rattle.disk_node.proofs.state_examples.a_number_file_is_read.Goals as goal

pub returns : goal.returns
unfolding state_of
returns c files m rows is = ap number_in is
